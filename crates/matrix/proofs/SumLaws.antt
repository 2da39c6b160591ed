-- The sums of rows by pair: the same in either order of a pair, 0 on the diagonal, and over rows that rise each pair's own amount; rows that rise are told by their sums.
use Prim.Native.Nat.{ℕ, ◌+◌, ◌*◌, ◌≤◌, ◌<◌}
use mathlib.Core.Bool.{Bool, true, false, cond, ◌&&◌, ◌||◌}
use mathlib.Core.List.{List, [], ◌∷◌, ◌++◌}
use mathlib.Core.Logic.{◌⊎◌, inl, inr}
use mathlib.Core.Path.{◌≡◌, refl, ap, ◌∙◌, sym, subst}
use native.Mathlib.Omega.{arith}
use lib.ListN.{length}
use native.Mathlib.Decide.{dec_lt, ℕ_discrete}
use lib.Dec.{eqb}
use borrow.Author.Tests.{eq-eqb, ne_eqb, eqb-true}
use Rattle.ring.specs.Lists.{Each, none, more}
use Rattle.ring.specs.Demand.{demand, OnRing}
use Rattle.ring.specs.TableRows.{PairBefore}
use Rattle.ring.specs.declared.types.Demand.{Demand}
use Rattle.ring.proofs.Side.{cond-elim}
use Rattle.matrix.specs.Demands.{same_pair, joins, sum_of}

-- ---- one row

-- what a row adds
abbrev pub part_of : Demand → ℕ → ℕ → ℕ
part_of r i j = cond (joins r i j) r.amount 0

pub part_small : (r : Demand) (i j : ℕ) → part_of r i j ≤ r.amount
part_small r i j = cond-elim (λ x. x ≤ r.amount) (joins r i j) r.amount 0 (λ e. omega arith) (λ e. omega arith)

same-pair : (a b i j : ℕ) → a ≡ i → b ≡ j → same_pair a b i j ≡ true
unfolding same_pair
same-pair a b i j e f = rw (eq-eqb a i e, eq-eqb b j f)

other-pair : (a b i j : ℕ) → ((a ≡ i) × (b ≡ j) → ⊥) → same_pair a b i j ≡ false
unfolding same_pair
other-pair a b i j h =
    elim (ℕ_discrete a i) [
      | yes e ↦ elim (ℕ_discrete b j) [ yes f ↦ absurd (h (e, f)) | no f ↦ rw (eq-eqb a i e, ne_eqb b j f) ]
      | no e ↦ rw (ne_eqb a i e)
    ]

-- a row of a pair names its nodes, in either order
pub joined : (r : Demand) (i j : ℕ) → joins r i j ≡ true → ((r.first ≡ i) × (r.second ≡ j)) ⊎ ((r.first ≡ j) × (r.second ≡ i))
unfolding same_pair
joined r i j e = go (eqb r.first i) refl (eqb r.second j) refl (eqb r.first j) refl (eqb r.second i) refl e
  where
    go : (a : Bool) → eqb r.first i ≡ a → (b : Bool) → eqb r.second j ≡ b → (c : Bool) → eqb r.first j ≡ c → (d : Bool) → eqb r.second i ≡ d → ((a && b) || (c && d)) ≡ true
        → ((r.first ≡ i) × (r.second ≡ j)) ⊎ ((r.first ≡ j) × (r.second ≡ i))
    go true ea true eb c ec d ed h = inl (eqb-true _ _ ea, eqb-true _ _ eb)
    go true ea false eb true ec true ed h = inr (eqb-true _ _ ec, eqb-true _ _ ed)
    go true ea false eb true ec false ed h = absurd (cc)
    go true ea false eb false ec d ed h = absurd (cc)
    go false ea b eb true ec true ed h = inr (eqb-true _ _ ec, eqb-true _ _ ed)
    go false ea b eb true ec false ed h = absurd (cc)
    go false ea b eb false ec d ed h = absurd (cc)

module _ (r : Demand) (i j : ℕ) where
  pub part-own : r.first ≡ i → r.second ≡ j → part_of r i j ≡ r.amount
  part-own e f = rw (same-pair r.first r.second i j e f)

  pub part-other : ((r.first ≡ i) × (r.second ≡ j) → ⊥) → ((r.first ≡ j) × (r.second ≡ i) → ⊥) → part_of r i j ≡ 0
  part-other h k = rw (other-pair r.first r.second i j h, other-pair r.first r.second j i k)

  or-either : (x y : Bool) → (x || y) ≡ (y || x)
  or-either true true = refl
  or-either true false = refl
  or-either false true = refl
  or-either false false = refl

  pub part-either : part_of r i j ≡ part_of r j i
  part-either = ap (λ b. cond b r.amount 0) (or-either (same_pair r.first r.second i j) (same_pair r.first r.second j i))

-- ---- all rows

pub sum-append : (rs ss : List Demand) (i j : ℕ) → sum_of (rs ++ ss) i j ≡ sum_of rs i j + sum_of ss i j
unfolding sum_of
sum-append [] ss i j = omega arith
sum-append (r ∷ rs) ss i j = omega (arith, sum-append rs ss i j)

pub sum_more : (rs : List Demand) (r : Demand) (i j : ℕ) → sum_of (rs ++ r ∷ []) i j ≡ sum_of rs i j + part_of r i j
unfolding sum_of
sum_more rs r i j = omega (arith, sum-append rs (r ∷ []) i j)

-- amounts within a limit have no large sum
pub sum-small : (most : ℕ) (rs : List Demand) (i j : ℕ) → Each (λ r. r.amount ≤ most) rs → sum_of rs i j ≤ most * length rs
unfolding sum_of
sum-small most [] i j none = omega arith
sum-small most (r ∷ rs) i j (more h hs) = omega (arith, part_small r i j, sum-small most rs i j hs)

pub sum-either : (rs : List Demand) (i j : ℕ) → sum_of rs i j ≡ sum_of rs j i
unfolding sum_of
sum-either [] i j = refl
sum-either (r ∷ rs) i j = omega (arith, part-either r i j, sum-either rs i j)

pub sum-diagonal : {n : ℕ} {rs : List Demand} → Each (OnRing n) rs → (i : ℕ) → sum_of rs i i ≡ 0
unfolding sum_of
sum-diagonal none i = refl
sum-diagonal (more {a = r} o os) i =
    omega (arith, part-other r i i (λ e. omega (arith, e.0, e.1, o.order)) (λ e. omega (arith, e.0, e.1, o.order)), sum-diagonal os i)

-- ---- rows that rise, behind the pair a, b

pub data Rising : ℕ → ℕ → List Demand → Type 0 where
  no_row : {a b : ℕ} → Rising a b []
  next_row : {a b : ℕ} {r : Demand} {rs : List Demand} → PairBefore a b r.first r.second → Rising r.first r.second rs → Rising a b (r ∷ rs)

before-trans : {a b c d e f : ℕ} → PairBefore a b c d → PairBefore c d e f → PairBefore a b e f
before-trans (inl l) (inl m) = inl (omega arith)
before-trans (inl l) (inr m) = inl (omega (arith, m.0))
before-trans (inr l) (inl m) = inl (omega (arith, l.0))
before-trans (inr l) (inr m) = inr (l.0 ∙ m.0, omega (arith, l.1, m.1))

pub rising-from : {a b c d : ℕ} {rs : List Demand} → PairBefore a b c d → Rising c d rs → Rising a b rs
rising-from p no_row = no_row
rising-from p (next_row q rest) = next_row (before-trans p q) rest

before-not : {a b c d : ℕ} → PairBefore a b c d → (a ≡ c) × (b ≡ d) → ⊥
before-not (inl l) e = omega (arith, e.0)
before-not (inr l) e = omega (arith, l.1, e.1)

-- a pair up to which all rows come later has no sum
pub sum-none : {n i j : ℕ} {rs : List Demand} → i < j → Each (OnRing n) rs → Rising i j rs → sum_of rs i j ≡ 0
unfolding sum_of
sum-none l none no_row = refl
sum-none {i = i} {j = j} l (more {a = r} o os) (next_row p rest) =
    omega (arith, part-other r i j (λ e. before-not p (sym e.0, sym e.1)) (λ e. omega (arith, e.0, e.1, o.order)), sum-none l os (rising-from p rest))

-- ---- rows that rise and have amounts are told by their sums

data Order (a b c d : ℕ) : Type 0 where
  first_before : PairBefore a b c d → Order a b c d
  the_same : a ≡ c → b ≡ d → Order a b c d
  second_before : PairBefore c d a b → Order a b c d

order : (a b c d : ℕ) → Order a b c d
order a b c d =
    elim (dec_lt a c) [
      | yes l ↦ first_before (inl l)
      | no l ↦ elim (dec_lt c a) [
        | yes m ↦ second_before (inl m)
        | no m ↦ elim (dec_lt b d) [
          | yes p ↦ first_before (inr (omega arith, p))
          | no p ↦ elim (dec_lt d b) [ yes q ↦ second_before (inr (omega arith, q)) | no q ↦ the_same (omega arith) (omega arith) ]
        ]
      ]
    ]

same_row : (r s : Demand) → r.first ≡ s.first → r.second ≡ s.second → r.amount ≡ s.amount → r ≡ s
same_row r s e f g = ap (λ i. demand i r.second r.amount) e ∙ ap (λ j. demand s.first j r.amount) f ∙ ap (λ d. demand s.first s.second d) g

pub same-sums : {n a b : ℕ} (rs ss : List Demand) → Each (OnRing n) rs → Each (OnRing n) ss → Each (λ r. 1 ≤ r.amount) rs → Each (λ r. 1 ≤ r.amount) ss
    → Rising a b rs → Rising a b ss → ((i j : ℕ) → i < j → sum_of rs i j ≡ sum_of ss i j) → rs ≡ ss
unfolding sum_of
same-sums [] [] none none none none no_row no_row h = refl
same-sums (r ∷ rs) [] (more o os) none (more d ds) none (next_row p ps) no_row h =
    absurd (omega (arith, h r.first r.second o.order, part-own r r.first r.second refl refl))
same-sums [] (s ∷ ss) none (more o os) none (more d ds) no_row (next_row p ps) h =
    absurd (omega (arith, h s.first s.second o.order, part-own s s.first s.second refl refl))
same-sums (r ∷ rs) (s ∷ ss) (more o os) (more q qs) (more d ds) (more e es) (next_row p ps) (next_row u us) h =
    go (order r.first r.second s.first s.second) (λ rising. same-sums rs ss os qs ds es ps rising)
  where
    go : Order r.first r.second s.first s.second → (Rising r.first r.second ss → ((i j : ℕ) → i < j → sum_of rs i j ≡ sum_of ss i j) → rs ≡ ss) → r ∷ rs ≡ s ∷ ss
    go (first_before l) ih =
        absurd (omega (arith, h r.first r.second o.order, part-own r r.first r.second refl refl, sum-none o.order (more q qs) (next_row l us)))
    go (second_before l) ih =
        absurd (omega (arith, h s.first s.second q.order, part-own s s.first s.second refl refl, sum-none q.order (more o os) (next_row l ps)))
    go (the_same x y) ih =
        let rising : Rising r.first r.second ss = subst (λ k. Rising k r.second ss) (sym x) (subst (λ k. Rising s.first k ss) (sym y) us) in
        let own : r.amount ≡ s.amount = omega (arith, h r.first r.second o.order, part-own r r.first r.second refl refl, part-own s r.first r.second (sym x) (sym y), sum-none o.order os ps, sum-none o.order qs rising) in
        let k : r ≡ s = same_row r s x y own in
        let parts : (i j : ℕ) → part_of r i j ≡ part_of s i j = λ i j. ap (λ (z : Demand). part_of z i j) k in
        rw k (ap (λ l. s ∷ l) (ih rising (λ i j l. omega (arith, h i j l, parts i j))))
