-- The rows of a matrix: they rise, are in a table's range, and add up to its entries; by the recursion over the pairs in table order.
use Prim.Native.Nat.{ℕ, zero, suc, ◌+◌, ◌-◌, ◌*◌, ◌/◌, ◌≤◌, ◌<◌}
use mathlib.Core.Bool.{Bool, true, false, cond}
use mathlib.Core.List.{List, [], ◌∷◌, ◌++◌}
use mathlib.Core.Logic.{inl, inr}
use mathlib.Core.Path.{◌≡◌, refl, ap, ◌∙◌, sym}
use native.Mathlib.Omega.{arith}
use native.Mathlib.Decide.{ℕ_discrete}
use lib.Dec.{eqb}
use lib.ListN.{length, length-append}
use borrow.Author.Tests.{eqb-true, eqb-false}
use Rattle.ring.specs.Limits.{desk}
use Rattle.ring.specs.Lists.{listed, Each, none, more}
use Rattle.ring.specs.Demand.{demand, OnRing}
use Rattle.ring.specs.TableRows.{PairBefore}
use Rattle.ring.specs.declared.types.Demand.{Demand}
use Rattle.ring.proofs.Listed.{each-listed, listed-length, listed_same}
use Rattle.matrix.specs.Demands.{pairs_from, above_zero, rows_by, sum_of}
use Rattle.matrix.specs.Matrix.{Node}
use Rattle.matrix.proofs.SumLaws.{part_of, part_small, sum-append, part-own, part-other, Rising, no_row, next_row, rising-from}

-- ---- how many

-- how many pairs k nodes have
unfoldable pub pair_count : ℕ → ℕ
pair_count zero = 0
pair_count (suc k) = k + pair_count k

pub count-grows : (k m : ℕ) → pair_count k ≤ pair_count (k + m)
unfolding pair_count
count-grows k zero = let e : k + 0 ≡ k = omega arith in rw e (omega arith)
count-grows k (suc m) = let e : k + suc m ≡ suc (k + m) = omega arith in rw e (omega (arith, count-grows k m))

-- how many pairs the largest ring has
abbrev pub most_pairs : ℕ
most_pairs = desk.nodes * (desk.nodes - 1) / 2

pub count_small : (n : ℕ) → n ≤ desk.nodes → pair_count n ≤ most_pairs
unfolding pair_count
count_small n l =
    let e : n + (desk.nodes - n) ≡ desk.nodes = omega arith in
    rw e at (count-grows n (desk.nodes - n))

pub above-append : (rs ss : List Demand) → above_zero (rs ++ ss) ≡ above_zero rs ++ above_zero ss
unfolding above_zero
above-append [] ss = refl
above-append (r ∷ rs) ss = go (eqb r.amount 0) (above-append rs ss)
  where
    go : (z : Bool) → above_zero (rs ++ ss) ≡ above_zero rs ++ above_zero ss
        → cond z (above_zero (rs ++ ss)) (r ∷ above_zero (rs ++ ss)) ≡ cond z (above_zero rs) (r ∷ above_zero rs) ++ above_zero ss
    go true ih = ih
    go false ih = ap (λ l. r ∷ l) ih

-- ---- the rows above 0

-- what holds of all rows holds of those above 0
pub above-each : {P : Demand → Type 0} {rs : List Demand} → Each P rs → Each P (above_zero rs)
unfolding above_zero
above-each none = none
above-each {P} (more {a = r} {l = rs} h hs) = go (eqb r.amount 0) (above-each hs)
  where
    go : (z : Bool) → Each P (above_zero rs) → Each P (cond z (above_zero rs) (r ∷ above_zero rs))
    go true ih = ih
    go false ih = more h ih

pub above-some : (rs : List Demand) → Each (λ r. 1 ≤ r.amount) (above_zero rs)
unfolding above_zero
above-some [] = none
above-some (r ∷ rs) = go (eqb r.amount 0) refl (above-some rs)
  where
    go : (z : Bool) → eqb r.amount 0 ≡ z → Each (λ r. 1 ≤ r.amount) (above_zero rs) → Each (λ r. 1 ≤ r.amount) (cond z (above_zero rs) (r ∷ above_zero rs))
    go true e ih = ih
    go false e ih = let n : r.amount ≡ 0 → ⊥ = eqb-false r.amount 0 e in let q : 1 ≤ r.amount = omega arith in more q ih

pub above-rising : {a b : ℕ} {rs : List Demand} → Rising a b rs → Rising a b (above_zero rs)
unfolding above_zero
above-rising no_row = no_row
above-rising {a} {b} (next_row {r = r} {rs = rs} p rest) = go (eqb r.amount 0) (above-rising rest)
  where
    go : (z : Bool) → Rising r.first r.second (above_zero rs) → Rising a b (cond z (above_zero rs) (r ∷ above_zero rs))
    go true ih = rising-from p ih
    go false ih = next_row p ih

pub above-sum : (rs : List Demand) (i j : ℕ) → sum_of (above_zero rs) i j ≡ sum_of rs i j
unfolding above_zero sum_of
above-sum [] i j = refl
above-sum (r ∷ rs) i j = go (eqb r.amount 0) refl (above-sum rs i j)
  where
    go : (z : Bool) → eqb r.amount 0 ≡ z → sum_of (above_zero rs) i j ≡ sum_of rs i j → sum_of (cond z (above_zero rs) (r ∷ above_zero rs)) i j ≡ part_of r i j + sum_of rs i j
    go true e ih = omega (arith, eqb-true r.amount 0 e, part_small r i j)
    go false e ih = omega arith

pub above-short : (rs : List Demand) → length (above_zero rs) ≤ length rs
unfolding above_zero
above-short [] = omega arith
above-short (r ∷ rs) = go (eqb r.amount 0) (above-short rs)
  where
    go : (z : Bool) → length (above_zero rs) ≤ length rs → length (cond z (above_zero rs) (r ∷ above_zero rs)) ≤ suc (length rs)
    go true ih = omega arith
    go false ih = omega arith

-- ---- all pairs

each_append : {P : Demand → Type 0} {rs ss : List Demand} → Each P rs → Each P ss → Each P (rs ++ ss)
each_append none q = q
each_append (more h hs) q = more h (each_append hs q)

module _ (a : ℕ → ℕ → ℕ) where
  -- the pairs of node i from j on, k of them
  abbrev pairs_of : ℕ → ℕ → ℕ → List Demand
  pairs_of i j k = listed (λ x. demand i x (a i x)) j k

  across-rising : (i j k : ℕ) {c d : ℕ} {rest : List Demand} → PairBefore c d i j → ((b : ℕ) → Rising i b rest) → Rising c d (pairs_of i j k ++ rest)
  unfolding listed
  across-rising i j zero p all = rising-from p (all j)
  across-rising i j (suc k) p all = next_row p (across-rising i (suc j) k (inr (refl, omega arith)) all)

  -- of another node's pairs, and of earlier ones, the sum is 0; of its own the entry
  across-other : (i j k x y : ℕ) → i < j → x < y → (x ≡ i → ⊥) → sum_of (pairs_of i j k) x y ≡ 0
  unfolding listed sum_of
  across-other i j zero x y l h n = refl
  across-other i j (suc k) x y l h n =
      omega (arith, part-other (demand i j (a i j)) x y (λ e. n (sym e.0)) (λ e. omega (arith, e.0, e.1)), across-other i (suc j) k x y (omega arith) h n)

  across-later : (i j k y : ℕ) → i < j → y < j → sum_of (pairs_of i j k) i y ≡ 0
  unfolding listed sum_of
  across-later i j zero y l h = refl
  across-later i j (suc k) y l h =
      omega (arith, part-other (demand i j (a i j)) i y (λ e. omega (arith, e.1)) (λ e. omega (arith, e.1)), across-later i (suc j) k y (omega arith) (omega arith))

  across-own : (i j k y : ℕ) → i < j → j ≤ y → y < j + k → sum_of (pairs_of i j k) i y ≡ a i y
  unfolding listed sum_of
  across-own i j zero y l h m = absurd (omega arith)
  across-own i j (suc k) y l h m =
      elim (ℕ_discrete j y) [
        | yes e ↦ omega (arith, part-own (demand i j (a i j)) i y refl e, across-later i (suc j) k y (omega arith) (omega arith), ap (a i) e)
        | no e ↦ omega (arith, part-other (demand i j (a i j)) i y (λ z. e z.1) (λ z. omega (arith, z.1)), across-own i (suc j) k y (omega arith) (omega arith) (omega arith))
      ]

  module _ (n : ℕ) where
    pub pairs-rising : (k i c d : ℕ) → c < i → Rising c d (pairs_from a n i k)
    unfolding pairs_from
    pairs-rising zero i c d l = no_row
    pairs-rising (suc k) i c d l = across-rising i (i + 1) (n - i) (inl l) (λ b. pairs-rising k (i + 1) i b (omega arith))

    pub pairs-each : {P : Demand → Type 0} → ((x y : ℕ) → 1 ≤ x → x < y → y ≤ n → P (demand x y (a x y))) → (k i : ℕ) → 1 ≤ i → i + k ≤ n + 1 → Each P (pairs_from a n i k)
    unfolding pairs_from
    pairs-each h zero i l m = none
    pairs-each h (suc k) i l m =
        each_append (each-listed (λ x. demand i x (a i x)) (i + 1) (n - i) (λ x p q. h i x l (omega arith) (omega arith))) (pairs-each h k (i + 1) (omega arith) (omega arith))

    pairs-count : (k i : ℕ) → i + k ≡ n + 1 → length (pairs_from a n i k) ≡ pair_count k
    unfolding pairs_from pair_count
    pairs-count zero i e = refl
    pairs-count (suc k) i e =
        omega (arith, length-append (pairs_of i (i + 1) (n - i)) (pairs_from a n (i + 1) k), listed-length (λ x. demand i x (a i x)) (i + 1) (n - i), pairs-count k (i + 1) (omega arith))

    pairs-later : (k j x y : ℕ) → x < j → x < y → sum_of (pairs_from a n j k) x y ≡ 0
    unfolding pairs_from sum_of
    pairs-later zero j x y l h = refl
    pairs-later (suc k) j x y l h =
        omega (arith, sum-append (pairs_of j (j + 1) (n - j)) (pairs_from a n (j + 1) k) x y, across-other j (j + 1) (n - j) x y (omega arith) h (λ e. omega arith), pairs-later k (j + 1) x y (omega arith) h)

    pairs-sum : (k i x y : ℕ) → i ≤ x → x < i + k → x < y → y ≤ n → sum_of (pairs_from a n i k) x y ≡ a x y
    unfolding pairs_from
    pairs-sum zero i x y l m h q = absurd (omega arith)
    pairs-sum (suc k) i x y l m h q =
        elim (ℕ_discrete x i) [
          | yes e ↦ rw e (omega (arith, sum-append (pairs_of i (i + 1) (n - i)) (pairs_from a n (i + 1) k) i y, across-own i (i + 1) (n - i) y (omega arith) (omega arith) (omega arith), pairs-later k (i + 1) i y (omega arith) (omega arith)))
          | no e ↦ omega (arith, sum-append (pairs_of i (i + 1) (n - i)) (pairs_from a n (i + 1) k) x y, across-other i (i + 1) (n - i) x y (omega arith) h e, pairs-sum k (i + 1) x y (omega arith) (omega arith) h q)
        ]

    -- ---- the rows

    pub rows-rising : Rising 0 0 (rows_by n a)
    unfolding rows_by
    rows-rising = above-rising (pairs-rising n 1 0 0 (omega arith))

    pub rows-each : {P : Demand → Type 0} → ((x y : ℕ) → 1 ≤ x → x < y → y ≤ n → P (demand x y (a x y))) → Each P (rows_by n a)
    unfolding rows_by
    rows-each h = above-each (pairs-each h n 1 (omega arith) (omega arith))

    pub rows_on : Each (OnRing n) (rows_by n a)
    rows_on = rows-each (λ x y p q r. record { low = p; order = q; high = r })

    pub rows-some : Each (λ r. 1 ≤ r.amount) (rows_by n a)
    unfolding rows_by
    rows-some = above-some (pairs_from a n 1 n)

    -- each pair makes at most one row
    pub rows_few : length (rows_by n a) ≤ pair_count n
    unfolding rows_by
    rows_few = omega (arith, above-short (pairs_from a n 1 n), pairs-count n 1 (omega arith))

    pub rows-counted : n ≤ desk.nodes → length (rows_by n a) ≤ most_pairs
    rows-counted l = omega (arith, rows_few, count_small n l)

    pub rows-sum : (x y : ℕ) → 1 ≤ x → x < y → y ≤ n → sum_of (rows_by n a) x y ≡ a x y
    unfolding rows_by
    rows-sum x y l h q = above-sum (pairs_from a n 1 n) x y ∙ pairs-sum n 1 x y l (omega arith) h q

-- ---- rows of entries that agree

module _ (a b : ℕ → ℕ → ℕ) (n : ℕ) (same : (i j : ℕ) → Node n i → Node n j → a i j ≡ b i j) where
  pairs-same : (i k : ℕ) → 1 ≤ i → i + k ≤ n + 1 → pairs_from a n i k ≡ pairs_from b n i k
  unfolding pairs_from
  pairs-same i zero l h = refl
  pairs-same i (suc k) l h =
      rw (
        listed_same (λ j. demand i j (a i j)) (λ j. demand i j (b i j)) (i + 1) (n - i)
            (λ j p q. ap (demand i j) (same i j (l, omega arith) (omega arith, omega arith))),
        pairs-same (i + 1) k (omega arith) (omega arith),
      )

  pub rows_same : rows_by n a ≡ rows_by n b
  unfolding rows_by
  rows_same = rw (pairs-same 1 n (omega arith) (omega arith))
