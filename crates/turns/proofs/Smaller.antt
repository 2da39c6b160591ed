-- Lists that are compared from the front: "not smaller" can be chained, of two lists one is not smaller, and so it is of rows in falling order.
use Prim.Native.Nat.{ℕ, ◌<◌, ◌≤◌}
use mathlib.Core.Bool.{Bool, true, false, not, ◌&&◌, ◌||◌, true≢false}
use mathlib.Core.List.{List, [], ◌∷◌}
use mathlib.Core.Path.{◌≡◌, refl, sym, ◌∙◌}
use native.Mathlib.Omega.{arith}
use lib.Dec.{ltb, eqb}
use borrow.Author.Tests.{le-ltb, lt-ltb, ltb-true, ltb-false, eqb-true, eqb-false, eq-eqb, ne_eqb}
use Rattle.turns.specs.InOrder.{smaller}
use Rattle.turns.specs.Turns.{PlacedRow, path_loads, stands_before}

-- k is not smaller than l
pub data AtLeast : List ℕ → List ℕ → Type 0 where
  ended : {k : List ℕ} → AtLeast k []
  above : {x y : ℕ} {k l : List ℕ} → y < x → AtLeast (x ∷ k) (y ∷ l)
  level : {x : ℕ} {k l : List ℕ} → AtLeast k l → AtLeast (x ∷ k) (x ∷ l)

-- k is smaller than l
pub data Less : List ℕ → List ℕ → Type 0 where
  runs-out : {y : ℕ} {l : List ℕ} → Less [] (y ∷ l)
  below : {x y : ℕ} {k l : List ℕ} → x < y → Less (x ∷ k) (y ∷ l)
  then : {x : ℕ} {k l : List ℕ} → Less k l → Less (x ∷ k) (x ∷ l)

-- the test, taken apart once
pub data Compared (k l : List ℕ) : Type 0 where
  less : Less k l → smaller k l ≡ true → Compared k l
  not-less : AtLeast k l → smaller k l ≡ false → Compared k l

pub compared : (k l : List ℕ) → Compared k l
unfolding smaller
compared [] [] = not-less ended refl
compared [] (y ∷ l) = less runs-out refl
compared (x ∷ k) [] = not-less ended refl
compared (x ∷ k) (y ∷ l) = go (ltb x y) refl (eqb x y) refl (compared k l)
  where
    go : (b : Bool) → ltb x y ≡ b → (c : Bool) → eqb x y ≡ c → Compared k l → Compared (x ∷ k) (y ∷ l)
    go true e c f on = less (below (ltb-true x y e)) (rw e)
    go false e false f on = not-less (above {x = x} {y = y} (omega (arith, ltb-false x y e, eqb-false x y f))) (rw (e, f))
    go false e true f (less o g) = less (rw (← eqb-true x y f) (then o)) (rw (e, f) g)
    go false e true f (not-less o g) = not-less (rw (← eqb-true x y f) (level o)) (rw (e, f) g)

pub at-least-chain : {k l m : List ℕ} → AtLeast k l → AtLeast l m → AtLeast k m
at-least-chain p ended = ended
at-least-chain (above {x = x} p) (above {y = z} q) = above {x = x} {y = z} (omega arith)
at-least-chain (above p) (level q) = above p
at-least-chain (level p) (above q) = above q
at-least-chain (level p) (level q) = level (at-least-chain p q)

pub less-at-least : {k l : List ℕ} → Less k l → AtLeast l k
less-at-least runs-out = ended
less-at-least (below p) = above p
less-at-least (then p) = level (less-at-least p)

-- so the test says
at-least-false : {k l : List ℕ} → AtLeast k l → smaller k l ≡ false
unfolding smaller
at-least-false {k = []} ended = refl
at-least-false {k = x ∷ k} ended = refl
at-least-false (above {x = x} {y = y} p) = rw (le-ltb x y (omega arith), ne_eqb x y (λ e. omega arith))
at-least-false (level {x = x} p) = rw (le-ltb x x (omega arith), eq-eqb x x refl) (at-least-false p)

less-true : {k l : List ℕ} → Less k l → smaller k l ≡ true
unfolding smaller
less-true runs-out = refl
less-true (below {x = x} {y = y} p) = rw (lt-ltb x y p)
less-true (then {x = x} p) = rw (le-ltb x x (omega arith), eq-eqb x x refl) (less-true p)

pub less-not : {k l : List ℕ} → Less k l → AtLeast k l → ⊥
less-not p q = true≢false (sym (less-true p) ∙ at-least-false q)

-- ---- lists with a place each: the larger list first, and of equal ones the earlier place

abbrev standing : List ℕ → List ℕ → ℕ → ℕ → Bool
standing k l p q = smaller l k || (not (smaller k l) && ltb p q)

-- k at p does not come behind l at q
record UpTo (k l : List ℕ) (p q : ℕ) : Type 0 where
  list : AtLeast k l
  tie : AtLeast l k → p ≤ q

up-to-chain : {k l m : List ℕ} {p q r : ℕ} → UpTo k l p q → UpTo l m q r → UpTo k m p r
up-to-chain a b =
    record {
      list = at-least-chain a.list b.list;
      tie = λ t. omega (arith, a.tie (at-least-chain b.list t), b.tie (at-least-chain t a.list));
    }

module _ (k l : List ℕ) (p q : ℕ) where
  -- where the test holds, and where it does not
  data Stood : Type 0 where
    stood : UpTo k l p q → standing k l p q ≡ true → Stood
    behind : UpTo l k q p → standing k l p q ≡ false → Stood

  stood-at : Stood
  stood-at = go (compared l k) (compared k l) (ltb p q) refl
    where
      go : Compared l k → Compared k l → (b : Bool) → ltb p q ≡ b → Stood
      go (less o e) c b f = stood (record { list = less-at-least o; tie = λ t. absurd (less-not o t) }) (rw e)
      go (not-less o e) (less i g) b f = behind (record { list = o; tie = λ t. absurd (less-not i t) }) (rw (e, g))
      go (not-less o e) (not-less i g) true f = stood (record { list = i; tie = λ t. omega (arith, ltb-true p q f) }) (rw (e, g, f))
      go (not-less o e) (not-less i g) false f = behind (record { list = o; tie = λ t. ltb-false p q f }) (rw (e, g, f))

  up_to : standing k l p q ≡ false → UpTo l k q p
  up_to e = elim stood-at [ stood u f ↦ absurd (true≢false (sym f ∙ e)) | behind u f ↦ u ]

  up-to-true : standing k l p q ≡ true → UpTo k l p q
  up-to-true e = elim stood-at [ stood u f ↦ u | behind u f ↦ absurd (true≢false (sym e ∙ f)) ]

  not-standing : UpTo l k q p → standing k l p q ≡ false
  not-standing u = go (compared l k) (compared k l)
    where
      go : Compared l k → Compared k l → standing k l p q ≡ false
      go (less o e) c = absurd (less-not o u.list)
      go (not-less o e) (less i g) = rw (e, g)
      go (not-less o e) (not-less i g) = rw (e, g, le-ltb p q (u.tie i))

  -- of two places the later one comes first only with the larger list
  pub later-standing : q ≤ p → standing k l p q ≡ smaller l k
  later-standing h = go (compared l k) (compared k l)
    where
      go : Compared l k → Compared k l → standing k l p q ≡ smaller l k
      go (less o e) c = rw e
      go (not-less o e) (less i g) = rw (e, g)
      go (not-less o e) (not-less i g) = rw (e, g, le-ltb p q h)

-- ---- rows in falling order

module _ (n : ℕ) (load : ℕ → ℕ) where
  pub not-both : (a b : PlacedRow) → stands_before n load a b ≡ true → stands_before n load b a ≡ false
  unfolding stands_before
  not-both a b e =
      not-standing (path_loads n load b.row) (path_loads n load a.row) b.place a.place
      (up-to-true (path_loads n load a.row) (path_loads n load b.row) a.place b.place e)

  pub chain : (a b c : PlacedRow) → stands_before n load b a ≡ false → stands_before n load c b ≡ false → stands_before n load c a ≡ false
  unfolding stands_before
  chain a b c e f =
      not-standing (path_loads n load c.row) (path_loads n load a.row) c.place a.place
      (up-to-chain (up_to (path_loads n load b.row) (path_loads n load a.row) b.place a.place e)
      (up_to (path_loads n load c.row) (path_loads n load b.row) c.place b.place f))

  pub later-stands : (a b : PlacedRow) → a.place ≤ b.place → stands_before n load b a ≡ smaller (path_loads n load a.row) (path_loads n load b.row)
  unfolding stands_before
  later-stands a b h = later-standing (path_loads n load b.row) (path_loads n load a.row) b.place a.place h
