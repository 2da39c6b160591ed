-- Two rows' lists compare as the sums of the weights of their loads do: the weights of all smaller loads of the ring together stay below a load's
-- weight, so the first difference decides.
use Rattle.std.specs.Prelude.{filter}
use Prim.Native.Nat.{ℕ, zero, suc, ◌+◌, ◌*◌, ◌≤◌, ◌<◌}
use mathlib.Core.Bool.{Bool, true, false, cond}
use mathlib.Core.List.{List, [], ◌∷◌, map}
use mathlib.Core.Path.{◌≡◌, refl, sym, ◌∙◌}
use native.Mathlib.Omega.{arith}
use native.Mathlib.Decide.{dec_lt, ℕ_discrete}
use lib.Dec.{ltb, eqb}
use borrow.Author.Tests.{lt-ltb, le-ltb, ltb-false, eq-eqb, ne_eqb}
use Rattle.ring.specs.Lists.{Each, none, more, Pairs, and_pairs}
use Rattle.ring.specs.declared.types.Routed.{Routed}
use Rattle.ring.specs.Sheet.{numbers_from}
use Rattle.turns.specs.InOrder.{falling, smaller}
use Rattle.turns.specs.Turns.{on_path, path_loads}
use Rattle.ring.proofs.Side.{cond-elim}
use Rattle.turns.proofs.InOrder.{sum_of, sum-in-order, numbers-fall}
use Rattle.turns.proofs.Smaller.{AtLeast, ended, above, level, Less, runs-out, below, then, less, not-less, compared}
use Rattle.turns.specs.Choosing.{rank_weight_in, rank_weight, sum_to, path_key}

-- ---- sums

sum-most : {A : Type 0} (f g : A → ℕ) → ((x : A) → f x ≤ g x) → (l : List A) → sum_of f l ≤ sum_of g l
unfolding sum_of
sum-most f g h [] = omega arith
sum-most f g h (x ∷ l) = omega (arith, h x, sum-most f g h l)

sum_both : {A : Type 0} (f g h : A → ℕ) → ((x : A) → h x ≡ f x + g x) → (l : List A) → sum_of h l ≡ sum_of f l + sum_of g l
unfolding sum_of
sum_both f g h e [] = refl
sum_both f g h e (x ∷ l) = omega (arith, e x, sum_both f g h e l)

sum-nothing : {A : Type 0} (f : A → ℕ) → ((x : A) → f x ≡ 0) → (l : List A) → sum_of f l ≡ 0
unfolding sum_of
sum-nothing f h [] = refl
sum-nothing f h (x ∷ l) = omega (arith, h x, sum-nothing f h l)

-- over the figures of members with a property
sum_kept : {A : Type 0} (f : ℕ → ℕ) (figure : A → ℕ) (has : A → Bool) (l : List A) → sum_of f (map figure (filter has l)) ≡ sum_of (λ x. cond (has x) (f (figure x)) 0) l
unfolding sum_of
sum_kept f figure has [] = refl
sum_kept f figure has (x ∷ l) =
    let on = sum_kept f figure has l in
    go (has x) refl on
  where
    go : (b : Bool) → has x ≡ b → sum_of f (map figure (filter has l)) ≡ sum_of (λ x. cond (has x) (f (figure x)) 0) l →
        sum_of f (map figure (filter has (x ∷ l))) ≡ sum_of (λ x. cond (has x) (f (figure x)) 0) (x ∷ l)
    go true e on = rw e (omega arith)
    go false e on = rw e (omega arith)

-- ---- the weights of smaller loads stay below a load's weight

module _ (load : ℕ → ℕ) where
  -- x doubled for each link of load y
  doubled : ℕ → ℕ → List ℕ → ℕ
  doubled y x [] = x
  doubled y x (k ∷ ks) = cond (eqb (load k) y) (2 * doubled y x ks) (doubled y x ks)

  double-twice : (y x : ℕ) (ks : List ℕ) → doubled y (2 * x) ks ≡ 2 * doubled y x ks
  unfolding doubled
  double-twice y x [] = refl
  double-twice y x (k ∷ ks) =
      let on = double-twice y x ks in
      go (eqb (load k) y) on
    where
      go : (b : Bool) → doubled y (2 * x) ks ≡ 2 * doubled y x ks → cond b (2 * doubled y (2 * x) ks) (doubled y (2 * x) ks) ≡ 2 * cond b (2 * doubled y x ks) (doubled y x ks)
      go true on = omega arith
      go false on = on

  -- doubling adds at least x each time
  double-adds : (y x : ℕ) (ks : List ℕ) → x + sum_of (λ k. cond (eqb (load k) y) x 0) ks ≤ doubled y x ks
  unfolding doubled sum_of
  double-adds y x [] = omega arith
  double-adds y x (k ∷ ks) = go (eqb (load k) y) (double-adds y x ks)
    where
      go : (b : Bool) → x + sum_of (λ k. cond (eqb (load k) y) x 0) ks ≤ doubled y x ks →
          x + (cond b x 0 + sum_of (λ k. cond (eqb (load k) y) x 0) ks) ≤ cond b (2 * doubled y x ks) (doubled y x ks)
      go true on = omega arith
      go false on = omega arith

  -- the three ways in which a load stands to y
  data Stand (v y : ℕ) : Type 0 where
    lower : v < y → ltb v (suc y) ≡ true → ltb v y ≡ true → eqb v y ≡ false → Stand v y
    equal : v ≡ y → ltb v (suc y) ≡ true → ltb v y ≡ false → eqb v y ≡ true → Stand v y
    higher : y < v → ltb v (suc y) ≡ false → ltb v y ≡ false → eqb v y ≡ false → Stand v y

  stand : (v y : ℕ) → Stand v y
  stand v y =
      elim (dec_lt v y) [
        | yes l ↦ lower l (lt-ltb v (suc y) (omega arith)) (lt-ltb v y l) (ne_eqb v y (λ e. omega arith))
        | no l ↦ elim (ℕ_discrete v y) [
          | yes e ↦ equal e (lt-ltb v (suc y) (omega arith)) (le-ltb v y (omega arith)) (eq-eqb v y e)
          | no e ↦ higher (omega arith) (le-ltb v (suc y) (omega arith)) (le-ltb v y (omega arith)) (ne_eqb v y e)
        ]
      ]

  weight-next : (y : ℕ) (ks : List ℕ) → rank_weight_in load (suc y) ks ≡ doubled y (rank_weight_in load y ks) ks
  unfolding rank_weight_in doubled
  weight-next y [] = refl
  weight-next y (k ∷ ks) = go (stand (load k) y) (weight-next y ks) (double-twice y (rank_weight_in load y ks) ks)
    where
      once : ℕ
      once = cond (ltb (load k) y) (2 * rank_weight_in load y ks) (rank_weight_in load y ks)

      go : Stand (load k) y → rank_weight_in load (suc y) ks ≡ doubled y (rank_weight_in load y ks) ks → doubled y (2 * rank_weight_in load y ks) ks ≡ 2 * doubled y (rank_weight_in load y ks) ks →
          cond (ltb (load k) (suc y)) (2 * rank_weight_in load (suc y) ks) (rank_weight_in load (suc y) ks) ≡ cond (eqb (load k) y) (2 * doubled y once ks) (doubled y once ks)
      go (lower l a b c) on twice = rw (a, b, c) (omega arith)
      go (equal l a b c) on twice = rw (a, b, c) (omega arith)
      go (higher l a b c) on twice = rw (a, b, c) on

  weight-some : (y : ℕ) (ks : List ℕ) → 1 ≤ rank_weight_in load y ks
  unfolding rank_weight_in
  weight-some y [] = omega arith
  weight-some y (k ∷ ks) =
      let on = weight-some y ks in
      cond-elim (λ w. 1 ≤ w) (ltb (load k) y) (2 * rank_weight_in load y ks) (rank_weight_in load y ks) (λ t. omega arith) (λ f. on)

  module _ (ks : List ℕ) where
    abbrev W : ℕ → ℕ
    W v = rank_weight_in load v ks

    -- the weights of the loads below y together
    abbrev under : ℕ → ℕ → ℕ
    under y v = cond (ltb v y) (W v) 0

    all_under : (y : ℕ) → sum_of (λ k. under y (load k)) ks < W y
    all_under zero = omega (arith, sum-nothing (λ k. under 0 (load k)) (λ k. rw (le-ltb (load k) 0 (omega arith))) ks, weight-some 0 ks)
    all_under (suc y) =
        omega (
          arith,
          all_under y,
          weight-next y ks,
          double-adds y (W y) ks,
          sum_both (λ k. under y (load k)) (λ k. cond (eqb (load k) y) (W y) 0) (λ k. under (suc y) (load k)) (λ k. one (load k) (stand (load k) y)) ks,
        )
      where
        one : (v : ℕ) → Stand v y → under (suc y) v ≡ under y v + cond (eqb v y) (W y) 0
        one v (lower l a b c) = rw (a, b, c) (omega arith)
        one v (equal l a b c) = rw (a, b, c, l) (omega arith)
        one v (higher l a b c) = rw (a, b, c)

    -- ---- lists of loads, falling, that the ring's links have

    record Light (l : List ℕ) : Type 0 where
      fall : Pairs (λ x y. ltb x y ≡ false) l
      light : (y : ℕ) → sum_of (under y) l < W y

    light-tail : (x : ℕ) (l : List ℕ) → Light (x ∷ l) → Light l
    unfolding sum_of
    light-tail x l o = record { fall = tail o.fall; light = λ y. omega (arith, o.light y) }
      where
        tail : {x : ℕ} {l : List ℕ} → Pairs (λ x y. ltb x y ≡ false) (x ∷ l) → Pairs (λ x y. ltb x y ≡ false) l
        tail (and_pairs e p) = p

    -- a list whose first load is below y
    sum-under : (y : ℕ) {l : List ℕ} → Each (λ v. v < y) l → sum_of W l ≡ sum_of (under y) l
    unfolding sum_of
    sum-under y none = refl
    sum-under y (more {a = v} h e) = let on = sum-under y e in rw (lt-ltb v y h) (omega arith)

    all-below : (x y : ℕ) → x < y → {l : List ℕ} → Each (λ v. ltb x v ≡ false) l → Each (λ v. v < y) l
    all-below x y h none = none
    all-below x y h (more {a = v} f e) = more {a = v} (omega (arith, ltb-false x v f)) (all-below x y h e)

    below-weight : (x y : ℕ) (l : List ℕ) → x < y → Light (x ∷ l) → sum_of W (x ∷ l) < W y
    below-weight x y l h o = rw (sum-under y (heads o.fall)) (o.light y)
      where
        heads : Pairs (λ x y. ltb x y ≡ false) (x ∷ l) → Each (λ v. v < y) (x ∷ l)
        heads (and_pairs e p) = more {a = x} h (all-below x y h e)

    less-key : {k l : List ℕ} → Less k l → Light k → Light l → sum_of W k < sum_of W l
    unfolding sum_of
    less-key (runs-out {y = y} {l = l}) a b = omega (arith, weight-some y ks)
    less-key (below {x = x} {y = y} {k = k} {l = l} h) a b = omega (arith, below-weight x y k h a)
    less-key (then {x = x} {k = k} {l = l} o) a b = omega (arith, less-key o (light-tail x k a) (light-tail x l b))

    at-least-key : {k l : List ℕ} → AtLeast k l → Light k → Light l → sum_of W l ≤ sum_of W k
    unfolding sum_of
    at-least-key ended a b = omega arith
    at-least-key (above {x = x} {y = y} {k = k} {l = l} h) a b = omega (arith, below-weight y x l h b)
    at-least-key (level {x = x} {k = k} {l = l} o) a b = omega (arith, at-least-key o (light-tail x k a) (light-tail x l b))

    by_key : (k l : List ℕ) → Light k → Light l → smaller k l ≡ ltb (sum_of W k) (sum_of W l)
    by_key k l a b =
        elim (compared k l) [
          | less o e ↦ e ∙ sym (lt-ltb _ _ (less-key o a b))
          | not-less o e ↦ e ∙ sym (le-ltb _ _ (at-least-key o a b))
        ]

    -- the loads of some of the links, from largest to smallest
    light-falling : (has : ℕ → Bool) → Light (falling (map load (filter has ks)))
    unfolding falling
    light-falling has =
        record {
          fall = numbers-fall (map load (filter has ks));
          light = λ y.
              omega (
                arith,
                all_under y,
                sum-in-order (λ x y. ltb y x) (under y) (map load (filter has ks)),
                sum_kept (under y) load has ks,
                sum-most (λ k. cond (has k) (under y (load k)) 0) (λ k. under y (load k)) (λ k. some_of (has k) (under y (load k))) ks,
              );
        }
      where
        some_of : (b : Bool) (x : ℕ) → cond b x 0 ≤ x
        some_of true x = omega arith
        some_of false x = omega arith

-- ---- rows

pub sum-to : (f : ℕ → ℕ) (s m : ℕ) → sum_to f (s + m) ≡ sum_to f s + sum_of f (numbers_from (suc s) m)
unfolding sum_to sum_of numbers_from
sum-to f s zero = let e : s + 0 ≡ s = omega arith in rw e (omega arith)
sum-to f s (suc m) = let e : s + suc m ≡ suc s + m = omega arith in rw e (sum-to f (suc s) m ∙ omega arith)

pub key-is : (n : ℕ) (load : ℕ → ℕ) (r : Routed) → path_key n load r ≡ sum_of (rank_weight n load) (path_loads n load r)
unfolding path_key path_loads falling sum_to
key-is n load r =
    let e : 0 + n ≡ n = omega arith in
    let s = rw e at (sum-to (λ k. cond (on_path r k) (rank_weight n load (load k)) 0) 0 n) in
    omega (arith, sum-in-order (λ x y. ltb y x) (rank_weight n load) (map load (filter (on_path r) (numbers_from 1 n))), sum_kept (rank_weight n load) load (on_path r) (numbers_from 1 n))

-- the weights of all loads below y together
pub weights-below : (n : ℕ) (load : ℕ → ℕ) (y : ℕ) → sum_of (λ k. cond (ltb (load k) y) (rank_weight n load (load k)) 0) (numbers_from 1 n) < rank_weight n load y
weights-below n load y = all_under load (numbers_from 1 n) y

-- no weight is 0
pub some-weight : (n : ℕ) (load : ℕ → ℕ) (y : ℕ) → 1 ≤ rank_weight n load y
some-weight n load y = weight-some load y (numbers_from 1 n)

-- a row's list is smaller exactly where its number is
pub smaller-key : (n : ℕ) (load : ℕ → ℕ) (a b : Routed) → smaller (path_loads n load a) (path_loads n load b) ≡ ltb (path_key n load a) (path_key n load b)
unfolding path_loads
smaller-key n load a b =
    rw (key-is n load a, key-is n load b)
    (by_key load (numbers_from 1 n) _ _ (light-falling load (numbers_from 1 n) (on_path a)) (light-falling load (numbers_from 1 n) (on_path b)))
