-- The matrix of a table's rows makes no more rows than those: each pair has a row of its own, and a row is in the sum of one pair.
use Prim.Native.Nat.{ℕ, suc, ◌+◌, ◌≤◌, ◌<◌}
use mathlib.Core.Bool.{Bool, true, false, cond}
use mathlib.Core.List.{List, [], ◌∷◌}
use mathlib.Core.Path.{◌≡◌, refl}
use mathlib.Core.Logic.{◌⊎◌, inl, inr}
use native.Mathlib.Omega.{arith}
use lib.ListN.{length}
use Rattle.ring.specs.Lists.{Each, none, more, Pairs, no_pair, and_pairs}
use Rattle.ring.specs.declared.types.Demand.{Demand}
use Rattle.ring.proofs.Lists.{each_both}
use Rattle.ring.proofs.Side.{cond-elim}
use Rattle.matrix.specs.Matrix.{entry}
use Rattle.matrix.specs.Demands.{joins, sum_of, rows_of_matrix, matrix_of_rows}
use Rattle.matrix.proofs.SumLaws.{part_of, part-other, joined}
use Rattle.matrix.proofs.RowLaws.{rows-rising, rows-each, rows-some}
use Rattle.matrix.proofs.RoundTrip.{entry-sum, rising-pairs}

-- the rows that are not of the pair i, j
unfoldable others : ℕ → ℕ → List Demand → List Demand
others i j [] = []
others i j (r ∷ rs) = cond (joins r i j) (others i j rs) (r ∷ others i j rs)

module _ (i j : ℕ) where
  others-most : (rs : List Demand) → length (others i j rs) ≤ length rs
  unfolding others
  others-most [] = omega arith
  others-most (r ∷ rs) =
      cond-elim (λ l. length l ≤ suc (length rs)) (joins r i j) (others i j rs) (r ∷ others i j rs) (λ e. omega (arith, others-most rs)) (λ e. omega (arith, others-most rs))

  -- a pair whose sum is above 0 has a row
  others-fewer : (rs : List Demand) → 1 ≤ sum_of rs i j → length (others i j rs) < length rs
  unfolding others sum_of
  others-fewer [] l = absurd (omega arith)
  others-fewer (r ∷ rs) l = go (joins r i j) (others-most rs) (others-fewer rs) l
    where
      go : (b : Bool) → length (others i j rs) ≤ length rs → (1 ≤ sum_of rs i j → length (others i j rs) < length rs) → 1 ≤ cond b r.amount 0 + sum_of rs i j
          → length (cond b (others i j rs) (r ∷ others i j rs)) < suc (length rs)
      go true most ih l = omega arith
      go false most ih l = omega (arith, ih (omega arith))

  module _ (x y : ℕ) (order : i < j) (other : x < y) (apart : (i ≡ x) × (j ≡ y) → ⊥) where
    -- a row of one pair is in no other's sum
    apart-part : (r : Demand) → joins r i j ≡ true → part_of r x y ≡ 0
    apart-part r e = go (joined r i j e)
      where
        go : ((r.first ≡ i) × (r.second ≡ j)) ⊎ ((r.first ≡ j) × (r.second ≡ i)) → part_of r x y ≡ 0
        go (inl h) = part-other r x y (λ k. apart (omega (arith, h.0, k.0), omega (arith, h.1, k.1))) (λ k. omega (arith, h.0, h.1, k.0, k.1))
        go (inr h) = part-other r x y (λ k. omega (arith, h.0, h.1, k.0, k.1)) (λ k. apart (omega (arith, h.1, k.1), omega (arith, h.0, k.0)))

    others-sum : (rs : List Demand) → sum_of (others i j rs) x y ≡ sum_of rs x y
    unfolding others sum_of
    others-sum [] = refl
    others-sum (r ∷ rs) =
        cond-elim (λ l. sum_of l x y ≡ part_of r x y + sum_of rs x y) (joins r i j) (others i j rs) (r ∷ others i j rs)
        (λ e. omega (arith, apart-part r e, others-sum rs)) (λ e. omega (arith, others-sum rs))

-- rows of pairs of their own, each pair's sum above 0
at-most : (ps : List Demand) (rs : List Demand) → Pairs (λ r s. (r.first ≡ s.first) × (r.second ≡ s.second) → ⊥) ps → Each (λ p. (p.first < p.second) × (1 ≤ sum_of rs p.first p.second)) ps
    → length ps ≤ length rs
at-most [] rs no_pair none = omega arith
at-most (p ∷ ps) rs (and_pairs apart pairs) (more h hs) =
    omega (
      arith,
      others-fewer p.first p.second rs h.1,
      at-most ps (others p.first p.second rs) pairs
          (each_both (λ q a s. (s.0, let e = others-sum p.first p.second q.first q.second h.0 s.0 a rs in omega (arith, s.1))) apart hs),
    )

pub rows-no-more : (n : ℕ) (rs : List Demand) → length (rows_of_matrix n (matrix_of_rows n rs)) ≤ length rs
rows-no-more n rs =
    at-most (rows_of_matrix n m) rs (rising-pairs (rows-rising (entry m) n))
    (each_both (λ p s l. (s.0, omega (arith, s.1, l)))
    (rows-each (entry m) n {P = λ p. (p.first < p.second) × (p.amount ≡ sum_of rs p.first p.second)} (λ x y l h q. (h, entry-sum n rs x y (l, omega arith) (omega arith, q))))
    (rows-some (entry m) n))
  where
    m : List (List ℕ)
    m = matrix_of_rows n rs
