-- Sums: what each row adds to them, and how they are judged row by row.
use Prim.Native.Nat.{ℕ, zero, suc, ◌+◌, ◌≤◌, ◌<◌}
use mathlib.Core.List.{List, [], ◌∷◌, ◌++◌}
use mathlib.Core.Path.{◌≡◌, refl, ap, ◌∙◌, sym}
use native.Mathlib.Omega.{arith}
use lib.ListN.{length, take, drop, drop_of_length-le}
use borrow.Author.Tests.{lt-ltb, le-ltb}
use Rattle.std.specs.Prelude.{Ok, Some, slice_get, sum_by}
use Rattle.ring.specs.Limits.{desk}
use Rattle.ring.specs.declared.types.Demand.{Demand}
use Rattle.ring.specs.declared.types.Routed.{Routed}
use Rattle.ring.specs.Sheet.{sents, demands}
use Rattle.matrix.specs.Demands.{sum_of}
use Rattle.matrix.specs.Judged.{passes_at, sums_from, judge_sums}
use Rattle.std.proofs.lemmas.List.{take_more}
use Rattle.std.proofs.lemmas.List.Sums.{sum_by-cons}
use Rattle.std.proofs.lemmas.Option.{get_or_from_slice_get, slice_get_within}
use Rattle.rows.proofs.Demands.{demands-get}
use Rattle.rows.proofs.Places.{row_then}
use Rattle.ring.proofs.Small.{demands-length}
use Rattle.matrix.proofs.SumLaws.{part_of}

-- ---- the first rows, and what each adds

pub sums-parts : (i j n : ℕ) (rows : List Routed) → sum_by (λ r. part_of r.sent.demand i j) (take n rows) ≡ sum_of (take n (demands (sents rows))) i j
unfolding sum_of
sums-parts i j zero rows = refl
sums-parts i j (suc n) [] = refl
sums-parts i j (suc n) (r ∷ rows) = sum_by-cons (λ (r : Routed). part_of r.sent.demand i j) r (take n rows) ∙ ap (λ s. part_of r.sent.demand i j + s) (sums-parts i j n rows)

-- ---- a row at a place

module _ (rows : List Routed) where
  abbrev pub all : List Demand
  all = demands (sents rows)

  module _ (k : ℕ) (r : Routed) (at : slice_get rows k ≡ Some r) where
    here : slice_get all k ≡ Some r.sent.demand
    here = demands-get rows k r at

    pub rows_more : take (k + 1) all ≡ take k all ++ r.sent.demand ∷ []
    rows_more =
        take_more all k r.sent.demand (slice_get_within all k _ here)
        ∙ ap (λ (d : Demand). take k all ++ d ∷ []) (get_or_from_slice_get all k r.sent.demand r.sent.demand here)

    rows_left : drop k all ≡ r.sent.demand ∷ drop (k + 1) all
    rows_left = row_then all k r.sent.demand here

  -- ---- judged

  pub record JudgingSums (k : ℕ) : Type 0 where
    pub rest : judge_sums desk all ≡ sums_from desk (k + 2) (take k all) (drop k all)

  pub judging-sums-starts : JudgingSums 0
  unfolding judge_sums
  judging-sums-starts = record { rest = refl }

  module _ (k : ℕ) (judging : JudgingSums k) where
    module _ (r : Routed) (at : slice_get rows k ≡ Some r) (sum : ℕ) (es : sum ≡ sum_of (take (k + 1) all) r.sent.demand.first r.sent.demand.second) where
      pub sum-passes : desk.amount < sum → passes_at (k + 2) ≡ judge_sums desk all
      unfolding sums_from
      sum-passes h = sym (judging.rest ∙ rw (rows_left k r at, ← rows_more k r at, ← es, lt-ltb _ _ h))

      pub sum-fine : sum ≤ desk.amount → JudgingSums (k + 1)
      unfolding sums_from
      sum-fine h =
          let e : k + 1 + 2 ≡ k + 2 + 1 = omega arith in
          record { rest = judging.rest ∙ rw (rows_left k r at, ← rows_more k r at, ← es, le-ltb _ _ h, e) }

    pub sums-judged : length rows ≤ k → Ok tt ≡ judge_sums desk all
    unfolding sums_from
    sums-judged l =
        let n = demands-length rows in
        let h : length all ≤ k = omega arith in
        sym (judging.rest ∙ rw (drop_of_length-le all h))
