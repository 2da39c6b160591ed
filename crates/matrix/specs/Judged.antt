-- Internal: the sums of a table's rows judged row by row, as the code goes; `Demands` and the theorems of `proofs/` pin it down.
use Rattle.std.specs.Prelude.{ℕ, ◌+◌, ◌≤◌, cond, List, [], ◌∷◌, ◌++◌, length, ltb, Ok}
use Rattle.ring.specs.Limits.{Limits, desk}
use Rattle.ring.specs.Lists.{Each}
use Rattle.ring.specs.declared.types.Demand.{Demand}
use Rattle.reasons.specs.declared.reason.Reason.TheVariants.{SumTooMuch}
use Rattle.reasons.specs.Refusals.{refuse}
use Rattle.matrix.specs.Demands.{sum_of}
use Rattle.matrix.specs.Read.{MatrixVerdict}

-- 19: a line as a whole has byte 1
abbrev pub passes_at : ℕ → MatrixVerdict
passes_at line = refuse SumTooMuch line 1

-- the rows rs, of which the first stands on the line `line`, behind the rows `before`
unfoldable pub sums_from : Limits → ℕ → List Demand → List Demand → MatrixVerdict
unfolding sum_of
sums_from limits line before [] = Ok tt
sums_from limits line before (r ∷ rs) =
    cond (ltb limits.amount (sum_of (before ++ r ∷ []) r.first r.second)) (passes_at line) (sums_from limits (line + 1) (before ++ r ∷ []) rs)

-- all rows; the first stands on line 2
unfoldable pub judge_sums : Limits → List Demand → MatrixVerdict
unfolding sums_from
judge_sums limits rs = sums_from limits 2 [] rs

-- as many rows as a table has, each of an amount that one may have, so that sums fit
pub record Amounts (rs : List Demand) : Type 0 where
  pub room : length rs ≤ desk.rows
  pub small : Each (λ r. r.amount ≤ desk.amount) rs
