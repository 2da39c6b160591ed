-- Internal: what the calls that read a sheet answer: the checker's refusals, or what is due to an accepted sheet.
use Rattle.std.specs.Prelude.{ℕ, List, Ok}
use Rattle.ring.specs.Limits.{desk}
use Rattle.ring.specs.Sheet.{sents}
use Rattle.reasons.specs.AndThen.{and_then}
use Rattle.checker.specs.Check.{check}
use Rattle.crossing.specs.FindPair.{first_pair}
use Rattle.sheet.specs.WriteSheet.{write_sheet}
use Rattle.ringkit.specs.Answers.{Checked, Asked}
use Rattle.ringkit.specs.Outcome.{Outcome}

-- checking
abbrev pub sheet_checked : List ℕ → Checked
sheet_checked t = and_then (check desk t) λ x. Ok tt

-- the question: the first pair of split rows that are parallel
abbrev pub sheet_parallel : List ℕ → Asked
sheet_parallel t = and_then (check desk t) λ x. Ok (first_pair (sents x.rows))

-- reading a sheet and writing its values afresh (then 15)
abbrev pub sheet_afresh : List ℕ → Outcome
sheet_afresh t = and_then (check desk t) λ x. Ok (write_sheet x)
