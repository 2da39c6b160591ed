-- Internal: what a piece gives, by the checker's answer.
use Rattle.std.specs.Prelude.{ℕ, List, Result, Ok, Err}
use Rattle.ring.specs.Limits.{desk}
use Rattle.ring.specs.Sheet.{Sheet}
use Rattle.reasons.specs.declared.reason.Refusal.{Refusal}
use Rattle.checker.specs.Check.{check}
use Rattle.report.specs.declared.outcome.Outcome.{Outcome}
use Rattle.report.specs.declared.outcome.Outcome.TheVariants.{Refused}
use Rattle.report.specs.Checked.{plan_of}

unfoldable pub outcome_of : Result Sheet Refusal → Outcome
outcome_of (Ok x) = plan_of x
outcome_of (Err r) = Refused

abbrev pub checked : List ℕ → Outcome
checked p = outcome_of (check desk p)
