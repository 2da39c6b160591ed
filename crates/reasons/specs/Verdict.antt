-- Internal: what is found against a ring, a row or an entry of a matrix: nothing, or the first reason that holds; and the refusal that it makes.
use Rattle.std.specs.Prelude.{ℕ, Result, Ok, Err}
use Rattle.reasons.specs.Refusals.{refuse}
use Rattle.reasons.specs.declared.reason.Reason.{Reason}
use Rattle.reasons.specs.declared.reason.Refusal.{Refusal}

abbrev pub Verdict : Type 0
Verdict = Result Unit Reason

-- it refuses with this line and this byte
unfoldable pub refused_at : Verdict → ℕ → ℕ → Result Unit Refusal
refused_at (Ok tt) line byte = Ok tt
refused_at (Err reason) line byte = refuse reason line byte
