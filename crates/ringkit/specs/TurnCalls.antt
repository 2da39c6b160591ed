-- Internal: what the call that turns a table's rows answers, by what its text is read to.
use Rattle.std.specs.Prelude.{ℕ, List, Result, Ok, Err}
use Rattle.table.specs.ReadTable.{Table}
use Rattle.reasons.specs.declared.reason.Refusal.{Refusal}
use Rattle.ringkit.specs.Turning.{TurnAnswer, TurnedTo}
use Rattle.ringkit.specs.Says.{Refused}

abbrev pub TurnsTable : Result Table Refusal → List ℕ → List ℕ → TurnAnswer → Type 0
TurnsTable (Ok x) = TurnedTo x.0 x.1
TurnsTable (Err r) = Refused r.reason r.line r.byte
