-- Internal: what the call that asks whether all rows cross answers, by what its text is read to.
use Rattle.std.specs.Prelude.{Result, Ok, Err, IsOkAnd, ◌≡◌}
use Rattle.table.specs.ReadTable.{Table}
use Rattle.reasons.specs.declared.reason.Refusal.{Refusal}
use Rattle.crossing.specs.Crossing.{CrossingIs}
use Rattle.ringkit.specs.Crossing.{CrossingAnswer}

abbrev pub CrossingAsked : Result Table Refusal → CrossingAnswer → Type 0
CrossingAsked (Ok x) answer = IsOkAnd answer (CrossingIs x.0.nodes x.1)
CrossingAsked (Err r) answer = answer ≡ Err r
