-- The last of some rows and one row more is that row; and the verdict on a row behind others.
use Prim.Native.Nat.{ℕ}
use mathlib.Core.List.{List, [], ◌∷◌, ◌++◌}
use mathlib.Core.Path.{◌≡◌, ap, ◌∙◌}
use lib.ListN.{length}
use Rattle.std.specs.Prelude.{Some}
use Rattle.ring.specs.Limits.{Limits}
use Rattle.ring.specs.Sheet.{sents, demands}
use Rattle.ring.specs.declared.types.Routed.{Routed}
use Rattle.ring.specs.declared.types.Demand.{Demand}
use Rattle.rows.proofs.Demands.{demands-more}
use Rattle.reasons.specs.Faults.{last_demand}
use Rattle.reasons.specs.Judge.{row_verdict}
use Rattle.reasons.specs.Verdict.{Verdict}
use Rattle.reasons.proofs.Faults.{last-more}
use Rattle.sheet.specs.Read.{last_demand_of}

pub last_more : (rs : List Routed) (r : Routed) → last_demand_of (rs ++ r ∷ []) ≡ Some r.sent.demand
last_more rs r = ap last_demand (demands-more rs r) ∙ last-more (demands (sents rs)) r.sent.demand

-- 4 to 7 and 16 of a D line, behind the rows rs
abbrev pub judge_next : Limits → ℕ → List Routed → Demand → Verdict
judge_next limits n rs r = row_verdict limits n (length rs) (last_demand_of rs) r
