-- What is found against a sheet within lower limits, but for 3 and 16, is found within higher ones: what a table finds is (`LowerLimits`), and the rest takes no limits.
use Rattle.std.proofs.Common.{ℕ, ◌+◌, ◌≤◌, List, [], ◌∷◌, length, Option, Some, None, Result, Ok, Err, ◌≡◌, refl, arith}
use Rattle.ring.specs.Limits.{Limits}
use Rattle.ring.specs.Sheet.{Sheet}
use Rattle.ring.specs.declared.types.Demand.{Demand}
use Rattle.ring.specs.declared.types.Routed.{Routed}
use Rattle.reasons.specs.AndThen.{and_then}
use Rattle.reasons.specs.Faults.{verdict_found, ring_found, row_found, found_at}
use Rattle.reasons.specs.Verdict.{Verdict}
use Rattle.reasons.specs.declared.finding.Finding.{Finding}
use Rattle.reasons.specs.declared.reason.Reason.{Reason}
use Rattle.reasons.proofs.LowerLimits.{Lower, Lost, VerdictAlike, same_verdict, lost_verdict, ring-alike, row-alike, ring-same, row-same}
use Rattle.judge.specs.Tests.{row_judged, rows_judged, sheet_judged}

-- the same finding, or none; or one that higher limits may lose
pub data FindingAlike : Result Unit Finding → Result Unit Finding → Type 0 where
  same_finding : {x : Result Unit Finding} → FindingAlike x x
  lost_finding : {f : Finding} {x : Result Unit Finding} → Lost f.reason → FindingAlike (Err f) x

or-alike : {a b c d : Result Unit Finding} → FindingAlike a b → FindingAlike c d → FindingAlike (and_then a λ u. c) (and_then b λ u. d)
or-alike (same_finding {x = Ok tt}) h = h
or-alike (same_finding {x = Err f}) h = same_finding
or-alike (lost_finding l) h = lost_finding l

found-alike : (place : ℕ) (field : Reason → ℕ) {v u : Verdict} → VerdictAlike v u → FindingAlike (found_at place (verdict_found v field)) (found_at place (verdict_found u field))
unfolding verdict_found
found-alike place field same_verdict = same_finding
found-alike place field (lost_verdict l) = lost_finding l

module _ {low high : Limits} (lower : Lower low high) where
  row-judged-alike : (n k : ℕ) (above : Option Demand) (r : Routed) → FindingAlike (row_judged low n k above r) (row_judged high n k above r)
  unfolding row_judged row_found
  row-judged-alike n k above r = or-alike (found-alike (k + 1) _ (row-alike lower n k above r.sent.demand)) same_finding

  rows-judged-alike : (n k : ℕ) (above : Option Demand) (rs : List Routed) → FindingAlike (rows_judged low n k above rs) (rows_judged high n k above rs)
  unfolding rows_judged
  rows-judged-alike n k above [] = same_finding
  rows-judged-alike n k above (r ∷ rs) = or-alike (row-judged-alike n k above r) (rows-judged-alike n (k + 1) (Some r.sent.demand) rs)

  pub judged-alike : (x : Sheet) → FindingAlike (sheet_judged low x) (sheet_judged high x)
  unfolding sheet_judged ring_found
  judged-alike x = or-alike (found-alike 0 _ (ring-alike lower x.ring)) (or-alike (rows-judged-alike x.ring.nodes 0 None x.rows) same_finding)

  -- within the lower limits the same is found
  rows-judged-same : (n k : ℕ) (above : Option Demand) (rs : List Routed) → k + length rs ≤ low.rows → rows_judged low n k above rs ≡ rows_judged high n k above rs
  unfolding rows_judged row_judged row_found
  rows-judged-same n k above [] few = refl
  rows-judged-same n k above (r ∷ rs) few =
      rw (row-same lower n k above r.sent.demand (omega arith), rows-judged-same n (k + 1) (Some r.sent.demand) rs (omega arith))

  pub judged-same : (x : Sheet) → low.fewest ≤ x.ring.nodes → x.ring.nodes ≤ low.nodes → length x.rows ≤ low.rows → sheet_judged low x ≡ sheet_judged high x
  unfolding sheet_judged ring_found
  judged-same x few many count = rw (ring-same lower x.ring few many, rows-judged-same x.ring.nodes 0 None x.rows (omega arith))
