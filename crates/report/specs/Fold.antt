-- Internal: the report, piece by piece, as the loop takes them.
use Rattle.std.specs.Prelude.{ℕ, ◌+◌, List, [], ◌∷◌}
use Rattle.family.specs.declared.family.Family.TheVariants.{Sonet, Sdh}
use Rattle.report.specs.declared.outcome.Outcome.{Outcome}
use Rattle.report.specs.declared.outcome.Outcome.TheVariants.{Refused, Accepted}
use Rattle.report.specs.declared.totals.Totals.{Totals}
use Rattle.report.specs.declared.totals.Report.{Report}
use Rattle.report.specs.Totals.{nothing, worst_with}

abbrev pub no_plan : Totals
no_plan = record { accepted = 0; peaks = 0; worst = nothing }

abbrev pub no_piece : Report
no_piece = record { sonet = no_plan; sdh = no_plan; refused = 0 }

unfoldable pub with_plan : Totals → ℕ → ℕ → Totals
with_plan t peak across = record {
  accepted = t.accepted + 1;
  peaks = t.peaks + peak;
  worst = worst_with t.worst peak across;
}

unfoldable pub with_piece : Report → Outcome → Report
unfolding with_plan
with_piece r Refused = record { sonet = r.sonet; sdh = r.sdh; refused = r.refused + 1 }
with_piece r (Accepted Sonet peak across) =
    record { sonet = with_plan r.sonet peak across; sdh = r.sdh; refused = r.refused }
with_piece r (Accepted Sdh peak across) =
    record { sonet = r.sonet; sdh = with_plan r.sdh peak across; refused = r.refused }

unfoldable pub report_from : Report → List Outcome → Report
report_from r [] = r
report_from r (o ∷ os) = report_from (with_piece r o) os
