-- What routing writes for a table that the rule takes is the sheet of its plan, which checking accepts, and judging too; a report counts it as accepted; and where all rows with amounts
-- cross, that of the best choice keeps to their bound.
use Prim.Native.Nat.{ℕ}
use mathlib.Core.List.{List, [], ◌∷◌, map}
use mathlib.Core.Path.{◌≡◌, refl}
use native.Mathlib.Omega.{arith}
use Rattle.ring.specs.Limits.{desk}
use Rattle.ring.specs.declared.types.Routed.{Routed}
use Rattle.ring.specs.Routing.{routed, way_number}
use Rattle.ring.proofs.Lists.{each}
use Rattle.rows.specs.SheetRow.{routed_row}
use Rattle.rows.specs.declared.sheet_row.SheetRow.{SheetRow}
use Rattle.sheet.proofs.SheetLines.{way_back}
use Rattle.router.specs.Plans.{best_choice}
use Rattle.ringkit.proofs.CrossingCalls.{bounded}
use Rattle.ringkit.proofs.PlanCalls.{some-plan, due-short, due-sheet, due-within, few-not-23}
use Rattle.checker.specs.Says.{Accepted}
use Rattle.ringkit.proofs.SheetCalls.{sheet-accepted}
use Rattle.report_calls.proofs.ReportCalls.{all-counted}
use Rattle.laws.specs.Calls.{RoutedChecked, RoutedJudged, WroteSheet, RoutedCounted, CrossedRouted}

pub routed-checked : RoutedChecked
routed-checked engine rule t old new r p a takes room =
    let s = some-plan engine rule t a takes p.cases in
    record {
      text = s.sheet;
      success = (p.succeeds s.sheet).1 (s.due, omega (arith, room, due-short engine rule t s.sheet s.due));
      checked = λ q c. c.accepts.1 (sheet-accepted s.sheet s.due.x (due-sheet engine rule t s.sheet s.due));
    }

-- rows as C holds them
as_held : List Routed → List SheetRow
as_held [] = []
as_held (r ∷ rs) =
    record {
      first = r.sent.demand.first;
      second = r.sent.demand.second;
      amount = r.sent.demand.amount;
      front = r.sent.front;
      back = r.sent.back;
      way = way_number r.way;
    } ∷ as_held rs

held-same : (rs : List Routed) → map routed_row (as_held rs) ≡ rs
unfolding as_held
held-same [] = refl
held-same (r ∷ rs) = λ i. routed r.sent (way_back r.way i) ∷ held-same rs i

pub routed-judged : RoutedJudged
routed-judged engine rule t old new r p a takes room =
    let s = some-plan engine rule t a takes p.cases in
    let d = s.due in
    let of = due-sheet engine rule t s.sheet d in
    let x = d.x in
    record {
      x = x;
      range = of.range;
      rows = as_held x.rows;
      same = λ i. record { ring = x.ring; rows = held-same x.rows i; cut = x.cut; links = x.links; unsplit_peak = x.unsplit_peak; size = x.size };
      success = rw d.is at ((p.succeeds s.sheet).1 (d, omega (arith, room, due-short engine rule t s.sheet d)));
      judged = λ q j. j.accepts.1 (due-within engine rule t s.sheet d, of.true_sheet);
    }

-- what was written was due, and is accepted
wrote-accepted : (sheet : List ℕ) → WroteSheet sheet → Accepted desk sheet
wrote-accepted sheet w = let due = ((w.routes.succeeds sheet).0 w.success).0 in sheet-accepted sheet due.x (due-sheet w.engine w.rule w.t sheet due)

pub routed-counted : RoutedCounted
routed-counted sheets wrote t joined old new r p = all-counted t sheets joined (each wrote-accepted wrote) old new r p

pub crossed-routed : CrossedRouted
crossed-routed t bound answer promise is engine old new r p =
    let w = bounded t engine bound ((promise.all_cross bound).0 is) in
    record {
      few = few-not-23 engine t old new r p.cases w.few;
      sheet = λ text success.
          let due = ((p.succeeds text).0 success).0 in
          record { x = due.x; of = due-sheet engine best_choice t text due; peak = w.peak text due };
    }
