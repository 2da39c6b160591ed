-- What is promised of accepted sheets: from what checking accepts (`Reasons`), and that a plan is a true sheet in range.
use Prim.Native.Nat.{ℕ, ◌<◌, ◌≤◌}
use mathlib.Core.List.{List}
use mathlib.Core.Path.{◌≡◌, refl}
use native.Mathlib.Omega.{arith}
use Rattle.std.specs.Prelude.{Result, Ok, Err}
use Rattle.ring.specs.Limits.{Limits, desk}
use Rattle.ring.specs.Sheet.{Sheet, plan}
use Rattle.ring.proofs.NoLower.{no_lower}
use Rattle.ring.proofs.OurPlan.{plan-true}
use Rattle.reasons.specs.Findings.{found}
use Rattle.judge.specs.Findings.{findings}
use Rattle.reasons.specs.Reasons.{rank_of}
use Rattle.table.specs.RowReasons.{says_too_long, says_misshapen, says_ring_size, says_fibres, says_no_such_node, says_not_below, says_out_of_order, says_too_many, says_too_much}
use Rattle.reasons.specs.declared.reason.Reason.{Reason}
use Rattle.reasons.specs.declared.reason.Reason.TheVariants.{WrongSum, OverBound}
use Rattle.reasons.specs.declared.reason.Refusal.{Refusal}
use Rattle.table.specs.Spelled.{LimitsSpelled}
use Rattle.table.proofs.TableText.{desk-spelled}
use Rattle.sheet.specs.Read.{read_sheet}
use Rattle.sheet.specs.Says as reading
use Rattle.sheet.specs.WriteSheet.{write_sheet}
use Rattle.sheet.proofs.Promised.{same-sheet}
use Rattle.sheet.proofs.SheetReasons.{given as read-given, well-formed-is}
use Rattle.sheet.proofs.Short.{desk-fits, true-in-range, plan-in-range}
use Rattle.checker.specs.Laws.{TrueAccepted, PlanAccepted, NoLowerPeak, FormedIs, JudgedInRange}
use Rattle.checker.specs.Says.{Given, of_form, of_figures}
use Rattle.checker.proofs.Found.{OfFigures, a_sum, a_way, a_cut, a_link, a_last, a_peak, a_bound, first-is, all-figures}
use Rattle.checker.proofs.Reasons.{accepted-is-by, check-text-by}

-- of any limits whose amounts, digits and text are spelled
module _ (limits : Limits) (spelled : LimitsSpelled limits) where
  pub true-accepted-by : TrueAccepted limits
  true-accepted-by x range true_sheet =
      let t = write_sheet x in
      (accepted-is-by limits spelled t).0 (record { x = x; is = (check-text-by limits spelled t x).1 (refl, (range, true_sheet)) })

  pub no-lower-peak-by : NoLowerPeak limits
  no-lower-peak-by x range a =
      let t = write_sheet x in
      let reads = (accepted-is-by limits spelled t).1 a in
      let text = (check-text-by limits spelled t reads.x).0 reads.is in
      let e : x ≡ reads.x = same-sheet limits spelled x reads.x range text.1.0 text.0 in
      no_lower x (rw e text.1.1)

pub true-accepted : TrueAccepted desk
true-accepted = true-accepted-by desk desk-spelled

pub no-lower-peak : NoLowerPeak desk
no-lower-peak = no-lower-peak-by desk desk-spelled

pub judged-in-range : JudgedInRange
judged-in-range x f t = true-in-range desk desk-fits x t f

-- the sheet of a table's plan is accepted
pub plan-accepted : PlanAccepted
plan-accepted ring rs h = true-accepted (plan ring rs) (plan-in-range ring rs h) (plan-true ring rs h.within.few h.within.rows)

-- ---- 8 to 14 judge figures, the reasons of reading come before them

late : {r : Reason} → OfFigures r → (rank_of WrongSum ≤ rank_of r) × (rank_of r ≤ rank_of OverBound)
late a_sum = (omega arith, omega arith)
late a_way = (omega arith, omega arith)
late a_cut = (omega arith, omega arith)
late a_link = (omega arith, omega arith)
late a_last = (omega arith, omega arith)
late a_peak = (omega arith, omega arith)
late a_bound = (omega arith, omega arith)

of-reading : {t : List ℕ} {r : Reason} {line : ℕ} → reading.Says desk t r line → rank_of r < rank_of WrongSum
of-reading (says_too_long e long) = omega arith
of-reading (says_misshapen w) = omega arith
of-reading (says_ring_size e x w) = omega arith
of-reading (says_fibres e x w) = omega arith
of-reading (says_no_such_node x y w) = omega arith
of-reading (says_not_below y w) = omega arith
of-reading (says_out_of_order e x y w) = omega arith
of-reading (says_too_many y w) = omega arith
of-reading (says_too_much y w) = omega arith

pub formed-is : FormedIs desk
formed-is t = (λ w r line byte g. to_late w g, λ all. formed all (read_sheet desk t) refl)
  where
    to_late : reading.WellFormed desk t → {r : Reason} {line byte : ℕ} → Given desk t r line byte → (rank_of WrongSum ≤ rank_of r) × (rank_of r ≤ rank_of OverBound)
    to_late w {r} {line} (of_form g) = absurd (w r line g.holds)
    to_late w {r} (of_figures x place is first stands) = late (first-is _ (findings desk x) (found r place) (all-figures desk x is.range) first)

    formed : ((r : Reason) (line byte : ℕ) → Given desk t r line byte → (rank_of WrongSum ≤ rank_of r) × (rank_of r ≤ rank_of OverBound)) → (y : Result Sheet Refusal) → read_sheet desk t ≡ y → reading.WellFormed desk t
    formed all (Ok x) e = (well-formed-is desk t).0 (record { x = x; is = e })
    formed all (Err r) e =
        let g = (read-given desk t r).0 e in
        let early : rank_of r.reason < rank_of WrongSum = of-reading g.holds in
        absurd (omega (arith, (all r.reason r.line r.byte (of_form g)).0))
