-- The call that makes a report keeps its promise (`Calls`), by the laws of the report of a text: its lines are due or 24 is given, and no other; `report_room` is room for all of them; and of accepted
-- sheets all are counted.
use Prim.Native.Nat.{ℕ, ◌≤◌, ◌<◌}
use mathlib.Core.List.{List}
use mathlib.Core.Path.{◌≡◌, refl, ap, ◌∙◌, sym, subst}
use native.Mathlib.Omega.{arith}
use lib.ListN.{length}
use Rattle.std.specs.Prelude.{Ok, IsOk, IfOk}
use Rattle.ring.specs.Limits.{desk}
use Rattle.ring.specs.Lists.{Each}
use Rattle.reasons.specs.Reasons.{number_of}
use Rattle.reasons.specs.Refusals.{refuse}
use Rattle.reasons.specs.declared.reason.Reason.{Reason}
use Rattle.reasons.specs.declared.reason.Reason.TheVariants.{NoRoom, PlansTooLong}
use Rattle.checker.specs.Says.{Accepted}
use Rattle.report.specs.declared.totals.Report.{Report}
use Rattle.report.specs.Report.{most_bytes, report_text, report}
use Rattle.report.specs.Checked.{ReportIs, report_room}
use Rattle.report.specs.ByCheck.{checked}
use Rattle.report.proofs.CheckedLaws.{report-as, one-report}
use Rattle.report.proofs.Short.{short-report}
use Rattle.report.proofs.SheetPieces.{all-accepted}
use Rattle.ringkit.specs.Outcome.{Fills}
use Rattle.ringkit.specs.Says.{Answer, CallSays, none_due, Only}
use Rattle.report_calls.specs.Reports.{ReportDue, ReportGiven, of_its_length, ReportPromise, Joined, AllCounted}
use Rattle.ringkit.proofs.Calls.{is_due, every_call, One, promise-of, call-only, length-within, written}

module _ (t : List ℕ) where
  -- ---- its lines are due, or 24 given

  same-lines : {a b : List ℕ} → ReportDue t a → ReportDue t b → a ≡ b
  same-lines a b = let only = (one-report t).1.1 in a.is ∙ ap report_text (only a.report a.of ∙ sym (only b.report b.of)) ∙ sym b.is

  one-refusal : {r s : Reason} {line other byte on : ℕ} → ReportGiven t r line byte → ReportGiven t s other on → (r ≡ s) × (line ≡ other) × (byte ≡ on)
  one-refusal (of_its_length l) (of_its_length k) = (refl, refl, refl)

  due-or-given : {text : List ℕ} {r : Reason} {line byte : ℕ} → ReportDue t text → ReportGiven t r line byte → ⊥
  due-or-given d (of_its_length l) = absurd (omega (arith, d.within, l))

  not-15 : {r : Reason} {line byte : ℕ} → ReportGiven t r line byte → r ≡ NoRoom → ⊥
  not-15 (of_its_length l) e = absurd (omega (arith, ap number_of e))

  one-due : One (ReportDue t) (ReportGiven t)
  one-due =
      record {
        text = λ a b. same-lines a b;
        refusal = λ f g. one-refusal f g;
        apart = λ d g. due-or-given d g;
        other = λ g. not-15 g;
      }

  due-short : (text : List ℕ) → ReportDue t text → length text ≤ report_room
  due-short text d = omega (arith, ap length d.is, short-report t d.report d.within d.of)

  -- ---- each way out

  pub too-long : most_bytes < length t → (old : List ℕ) → CallSays (ReportDue t) (ReportGiven t) old old (refuse PlansTooLong 0 0)
  too-long long old = none_due (of_its_length long) (record { answer = refl; buffer = refl })

  -- the lines of its report
  lines_due : length t ≤ most_bytes → (r : Report) → ReportIs t r → ReportDue t (report_text r)
  lines_due within r is = record { within = within; report = r; of = is; is = refl }

  pub reported : length t ≤ most_bytes → (r : Report) → r ≡ report checked t → (old new : List ℕ) (a : Answer) → Fills (Ok (report_text r)) old new a → CallSays (ReportDue t) (ReportGiven t) old new a
  reported within r e old new a f = every_call (is_due (lines_due within r ((report-as t r).0 e))) f

  -- ---- what the call promises

  module _ (old new : List ℕ) (r : Answer) (says : CallSays (ReportDue t) (ReportGiven t) old new r) where
    -- the lines of the report are written, with room for them; else 24 or 15
    pub report-promise : ReportPromise t old new r
    report-promise = promise-of one-due says

    pub report-only : Only (ReportPromise t old) new r
    report-only = call-only report-promise one-due

    -- no report is longer than `report_room`,
    pub report-fits : IfOk r (λ n. n ≤ report_room)
    report-fits = length-within report-promise report_room due-short

    -- so with that room each text within the limit has its report
    pub always-reported : length t ≤ most_bytes → report_room ≤ length old → IsOk r
    always-reported within room =
        let one = one-report t in
        let due = lines_due within one.0 one.1.0 in
        written report-promise due (omega (arith, room, due-short (report_text one.0) due))

  -- ---- of accepted sheets, from the promise alone

  pub all-counted : (plans : List (List ℕ)) → Joined plans t → Each (Accepted desk) plans → (old new : List ℕ) (r : Answer) → ReportPromise t old new r
      → AllCounted t (length plans) old new r
  all-counted plans joined each old new r p =
      let one = one-report t in
      let counts = (all-accepted plans each).1 one.0 (subst (λ t. ReportIs t one.0) joined.text one.1.0) in
      record {
        report = one.0;
        of = one.1.0;
        accepted = counts.0;
        refused = counts.1;
        written = λ fits. (p.succeeds (report_text one.0)).1 (lines_due joined.within one.0 one.1.0, fits);
      }
