-- What a piece gives by the checker's answer is what it gives; and a text has one report.
use Prim.Native.Nat.{ℕ}
use mathlib.Core.List.{List, [], ◌∷◌, map}
use mathlib.Core.Path.{◌≡◌, refl, ap, sym, ◌∙◌}
use lib.ListN.{length}
use Rattle.std.specs.Prelude.{◌+◌, ◌↔◌, Result as Either, Ok, Err}
use Rattle.std.proofs.lemmas.List.{length-map}
use Rattle.ring.specs.Limits.{desk}
use Rattle.ring.specs.Lists.{Alike, both_end, both_go}
use Rattle.ring.specs.Sheet.{Sheet}
use Rattle.reasons.specs.Refusals.{refusal}
use Rattle.reasons.specs.declared.reason.Refusal.{Refusal}
use Rattle.checker.specs.Check.{check}
use Rattle.checker.proofs.Reasons.{accepted-as, given}
use Rattle.report.specs.declared.outcome.Outcome.{Outcome}
use Rattle.report.specs.declared.totals.Report.{Report}
use Rattle.report.specs.Pieces.{pieces}
use Rattle.report.specs.Totals.{totals, report_of}
use Rattle.report.specs.Report.{outcomes, report}
use Rattle.report.specs.Checked.{Gives, gives_plan, gives_none, ReportIs, OneOutcome, OneReport, CountedOnce}
use Rattle.report.specs.ByCheck.{outcome_of, checked}
use Rattle.report.proofs.TotalsLaws.{counted-once}

-- ---- one piece

module _ (p : List ℕ) where
  gives-so : (r : Either Sheet Refusal) → check desk p ≡ r → Gives p (outcome_of r)
  unfolding outcome_of
  gives-so (Ok x) e = let a = (accepted-as p x).0 e in gives_plan (record { x = x; is = a.0; none = a.1 })
  gives-so (Err r) e = gives_none r.reason r.line r.byte ((given p r).0 e)

  pub gives-checked : Gives p (checked p)
  gives-checked = gives-so (check desk p) refl

  pub only-checked : (o : Outcome) → Gives p o → o ≡ checked p
  unfolding outcome_of
  only-checked _ (gives_plan a) = ap outcome_of (sym ((accepted-as p a.x).1 (a.is, a.none)))
  only-checked _ (gives_none reason line byte g) = ap outcome_of (sym ((given p (refusal reason line byte)).1 g))

pub one-outcome : OneOutcome
one-outcome p = (checked p, (gives-checked p, only-checked p))

-- ---- all pieces

pub each-checked : (ps : List (List ℕ)) → Alike Gives ps (map checked ps)
each-checked [] = both_end
each-checked (p ∷ ps) = both_go (gives-checked p) (each-checked ps)

only-each : (ps : List (List ℕ)) (os : List Outcome) → Alike Gives ps os → os ≡ map checked ps
only-each [] [] both_end = refl
only-each [] (o ∷ os) h = elim h [ ]
only-each (p ∷ ps) [] h = elim h [ ]
only-each (p ∷ ps) (o ∷ os) (both_go g h) = rw (only-checked p o g, only-each ps os h) refl

-- a report is that of the text exactly when it is of what each piece gives
pub report-as : (t : List ℕ) (r : Report) → (r ≡ report checked t) ↔ ReportIs t r
unfolding report outcomes
report-as t r = (
  λ e. record { outcomes = map checked (pieces t); each = each-checked (pieces t); is = e },
  λ h. h.is ∙ ap report_of (only-each (pieces t) h.outcomes h.each),
)

pub one-report : OneReport
one-report t = (report checked t, ((report-as t (report checked t)).0 refl, λ other h. (report-as t other).1 h))

once-checked : (t : List ℕ) → (report checked t).sonet.accepted + (report checked t).sdh.accepted + (report checked t).refused ≡ length (pieces t)
unfolding report outcomes report_of totals
once-checked t = counted-once (map checked (pieces t)) ∙ length-map (pieces t) checked

pub each-once : CountedOnce
each-once t r h = let e = (report-as t r).1 h in rw e (once-checked t)
