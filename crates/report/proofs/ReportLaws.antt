-- What damage to one piece leaves of a report.
use Prim.Native.Nat.{ℕ, ◌+◌}
use mathlib.Core.List.{List, ◌++◌, map, map-append, append_assoc}
use mathlib.Core.Logic.{◌⊎◌}
use mathlib.Core.Path.{◌≡◌, refl, sym, ap, ◌∙◌}
use native.Mathlib.Omega.{arith}
use Rattle.report.specs.Pieces.{pieces}
use Rattle.report.specs.Damage.{alone, IsPiece, BeforeFirst, MayReplace, SameAround, share, OnlyShare, OnlyItsShare, DamageStays, PiecesStand}
use Rattle.report.specs.Anywhere.{Inside, OthersSame, DamageAnywhere}
use Rattle.report.proofs.Anywhere.{damage-anywhere}
use Rattle.report.proofs.Damage.{damage, is-piece, split-at}
use Rattle.report.specs.declared.outcome.Outcome.{Outcome}
use Rattle.report.specs.declared.totals.Report.{Report}
use Rattle.report.specs.Totals.{report_of, totals_in}
use Rattle.report.specs.Report.{outcomes, report}
use Rattle.report.specs.Checked.{ReportIs}
use Rattle.report.specs.ByCheck.{checked}
use Rattle.report.specs.DamagedReports.{DifferBetween, ReportsDiffer}
use Rattle.report.proofs.CheckedLaws.{report-as, each-checked}
use Rattle.report.proofs.TotalsLaws.{Adds, accepted-adds, peaks-adds, refused-adds, adds-between}

between : (gives : List ℕ → Outcome) (a x b : List ℕ) → pieces (a ++ (x ++ b)) ≡ pieces a ++ (alone x ++ pieces b)
    → outcomes gives (a ++ (x ++ b)) ≡ outcomes gives a ++ (map gives (alone x) ++ outcomes gives b)
unfolding outcomes
between gives a x b e = rw (e, map-append gives (pieces a) (alone x ++ pieces b), map-append gives (alone x) (pieces b)) refl

module _ (gives : List ℕ → Outcome) (a x b y : List ℕ) where
  number-between : (number : Report → ℕ) → Adds number → (z : List ℕ) → outcomes gives (a ++ (z ++ b)) ≡ outcomes gives a ++ (map gives (alone z) ++ outcomes gives b)
      → number (report gives (a ++ (z ++ b))) ≡ number (report_of (outcomes gives a)) + (share number gives z + number (report_of (outcomes gives b)))
  unfolding report
  number-between number adds z e = ap (λ (os : List Outcome). number (report_of os)) e ∙ adds-between number adds (outcomes gives a) (map gives (alone z)) (outcomes gives b)

  differ : (number : Report → ℕ) → Adds number → outcomes gives (a ++ (x ++ b)) ≡ outcomes gives a ++ (map gives (alone x) ++ outcomes gives b)
      → outcomes gives (a ++ (y ++ b)) ≡ outcomes gives a ++ (map gives (alone y) ++ outcomes gives b) → OnlyShare number gives a x b y
  differ number adds e f = omega (arith, number-between number adds x e, number-between number adds y f)

  alone-differs : SameAround a x b y → OnlyItsShare gives a x b y
  alone-differs s =
      let e = between gives a x b s.as_it_was in
      let f = between gives a y b s.damaged in
      record {
        as_it_was = e;
        damaged = f;
        accepted = λ family. differ (λ (r : Report). (totals_in family r).accepted) (accepted-adds family) e f;
        peaks = λ family. differ (λ (r : Report). (totals_in family r).peaks) (peaks-adds family) e f;
        refused = differ (λ (r : Report). r.refused) refused-adds e f;
      }

  pub report-damaged : IsPiece a x b ⊎ BeforeFirst a x b → MayReplace x b y → OnlyItsShare gives a x b y
  report-damaged h m = alone-differs (damage a x b y h m)

pub damage-stays : DamageStays
damage-stays a x b y h = (damage a x b y h.0 h.1, λ gives. report-damaged gives a x b y h.0 h.1)

pub pieces-stand : PiecesStand
pieces-stand t before x after e = (is-piece t before x after e, split-at t before x after e)

-- the text of which a piece is x = front, v, back
around : (a front v back b u w : List ℕ) → a ++ front ≡ u → back ++ b ≡ w → a ++ ((front ++ (v ++ back)) ++ b) ≡ u ++ (v ++ w)
around a front v back b u w e f =
    rw (← e, ← f, append_assoc front (v ++ back) b, append_assoc v back b, append_assoc a front (v ++ (back ++ b))) refl

pub others-same : (gives : List ℕ → Outcome) {u v w y : List ℕ} (i : Inside u v w y) → OthersSame gives i
others-same gives {u} {v} {w} {y} i =
    record {
      was = sym (ap (outcomes gives) (around i.a i.front v i.back i.b u w i.before i.behind)) ∙ between gives i.a (i.front ++ (v ++ i.back)) i.b i.same.as_it_was;
      is = sym (ap (outcomes gives) (around i.a i.front y i.back i.b u w i.before i.behind)) ∙ between gives i.a (i.front ++ (y ++ i.back)) i.b i.same.damaged;
    }

pub anywhere-stays : DamageAnywhere
anywhere-stays u v w y h = let i = damage-anywhere u v w y h in record { inside = i; others = λ gives. others-same gives i }

-- the report of a text is of what its pieces give, between those of a and of b
of-between : (a z b : List ℕ) (r : Report) → ReportIs (a ++ (z ++ b)) r → outcomes checked (a ++ (z ++ b)) ≡ outcomes checked a ++ (map checked (alone z) ++ outcomes checked b)
    → r ≡ report_of (map checked (pieces a) ++ (map checked (alone z) ++ map checked (pieces b)))
unfolding report outcomes
of-between a z b r h e = (report-as (a ++ (z ++ b)) r).1 h ∙ ap report_of e

pub reports-differ : ReportsDiffer
reports-differ a x b y h r s before behind =
    let g = report-damaged checked a x b y h.0 h.1 in
    record {
      before = map checked (pieces a);
      was = map checked (alone x);
      becomes = map checked (alone y);
      behind = map checked (pieces b);
      of_a = each-checked (pieces a);
      of_x = each-checked (alone x);
      of_y = each-checked (alone y);
      of_b = each-checked (pieces b);
      as_it_was = of-between a x b r before g.as_it_was;
      damaged = of-between a y b s behind g.damaged;
    }
