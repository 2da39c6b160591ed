-- The report piece by piece is the report; its numbers add up, the totals of each family by themselves; and each piece is counted once.
use Prim.Native.Nat.{ℕ, ◌+◌, ◌≤◌}
use mathlib.Core.Bool.{Bool, true, false, cond}
use mathlib.Core.List.{List, [], ◌∷◌, ◌++◌}
use mathlib.Core.Path.{◌≡◌, refl, ap, sym, ◌∙◌}
use native.Mathlib.Nat.{add_assoc, add-zero, zero-add}
use native.Mathlib.Omega.{arith}
use lib.ListN.{length}
use Rattle.family.specs.declared.family.Family.{Family}
use Rattle.family.specs.declared.family.Family.TheVariants.{Sonet, Sdh}
use Rattle.report.specs.declared.outcome.Outcome.{Outcome}
use Rattle.report.specs.declared.outcome.Outcome.TheVariants.{Refused, Accepted}
use Rattle.report.specs.declared.totals.Totals.{Totals}
use Rattle.report.specs.declared.totals.Report.{Report}
use Rattle.report.specs.Totals.{accepts, refuses, peak_of, total, worst_from, totals, is_of, plans_of, report_of, totals_in, FamiliesApart}
use Rattle.report.specs.Fold.{no_plan, no_piece, with_plan, with_piece, report_from}

-- ---- the sums, apart

total-append : (share : Outcome → ℕ) (js ks : List Outcome) → total share (js ++ ks) ≡ total share js + total share ks
unfolding total
total-append share [] ks = sym (zero-add (total share ks))
total-append share (j ∷ js) ks = rw (total-append share js ks, add_assoc (share j) (total share js) (total share ks)) refl

plans-append : (f : Family) (js ks : List Outcome) → plans_of f (js ++ ks) ≡ plans_of f js ++ plans_of f ks
unfolding plans_of
plans-append f [] ks = refl
plans-append f (j ∷ js) ks = go (is_of f j) (plans-append f js ks)
  where
    go : (c : Bool) → plans_of f (js ++ ks) ≡ plans_of f js ++ plans_of f ks
        → cond c (j ∷ plans_of f (js ++ ks)) (plans_of f (js ++ ks)) ≡ cond c (j ∷ plans_of f js) (plans_of f js) ++ plans_of f ks
    go true e = ap (λ (l : List Outcome). j ∷ l) e
    go false e = e

-- those of a family add up to no more than all
pub plans-most : (share : Outcome → ℕ) (f : Family) (js : List Outcome) → total share (plans_of f js) ≤ total share js
unfolding total plans_of
plans-most share f [] = omega arith
plans-most share f (j ∷ js) = go (is_of f j) (plans-most share f js)
  where
    go : (c : Bool) → total share (plans_of f js) ≤ total share js → total share (cond c (j ∷ plans_of f js) (plans_of f js)) ≤ share j + total share js
    go true h = omega (arith, h)
    go false h = omega (arith, h)

-- ---- a number of a report that adds up

pub Adds : (Report → ℕ) → Type 0
Adds number = (js ks : List Outcome) → number (report_of (js ++ ks)) ≡ number (report_of js) + number (report_of ks)

family-adds : (share : Outcome → ℕ) (f : Family) (js ks : List Outcome) → total share (plans_of f (js ++ ks)) ≡ total share (plans_of f js) + total share (plans_of f ks)
family-adds share f js ks = rw (plans-append f js ks) (total-append share (plans_of f js) (plans_of f ks))

pub accepted-adds : (f : Family) → Adds (λ (r : Report). (totals_in f r).accepted)
unfolding Adds report_of totals
accepted-adds Sonet js ks = family-adds accepts Sonet js ks
accepted-adds Sdh js ks = family-adds accepts Sdh js ks

pub peaks-adds : (f : Family) → Adds (λ (r : Report). (totals_in f r).peaks)
unfolding Adds report_of totals
peaks-adds Sonet js ks = family-adds peak_of Sonet js ks
peaks-adds Sdh js ks = family-adds peak_of Sdh js ks

pub refused-adds : Adds (λ (r : Report). r.refused)
unfolding Adds report_of
refused-adds js ks = total-append refuses js ks

-- what stands between js and ks adds its own share
pub adds-between : (number : Report → ℕ) → Adds number → (js xs ks : List Outcome)
    → number (report_of (js ++ (xs ++ ks))) ≡ number (report_of js) + (number (report_of xs) + number (report_of ks))
unfolding Adds
adds-between number adds js xs ks = rw (adds js (xs ++ ks), adds xs ks) refl

-- ---- what is of no family, or of another one

other-out : (f : Family) (o : Outcome) → is_of f o ≡ false → (js : List Outcome) → plans_of f (o ∷ js) ≡ plans_of f js
unfolding plans_of
other-out f o e js = rw e refl

plans-apart : (f : Family) (before : List Outcome) (o : Outcome) (behind : List Outcome) → is_of f o ≡ false → plans_of f (before ++ o ∷ behind) ≡ plans_of f (before ++ behind)
plans-apart f before o behind e =
    plans-append f before (o ∷ behind) ∙ ap (λ (l : List Outcome). plans_of f before ++ l) (other-out f o e behind) ∙ sym (plans-append f before behind)

pub families-apart : FamiliesApart
unfolding report_of
families-apart Sonet before o behind e = ap totals (plans-apart Sonet before o behind e)
families-apart Sdh before o behind e = ap totals (plans-apart Sdh before o behind e)

-- ---- each is counted once

pub counted-once : (js : List Outcome) → total accepts (plans_of Sonet js) + total accepts (plans_of Sdh js) + total refuses js ≡ length js
unfolding total accepts refuses plans_of is_of
counted-once [] = refl
counted-once (Refused ∷ js) = omega (arith, counted-once js)
counted-once (Accepted Sonet p a ∷ js) = omega (arith, counted-once js)
counted-once (Accepted Sdh p a ∷ js) = omega (arith, counted-once js)

-- ---- piece by piece

add-totals : Totals → List Outcome → Totals
add-totals t js = record {
  accepted = t.accepted + total accepts js;
  peaks = t.peaks + total peak_of js;
  worst = worst_from t.worst js;
}

add-report : Report → List Outcome → Report
add-report r js = record {
  sonet = add-totals r.sonet (plans_of Sonet js);
  sdh = add-totals r.sdh (plans_of Sdh js);
  refused = r.refused + total refuses js;
}

no-more : (t : Totals) → t ≡ add-totals t []
unfolding add-totals total worst_from
no-more t = rw (add-zero t.accepted, add-zero t.peaks) refl

one-more : (f : Family) (t : Totals) (p a : ℕ) (js : List Outcome) → add-totals (with_plan t p a) js ≡ add-totals t (Accepted f p a ∷ js)
unfolding add-totals with_plan total worst_from accepts peak_of
one-more f t p a js = rw (add_assoc t.accepted 1 (total accepts js), add_assoc t.peaks p (total peak_of js)) refl

from-is : (r : Report) (js : List Outcome) → report_from r js ≡ add-report r js
unfolding report_from add-report with_piece plans_of is_of total refuses
from-is r [] = λ i. record { sonet = no-more r.sonet i; sdh = no-more r.sdh i; refused = sym (add-zero r.refused) i }
from-is r (Refused ∷ js) =
    from-is (with_piece r Refused) js
    ∙ (λ i. record { sonet = add-totals r.sonet (plans_of Sonet js); sdh = add-totals r.sdh (plans_of Sdh js); refused = add_assoc r.refused 1 (total refuses js) i })
from-is r (Accepted Sonet p a ∷ js) =
    from-is (with_piece r (Accepted Sonet p a)) js
    ∙ (λ i. record {
      sonet = one-more Sonet r.sonet p a (plans_of Sonet js) i;
      sdh = add-totals r.sdh (plans_of Sdh js);
      refused = r.refused + sym (zero-add (total refuses js)) i;
    })
from-is r (Accepted Sdh p a ∷ js) =
    from-is (with_piece r (Accepted Sdh p a)) js
    ∙ (λ i. record {
      sonet = add-totals r.sonet (plans_of Sonet js);
      sdh = one-more Sdh r.sdh p a (plans_of Sdh js) i;
      refused = r.refused + sym (zero-add (total refuses js)) i;
    })

from-none : (js : List Outcome) → add-totals no_plan js ≡ totals js
unfolding add-totals totals
from-none js = rw (zero-add (total accepts js), zero-add (total peak_of js)) refl

pub report-are : (js : List Outcome) → report_from no_piece js ≡ report_of js
unfolding add-report report_of
report-are js =
    from-is no_piece js
    ∙ (λ i. record { sonet = from-none (plans_of Sonet js) i; sdh = from-none (plans_of Sdh js) i; refused = zero-add (total refuses js) i })
