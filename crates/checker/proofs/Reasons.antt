-- Checking a text is reading it and then judging what was read: so a reason is given exactly when one of the two gives it, a text has one refusal at most, and it is accepted exactly where it is the sheet of
-- values in range that are true.
use Prim.Native.Nat.{ℕ, ◌+◌, ◌≤◌}
use mathlib.Core.List.{List}
use lib.ListN.{length}
use mathlib.Core.Logic.{◌↔◌}
use mathlib.Core.Path.{◌≡◌, refl, ap, ◌∙◌, sym, subst}
use native.Mathlib.Omega.{arith}
use Rattle.std.specs.Prelude.{Result, Ok, Err}
use Rattle.ring.specs.Limits.{Limits, desk}
use Rattle.ring.specs.Sheet.{Sheet}
use Rattle.ring.specs.True.{TrueSheet}
use Rattle.reasons.specs.Findings.{First, found}
use Rattle.reasons.specs.Reasons.{number_of}
use Rattle.reasons.specs.declared.reason.Reason.TheVariants.{NoRoom}
use Rattle.reasons.specs.declared.finding.Finding.{Finding}
use Rattle.reasons.specs.declared.reason.Reason.{Reason}
use Rattle.reasons.specs.declared.reason.Refusal.{Refusal}
use Rattle.reasons.specs.Refusals.{refusal, refuse}
use Rattle.judge.specs.Findings.{findings}
use Rattle.judge.specs.Tests.{sheet_judged}
use Rattle.judge.proofs.Tests.{first-judged, first-is-judged}
use Rattle.judge.proofs.Accepted.{fine-true, true-fine-by}
use Rattle.table.proofs.TableText.{desk-spelled}
use Rattle.table.specs.Spelled.{LimitsSpelled}
use Rattle.sheet.specs.Range.{InRange}
use Rattle.sheet.specs.Read.{read_sheet}
use Rattle.sheet.specs.WriteSheet.{write_sheet}
use Rattle.table.proofs.Said.{not-15 as reading-not-15}
use Rattle.sheet.proofs.SheetText.{sheet-text}
use Rattle.sheet.proofs.SheetReasons.{given as read-given}
use Rattle.checker.specs.Check.{line_of, byte_on, on_line, judged_on, check_read, check}
use Rattle.checker.specs.Says.{ReadTo, Stands, of_sum, of_way, of_cut, of_link, of_last, of_peak, of_bound, Given, of_form, of_figures, Accepted}
use Rattle.checker.proofs.Found.{OfFigures, a_sum, a_way, a_cut, a_link, a_last, a_peak, a_bound, first-is, all-figures}

-- ---- where a finding stands

byte-1 : (line : ℕ) → 1 ≤ line → byte_on line ≡ 1
byte-1 line l = omega arith

module _ (x : Sheet) where
  there-is : {reason : Reason} (place : ℕ) → OfFigures reason → Stands x reason place (line_of (length x.rows) x.ring.nodes reason place) (byte_on (line_of (length x.rows) x.ring.nodes reason place))
  unfolding line_of
  there-is k a_sum = rw (byte-1 (k + 1) (omega arith)) of_sum
  there-is k a_way = rw (byte-1 (k + 1) (omega arith)) of_way
  there-is k a_cut = rw (byte-1 (length x.rows + 2) (omega arith)) of_cut
  there-is k a_link = rw (byte-1 (length x.rows + 2 + k) (omega arith)) of_link
  there-is k a_last = rw (byte-1 (length x.rows + x.ring.nodes + 3) (omega arith)) of_last
  there-is k a_peak = of_peak
  there-is k a_bound = of_bound

  on-its-line : {reason : Reason} {place line byte : ℕ} → Stands x reason place line byte → on_line x (found reason place) ≡ refusal reason line byte
  unfolding line_of
  on-its-line (of_sum {k}) = rw (byte-1 (k + 1) (omega arith)) refl
  on-its-line (of_way {k}) = rw (byte-1 (k + 1) (omega arith)) refl
  on-its-line (of_cut {k}) = rw (byte-1 (length x.rows + 2) (omega arith)) refl
  on-its-line (of_link {k}) = rw (byte-1 (length x.rows + 2 + k) (omega arith)) refl
  on-its-line (of_last {k}) = rw (byte-1 (length x.rows + x.ring.nodes + 3) (omega arith)) refl
  on-its-line of_peak = refl
  on-its-line of_bound = refl

figures-not-15 : {r : Reason} → OfFigures r → number_of r ≡ number_of NoRoom → ⊥
figures-not-15 a_sum e = omega arith
figures-not-15 a_way e = omega arith
figures-not-15 a_cut e = omega arith
figures-not-15 a_link e = omega arith
figures-not-15 a_last e = omega arith
figures-not-15 a_peak e = omega arith
figures-not-15 a_bound e = omega arith

-- ---- of any limits whose numbers can be spelled

module _ (limits : Limits) (spelled : LimitsSpelled limits) (t : List ℕ) where
  pub read-by : (x : Sheet) → (read_sheet limits t ≡ Ok x) ↔ ReadTo limits t x
  read-by x =
      (λ e. let h = (sheet-text limits spelled t x).0 e in record { text = h.0; range = h.1 }, λ h. (sheet-text limits spelled t x).1 (h.text, h.range))

  -- ---- refusals

  module _ (r : Refusal) where
    found-on : (x : Sheet) → ReadTo limits t x → (v : Result Unit Finding) → sheet_judged limits x ≡ v → judged_on x v ≡ Err r → Given limits t r.reason r.line r.byte
    unfolding judged_on
    found-on x is (Ok _) q h = absurd (cc)
    found-on x is (Err f) q h =
        let first : First (findings limits x) (Err f) = subst (First (findings limits x)) q (first-judged limits x) in
        let stands = there-is x f.place (first-is _ (findings limits x) f (all-figures limits x is.range) first) in
        let same : on_line x f ≡ r = cc in
        subst (λ (y : Refusal). Given limits t y.reason y.line y.byte) same (of_figures x f.place is first stands)

    refused-is : (y : Result Sheet Refusal) → read_sheet limits t ≡ y → check_read limits y ≡ Err r → Given limits t r.reason r.line r.byte
    refused-is (Err s) e h = of_form ((read-given limits t r).0 (e ∙ h))
    refused-is (Ok x) e h = found-on x ((read-by x).0 e) (sheet_judged limits x) refl h

    is-refused-by : Given limits t r.reason r.line r.byte → check limits t ≡ Err r
    unfolding check judged_on
    is-refused-by (of_form g) = ap (check_read limits) ((read-given limits t r).1 g)
    is-refused-by (of_figures x place is first stands) =
        ap (check_read limits) ((read-by x).1 is)
        ∙ ap (judged_on x) (sym (first-is-judged limits x (Err (found r.reason place)) first))
        ∙ ap Err (on-its-line x stands)

    pub given-by : (check limits t ≡ Err r) ↔ Given limits t r.reason r.line r.byte
    unfolding check
    given-by = (λ e. refused-is (read_sheet limits t) refl e, is-refused-by)

  -- ---- acceptance

  -- read to these values, against which nothing is found
  pub accepted-by : (x : Sheet) → (check limits t ≡ Ok x) ↔ (ReadTo limits t x × First (findings limits x) (Ok tt))
  unfolding check judged_on
  accepted-by x = (λ e. there (read_sheet limits t) refl e, λ h. ap (check_read limits) ((read-by x).1 h.0) ∙ ap (judged_on x) (sym (first-is-judged limits x (Ok tt) h.1)))
    where
      judged-there : (y : Sheet) → ReadTo limits t y → (v : Result Unit Finding) → sheet_judged limits y ≡ v → judged_on y v ≡ Ok x → ReadTo limits t x × First (findings limits x) (Ok tt)
      judged-there y is (Ok _) q h =
          let e : y ≡ x = cc in
          let first : First (findings limits y) (Ok tt) = subst (First (findings limits y)) q (first-judged limits y) in
          rw (← e) (is, first)
      judged-there y is (Err f) q h = absurd (cc)

      there : (y : Result Sheet Refusal) → read_sheet limits t ≡ y → check_read limits y ≡ Ok x → ReadTo limits t x × First (findings limits x) (Ok tt)
      there (Ok y) e h = judged-there y ((read-by y).0 e) (sheet_judged limits y) refl h
      there (Err r) e h = absurd (cc)

  -- the text is checked to a sheet
  pub record ReadsBy : Type 0 where
    pub x : Sheet
    pub is : check limits t ≡ Ok x

  pub accepted-is-by : ReadsBy ↔ Accepted limits t
  accepted-is-by = (
    λ h. let a = (accepted-by h.x).0 h.is in record { x = h.x; is = a.0; none = a.1 },
    λ a. record { x = a.x; is = (accepted-by a.x).1 (a.is, a.none) },
  )

  -- a text is accepted as this sheet exactly when it is the sheet written, in range, and true
  pub check-text-by : (x : Sheet) → (check limits t ≡ Ok x) ↔ ((t ≡ write_sheet x) × (InRange limits x × TrueSheet x))
  check-text-by x = (
    λ e. let a = (accepted-by x).0 e in (a.0.text, (a.0.range, fine-true limits x a.1)),
    λ h. (accepted-by x).1 (record { text = h.0; range = h.1.0 }, true-fine-by limits x h.1.0.within h.1.1),
  )

  -- a text that is read to this sheet is accepted exactly when that is true
  pub accepted-true : (x : Sheet) → read_sheet limits t ≡ Ok x → (check limits t ≡ Ok x) ↔ TrueSheet x
  accepted-true x e =
      let is = (read-by x).0 e in
      (λ a. ((check-text-by x).0 a).1.1, λ true_sheet. (check-text-by x).1 (is.text, (is.range, true_sheet)))

-- ---- of the desk's

module _ (t : List ℕ) where
  pub read-as : (x : Sheet) → (read_sheet desk t ≡ Ok x) ↔ ReadTo desk t x
  read-as = read-by desk desk-spelled t

  pub given : (r : Refusal) → (check desk t ≡ Err r) ↔ Given desk t r.reason r.line r.byte
  given = given-by desk desk-spelled t

  is-refused : (r : Refusal) → Given desk t r.reason r.line r.byte → check desk t ≡ Err r
  is-refused r = (given r).1

  pub accepted-as : (x : Sheet) → (check desk t ≡ Ok x) ↔ (ReadTo desk t x × First (findings desk x) (Ok tt))
  accepted-as = accepted-by desk desk-spelled t

  -- the text is checked to a sheet
  pub record Reads : Type 0 where
    pub x : Sheet
    pub is : check desk t ≡ Ok x

  pub accepted-is : Reads ↔ Accepted desk t
  accepted-is = (
    λ h. let a = (accepted-as h.x).0 h.is in record { x = h.x; is = a.0; none = a.1 },
    λ a. record { x = a.x; is = (accepted-as a.x).1 (a.is, a.none) },
  )

  -- a text is accepted as this sheet exactly when it is the sheet written, in range, and true
  pub check-text : (x : Sheet) → (check desk t ≡ Ok x) ↔ ((t ≡ write_sheet x) × (InRange desk x × TrueSheet x))
  check-text = check-text-by desk desk-spelled t

  -- a text that is read to this sheet is accepted exactly when that is true
  pub accepted-if-true : (x : Sheet) → ReadTo desk t x → (check desk t ≡ Ok x) ↔ TrueSheet x
  accepted-if-true x is = (λ e. ((check-text x).0 e).1.1, λ true_sheet. (check-text x).1 (is.text, (is.range, true_sheet)))

  -- ---- one answer

  pub one-given : {r s : Reason} {line other byte on : ℕ} → Given desk t r line byte → Given desk t s other on → (r ≡ s) × (line ≡ other) × (byte ≡ on)
  one-given {r} {s} {line} {other} {byte} {on} f g =
      let e : ◌≡◌ {A = Result Sheet Refusal} (refuse r line byte) (refuse s other on) = sym (is-refused (refusal r line byte) f) ∙ is-refused (refusal s other on) g in
      let same : refusal r line byte ≡ refusal s other on = cc in
      (ap (λ (x : Refusal). x.reason) same, ap (λ (x : Refusal). x.line) same, ap (λ (x : Refusal). x.byte) same)

  pub not-both : {r : Reason} {line byte : ℕ} → Accepted desk t → Given desk t r line byte → ⊥
  not-both {r} {line} {byte} a g =
      let h = accepted-is.1 a in
      let e : Ok h.x ≡ refuse r line byte = sym h.is ∙ is-refused (refusal r line byte) g in
      absurd (cc)

  -- 15 is given by the calls, and not here
  pub not-15 : (r : Reason) {line byte : ℕ} → Given desk t r line byte → number_of r ≡ number_of NoRoom → ⊥
  not-15 r {line} (of_form g) e = reading-not-15 r g.holds e
  not-15 r (of_figures x place is first stands) e = figures-not-15 (first-is _ (findings desk x) (found r place) (all-figures desk x is.range) first) e
