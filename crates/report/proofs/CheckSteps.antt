-- What the checker answers of a piece is what it gives; and its figures are small.
use Prim.Native.Nat.{ℕ, ◌*◌, ◌≤◌}
use mathlib.Core.List.{List, [], ◌∷◌, ◌++◌}
use mathlib.Core.Path.{◌≡◌, refl, ap, sym, ◌∙◌}
use native.Mathlib.Omega.{arith}
use lib.ListN.{length, length-append}
use Rattle.std.specs.Prelude.{Result as Either, Ok, Err}
use Rattle.std.specs.List.{flat_map}
use Rattle.ring.specs.Limits.{desk}
use Rattle.ring.specs.Sheet.{Sheet, figures_of}
use Rattle.ring.specs.declared.types.Figures.{Figures}
use Rattle.ring.specs.declared.types.Link.{Link}
use Rattle.ring.specs.declared.types.Routed.{Routed}
use Rattle.ring.proofs.Small.{figures-small}
use Rattle.reasons.specs.declared.reason.Refusal.{Refusal}
use Rattle.text.specs.Field.{spell}
use Rattle.text.specs.WriteLine.{end_of, write_line}
use Rattle.text.specs.RingLine.{ring_line}
use Rattle.text.specs.declared.field.Field.{Field}
use Rattle.sheet.specs.ReadInto.{with_values}
use Rattle.sheet.specs.WriteSheet.{routed_line, end_text, write_sheet}
use Rattle.checker.specs.Check.{check}
use Rattle.checker.proofs.Reasons.{check-text}
use Rattle.report.specs.declared.outcome.Outcome.TheVariants.{Refused, Accepted}
use Rattle.report.specs.Totals.{peak_of}
use Rattle.report.specs.ByCheck.{outcome_of, checked}

-- ---- what a piece gives

module _ (rs : List Routed) (ls : List Link) (answer : Either Figures Refusal) (s : List ℕ) (e : with_values rs ls answer ≡ check desk s) where
  pub gives-plan : (f : Figures) → answer ≡ Ok f → Accepted f.ring.family f.unsplit_peak f.cut.across ≡ checked s
  unfolding outcome_of
  gives-plan f a = ap outcome_of (sym (ap (with_values rs ls) a) ∙ e)

  pub gives-none : (r : Refusal) → answer ≡ Err r → Refused ≡ checked s
  unfolding outcome_of
  gives-none r a = ap outcome_of (sym (ap (with_values rs ls) a) ∙ e)

-- ---- how large its peak is: each row takes a byte and more

filled-line : (f : Field) (v : ℕ) (fs : List Field) (vs : List ℕ) → 1 ≤ length (write_line (f ∷ fs) (v ∷ vs))
unfolding write_line
filled-line f v fs vs = omega (arith, length-append (spell f v) (end_of (length fs) ∷ write_line fs vs))

filled-row : (r : Routed) → 1 ≤ length (routed_line r)
filled-row r = filled-line _ _ _ _

rows-length : (rs : List Routed) → length rs ≤ length (flat_map routed_line rs)
rows-length [] = omega arith
rows-length (r ∷ rs) = omega (arith, length-append (routed_line r) (flat_map routed_line rs), filled-row r, rows-length rs)

sheet-length : (x : Sheet) → length x.rows ≤ length (write_sheet x)
unfolding write_sheet
sheet-length x =
    omega (
      arith,
      length-append (ring_line x.ring) (flat_map routed_line x.rows ++ end_text (figures_of x) x.links),
      length-append (flat_map routed_line x.rows) (end_text (figures_of x) x.links),
      rows-length x.rows,
    )

peak-small : (s : List ℕ) (r : Either Sheet Refusal) → check desk s ≡ r → peak_of (outcome_of r) ≤ desk.amount * length s
unfolding outcome_of peak_of
peak-small s (Err r) e = omega arith
peak-small s (Ok x) e =
    let h = (check-text s x).0 e in
    let f = figures-small desk.amount x h.1.1 h.1.0.within.amounts in
    let l : length x.rows ≤ length s = rw h.0 (sheet-length x) in
    omega (arith, f.unsplit_peak)

pub piece-small : (s : List ℕ) → peak_of (checked s) ≤ desk.amount * length s
piece-small s = peak-small s (check desk s) refl
