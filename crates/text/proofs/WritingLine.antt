-- Writing a line field by field: the fields from t on are left, and go to the place p of the buffer.
use Prim.Native.Nat.{ℕ, ◌+◌, ◌-◌, ◌≤◌, ◌<◌}
use mathlib.Core.Path.{◌≡◌, ap, ◌∙◌, sym}
use mathlib.Core.List.{List, [], ◌∷◌, ◌++◌, append_assoc}
use native.Mathlib.Omega.{arith}
use lib.ListN.{length, get_or, drop, length-append, length-drop, drop_of_length-le}
use Rattle.text.specs.Field.{spell}
use Rattle.text.specs.WriteLine.{end_of, write_line}
use Rattle.text.specs.Written.{Passed}
use Rattle.text.specs.declared.field.Field.{Field}
use Rattle.text.proofs.Lists.{here_of, here}
use Rattle.text.specs.Pass.{PassLaws}
use Rattle.text.proofs.Writing.{room-kept}

-- the text of the fields from t on
abbrev pub rest_text : List Field → List ℕ → ℕ → List ℕ
rest_text fs vs t = write_line (drop t fs) (drop t vs)

pub record Writing (room : List ℕ → ℕ) (after : List ℕ → ℕ → List ℕ → List ℕ) (fs : List Field) (vs old : List ℕ) (start t p : ℕ) (buf : List ℕ) : Type 0 where
  pub place : p + length (rest_text fs vs t) ≡ start + length (write_line fs vs)
  pub text : after buf p (rest_text fs vs t) ≡ after old start (write_line fs vs)
  pub same_room : room buf ≡ room old

module _ {room : List ℕ → ℕ} {after : List ℕ → ℕ → List ℕ → List ℕ} (pass : PassLaws room after) (fs : List Field) (vs old : List ℕ) (start t p : ℕ) (buf : List ℕ)
    (inv : Writing room after fs vs old start t p buf) where
  module _ (d : Field) (there : t < length fs) (valued : length fs ≤ length vs) (end : ℕ) (behind : end ≡ end_of (length fs - t - 1)) where
    abbrev pub f : Field
    f = get_or fs t d

    abbrev pub v : ℕ
    v = get_or vs t 0

    next-field : rest_text fs vs t ≡ spell f v ++ end ∷ rest_text fs vs (t + 1)
    unfolding write_line
    next-field =
        let left : length (drop (t + 1) fs) ≡ length fs - t - 1 = omega (arith, length-drop (t + 1) fs) in
        rw (here_of fs t d there, here vs t (omega arith), left, behind)

    pub field-fits : start + length (write_line fs vs) ≤ room old → p + length (spell f v) + 1 ≤ room buf
    field-fits h = omega (arith, inv.place, inv.same_room, ap length next-field, length-append (spell f v) (end ∷ rest_text fs vs (t + 1)))

    pub writing-turn : (q : ℕ) (new : List ℕ) → Passed after buf p (spell f v ++ end ∷ []) new q → Writing room after fs vs old start (t + 1) q new
    writing-turn q new w =
        let rest : List ℕ = rest_text fs vs (t + 1) in
        let whole : (spell f v ++ end ∷ []) ++ rest ≡ rest_text fs vs t = append_assoc (spell f v) (end ∷ []) rest ∙ sym next-field in
        record {
          place = omega (arith, w.place, length-append (spell f v) (end ∷ []), inv.place, ap length whole, length-append (spell f v ++ end ∷ []) rest);
          text = rw (w.buffer, w.place) (pass.append buf p (spell f v ++ end ∷ []) rest ∙ ap (after buf p) whole ∙ inv.text);
          same_room = room-kept pass buf new (spell f v ++ end ∷ []) p q w ∙ inv.same_room;
        }

  pub writing-done : length fs ≤ t → Passed after old start (write_line fs vs) buf p
  unfolding write_line
  writing-done h =
      let none : rest_text fs vs t ≡ [] = rw (drop_of_length-le fs h) in
      record { place = omega (arith, inv.place, ap length none); buffer = sym (pass.nothing buf p) ∙ sym (ap (after buf p) none) ∙ inv.text }
