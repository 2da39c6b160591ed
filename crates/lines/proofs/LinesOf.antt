-- The lines of a text, one behind the other, are the text; and a line that is written in front of a text is its first line, since LF is its
-- last byte and no other byte of it.
use Prim.Native.Nat.{ℕ, suc, ◌+◌, ◌<◌}
use mathlib.Core.Bool.{Bool, true, false, cond}
use mathlib.Core.List.{List, [], ◌∷◌, ◌++◌, append_assoc, flatten}
use mathlib.Core.Path.{◌≡◌, refl, ap, ◌∙◌}
use native.Mathlib.Omega.{arith}
use lib.Dec.{eqb}
use lib.ListN.{length}
use borrow.Author.Tests.{ne_eqb}
use Rattle.ring.specs.Limits.{Countable}
use Rattle.ring.specs.Lists.{Each, more}
use Rattle.text.specs.Bytes.{tab, lf, digit0, letter_f, letter_b}
use Rattle.text.specs.Number.{limit, digits}
use Rattle.text.specs.Field.{top, spell}
use Rattle.text.specs.WriteLine.{end_of, write_line, FitsShape}
use Rattle.text.specs.declared.field.Field.{Field}
use Rattle.text.specs.declared.field.Field.TheVariants.{Letter, Number, Way}
use Rattle.text.proofs.Digits.{tens, by_digits, digits-one, digits_more}
use Rattle.lines.specs.Lines.{with_byte, lines}

-- ---- the lines are the text

join-byte : (ends : Bool) (b : ℕ) (ls : List (List ℕ)) → flatten (with_byte ends b ls) ≡ b ∷ flatten ls
unfolding with_byte flatten
join-byte true b ls = refl
join-byte false b [] = refl
join-byte false b (l ∷ ls) = refl

pub join-lines : (t : List ℕ) → flatten (lines t) ≡ t
unfolding lines flatten
join-lines [] = refl
join-lines (b ∷ t) = join-byte (eqb b lf) b (lines t) ∙ ap (λ (l : List ℕ). b ∷ l) (join-lines t)

-- ---- a first line

-- l is the first line of every text that begins with it
abbrev pub FirstLine : List ℕ → Type 0
FirstLine l = (t : List ℕ) → lines (l ++ t) ≡ l ∷ lines t

-- a field that is not spelled with LF
abbrev pub NoLf : Field → Type 0
NoLf (Letter b) = b ≡ lf → ⊥
NoLf Number = Unit {0}
NoLf Way = Unit {0}

lf-first : FirstLine (lf ∷ [])
unfolding lines with_byte
lf-first t = refl

byte-first : (b : ℕ) (l : List ℕ) → (b ≡ lf → ⊥) → FirstLine l → FirstLine (b ∷ l)
unfolding lines with_byte
byte-first b l h f t = rw (ne_eqb b lf h, f t)

digits-first : (most : ℕ) → Countable most → (n : ℕ) → n < limit most → (l : List ℕ) → FirstLine l → FirstLine (digits n ++ l)
digits-first most fit =
    by_digits most fit (λ n. (l : List ℕ) → FirstLine l → FirstLine (digits n ++ l))
    (λ n h l f. rw (digits-one n h) (byte-first (digit0 + n) l (λ e. omega arith) f))
    (λ v d hv hf hd ih l f. rw (digits_more v d hv (omega (arith, tens most fit)) hd, append_assoc) (ih ((digit0 + d) ∷ l) (byte-first (digit0 + d) l (λ e. omega arith) f)))

spelled-first : (most : ℕ) → Countable most → (f : Field) (v : ℕ) (l : List ℕ) → NoLf f → v < top most f → FirstLine l → FirstLine (spell f v ++ l)
unfolding spell top
spelled-first most fit (Letter b) v l h k first = byte-first b l h first
spelled-first most fit Number v l h k first = digits-first most fit v k l first
spelled-first most fit Way v l h k first = go (eqb v 0)
  where
    go : (front : Bool) → FirstLine (cond front letter_f letter_b ∷ l)
    go true = byte-first letter_f l (λ e. omega arith) first
    go false = byte-first letter_b l (λ e. omega arith) first

-- a line of any shape whose letters are not LF
pub written-first : (most : ℕ) → Countable most → (f : Field) (fs : List Field) (vs : List ℕ) → Each NoLf (f ∷ fs) → FitsShape most (f ∷ fs) vs → FirstLine (write_line (f ∷ fs) vs)
unfolding write_line FitsShape end_of
written-first most fit f fs [] hs r = absurd r
written-first most fit f [] (v ∷ vs) (more h hs) r = spelled-first most fit f v (lf ∷ []) h r.0 lf-first
written-first most fit f (g ∷ fs) (v ∷ vs) (more h hs) r =
    rw (ne_eqb (suc (length fs)) 0 (λ e. omega arith))
    (spelled-first most fit f v (tab ∷ write_line (g ∷ fs) vs) h r.0 (byte-first tab (write_line (g ∷ fs) vs) (λ e. omega arith) (written-first most fit g fs vs hs r.1)))
