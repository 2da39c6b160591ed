-- The lines of a text by what they are: a byte in front makes a line of its own where it is LF, else it goes in front of the first line, which stays what it was.
use Prim.Native.Nat.{ℕ}
use mathlib.Core.List.{List, [], ◌∷◌, ◌++◌}
use mathlib.Core.Bool.{false}
use mathlib.Core.Path.{◌≡◌, refl, sym}
use native.Mathlib.Decide.{ℕ_discrete}
use borrow.Author.Tests.{eq-eqb, ne_eqb}
use Rattle.ring.specs.Lists.{none, more}
use Rattle.text.specs.Bytes.{lf}
use Rattle.lines.specs.Lines.{with_byte, lines}
use Rattle.lines.specs.Laws.{WithoutLf, AreLines, no_line, line_ended, line_begun, LinesAre}

in-front : (c : ℕ) → (c ≡ lf → ⊥) → {t : List ℕ} {ls : List (List ℕ)} → AreLines t ls → AreLines (c ∷ t) (with_byte false c ls)
unfolding with_byte
in-front c h no_line = line_begun (more h none)
in-front c h (line_ended e rest) = line_ended (more h e) rest
in-front c h (line_begun e) = line_begun (more h e)

are-lines : (t : List ℕ) → AreLines t (lines t)
unfolding lines with_byte
are-lines [] = no_line
are-lines (c ∷ t) =
    elim (ℕ_discrete c lf) [
      | yes e ↦ rw (eq-eqb c lf e, e) (line_ended {l = []} none (are-lines t))
      | no h ↦ rw (ne_eqb c lf h) (in-front c h (are-lines t))
    ]

ended-first : (l t : List ℕ) → WithoutLf l → lines (l ++ lf ∷ t) ≡ (l ++ lf ∷ []) ∷ lines t
unfolding lines with_byte
ended-first [] t none = refl
ended-first (c ∷ l) t (more h e) = rw (ne_eqb c lf h, ended-first l t e)

begun-alone : (b : ℕ) (l : List ℕ) → WithoutLf (b ∷ l) → lines (b ∷ l) ≡ (b ∷ l) ∷ []
unfolding lines with_byte
begun-alone b [] (more h none) = rw (ne_eqb b lf h)
begun-alone b (c ∷ l) (more h e) = rw (ne_eqb b lf h, begun-alone c l e)

only-lines : {t : List ℕ} {ls : List (List ℕ)} → AreLines t ls → ls ≡ lines t
unfolding lines
only-lines no_line = refl
only-lines (line_ended {l} {t} e rest) = rw (ended-first l t e, only-lines rest)
only-lines (line_begun {b} {l} e) = sym (begun-alone b l e)

pub lines-are : LinesAre
lines-are t ls = (λ e. rw e (are-lines t), only-lines)
