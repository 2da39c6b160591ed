-- To believe: what holds of the lines of all texts at once, the contract of a function that does nothing (`lines_of_a_text` of the crate `laws`).
use Rattle.std.specs.Prelude.{ℕ, List, [], ◌∷◌, ◌++◌, ◌↔◌, ◌≡◌}
use Rattle.ring.specs.Lists.{Each}
use Rattle.text.specs.Bytes.{lf}
use Rattle.lines.specs.Lines.{lines}

-- no byte is LF
abbrev pub WithoutLf : List ℕ → Type 0
WithoutLf l = Each (λ b. b ≡ lf → ⊥) l

-- one behind the other these are the text; each ends with LF and has no other, but what is behind the last LF, where there is more, has none
pub data AreLines : List ℕ → List (List ℕ) → Type 0 where
  no_line : AreLines [] []
  line_ended : {l t : List ℕ} {ls : List (List ℕ)} → WithoutLf l → AreLines t ls → AreLines (l ++ lf ∷ t) ((l ++ lf ∷ []) ∷ ls)
  line_begun : {b : ℕ} {l : List ℕ} → WithoutLf (b ∷ l) → AreLines (b ∷ l) ((b ∷ l) ∷ [])

-- these are the lines of a text, and no others are
abbrev pub LinesAre : Type 0
LinesAre = (t : List ℕ) (ls : List (List ℕ)) → (ls ≡ lines t) ↔ AreLines t ls
