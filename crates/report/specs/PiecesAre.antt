-- To believe: what the pieces of a text are, without the way they are found: four properties that leave no choice.
use Rattle.std.specs.Prelude.{ℕ, true, List, [], ◌∷◌, ◌++◌, ◌≡◌, ◌↔◌}
use mathlib.Core.List.{flatten}
use Rattle.ring.specs.Lists.{Each, Steps}
use Rattle.text.specs.Bytes.{lf, letter_r}
use Rattle.report.specs.Pieces.{starts_r, pieces}

-- its last byte is LF
unfoldable pub EndsLine : List ℕ → Type 0
EndsLine p = (front : List ℕ) × (p ≡ front ++ lf ∷ [])

-- no line behind its first starts with R
unfoldable pub NoneBehind : List ℕ → Type 0
NoneBehind p = (front rest : List ℕ) → p ≡ front ++ lf ∷ letter_r ∷ rest → ⊥

unfoldable pub IsEmpty : List ℕ → Type 0
IsEmpty t = t ≡ []

-- a piece is not empty, and no line behind its first starts with R
pub record OnePiece (p : List ℕ) : Type 0 where
  pub filled : IsEmpty p → ⊥
  pub none_behind : NoneBehind p

-- a piece that another is behind ends with LF, and the one behind it starts with R
pub record Parted (p q : List ℕ) : Type 0 where
  pub ends : EndsLine p
  pub starts : starts_r q ≡ true

-- put together they are the text
pub record ArePieces (t : List ℕ) (ps : List (List ℕ)) : Type 0 where
  pub together : flatten ps ≡ t
  pub each : Each OnePiece ps
  pub parted : Steps Parted ps

-- the pieces of a text are such a list, and no other list is
abbrev pub PiecesAre : Type 0
PiecesAre = (t : List ℕ) (ps : List (List ℕ)) → (ps ≡ pieces t) ↔ ArePieces t ps
