-- Internal: what the scan over the rows answers.
use Rattle.std.specs.Prelude.{ℕ, List, Option, Some, None, ◌≡◌, slice_get}
use Rattle.ring.specs.declared.types.Routed.{Routed}
use Rattle.turns.specs.Turns.{placed_row, choice}

-- the row that is chosen is the one at the place
pub record Picked (n : ℕ) (rs : List Routed) (place : ℕ) : Type 0 where
  pub row : Routed
  pub at : slice_get rs place ≡ Some row
  pub is : choice n rs ≡ Some (placed_row place row)

-- so it is, or no row is chosen
abbrev pub Picks : ℕ → List Routed → Option ℕ → Type 0
Picks n rs None = choice n rs ≡ None
Picks n rs (Some place) = Picked n rs place
