-- Internal: the lines of a square as the code's arrays hold them.
use Rattle.std.specs.Prelude.{ℕ, ◌≤◌, List, ◌≡◌, All, length, map, take}
use Rattle.ring.specs.Limits.{desk}
use Rattle.matrix.specs.declared.square.Square.TheInside.{Inside}

-- as many lines as there are nodes, and as many entries of each
abbrev pub lines_in : Inside → List (List ℕ)
lines_in s = map (take s.nodes) (take s.nodes s.entries)

-- the arrays have room for the largest ring
pub record Sized (s : Inside) : Type 0 where
  pub few : s.nodes ≤ desk.nodes
  pub tall : length s.entries ≡ desk.nodes
  pub wide : All (λ vs. length vs ≡ desk.nodes) s.entries
