-- Internal: what rule B is given, a triangle of half slacks, and what it makes of the rows.
use Rattle.std.specs.Prelude.{ℕ, ◌+◌, ◌*◌, ◌≤◌, List, ◌≡◌, length}
use Rattle.ring.specs.declared.types.Demand.{Demand}
use Rattle.ring.specs.declared.types.Routed.{Routed}
use Rattle.ring.specs.Cut.{across}
use Rattle.ring.specs.RuleB.{Room, send_all}
use Rattle.ring.specs.Sheet.{sents, demands_of}
use Rattle.weight.specs.Limits.{across_bound}
use Rattle.across.specs.Cells.{most_places, cell}

-- of links g <= h of the ring, half of what their rooms have beyond twice what lies across them, of rows not yet sent
pub record Spares (n : ℕ) (room : Room) (rs : List Demand) (triangle : List ℕ) : Type 0 where
  pub size : length triangle ≡ most_places
  pub small : (k : ℕ) → 1 ≤ k → k ≤ n → room k ≤ across_bound
  pub is : (g h : ℕ) → 1 ≤ g → g ≤ h → h ≤ n → 2 * cell triangle g h + 2 * across rs g h ≡ room g + room h

-- rule B from rooms
pub record SentAll (room : Room) (old new : List Routed) : Type 0 where
  pub is : sents new ≡ send_all room (demands_of old)
