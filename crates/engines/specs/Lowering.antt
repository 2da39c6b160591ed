-- To believe: lowered rooms: links 1 to n in turn, each gets the lowest room that the others leave it, in halves. What that gives is `LoweredRooms`, by
-- `rooms-lowered` (engines/Lowered), and no other rooms are so, by `one-lowering`.
use Rattle.std.specs.Prelude.{ℕ, zero, suc, ◌+◌, ◌*◌, ◌-◌, ◌≤◌, ◌<◌, max, cond, List, ◌≡◌, eqb}
use Rattle.ring.specs.declared.types.Demand.{Demand}
use Rattle.ring.specs.Cut.{across}
use Rattle.ring.specs.Routing.{peak}
use Rattle.ring.specs.RuleA.{rule_a, largest_across}
use Rattle.ring.specs.RuleB.{Room}

-- the turn of link g: the largest of 2 x across(h,g) - room(h) for h < g and 2 x across(g,h) - M for h > g
unfoldable pub lowest_room : (ℕ → ℕ → ℕ) → ℕ → ℕ → Room → ℕ → ℕ
unfolding peak
lowest_room number m n room g = max (peak (λ h. 2 * number h g - room h) (g - 1)) (peak (λ x. 2 * number g (g + x) - m) (n - g))

-- the rooms where links 1 to g have had their turn, in that order, and all others have M
unfoldable pub lower_to : (ℕ → ℕ → ℕ) → ℕ → ℕ → ℕ → Room
unfolding lowest_room
lower_to number m n zero k = m
lower_to number m n (suc g) k = let room = lower_to number m n g in cond (eqb k (suc g)) (lowest_room number m n room (suc g)) (room k)

-- all links have had their turn
unfoldable pub lowered_rooms : ℕ → List Demand → Room
unfolding lower_to across rule_a
lowered_rooms n rs = lower_to (across rs) (largest_across n rs) n n

-- ---- the same in sums, where no difference can be cut off at 0

-- one of these differences is room(g)
pub data OneOf (number : ℕ → ℕ → ℕ) (m n : ℕ) (room : Room) (g : ℕ) : Type 0 where
  earlier : (h : ℕ) → 1 ≤ h → h < g → room h + room g ≡ 2 * number h g → OneOf number m n room g
  later : (h : ℕ) → g < h → h ≤ n → m + room g ≡ 2 * number g h → OneOf number m n room g

-- none is larger than room(g), and one is room(g)
pub record LargestOf (number : ℕ → ℕ → ℕ) (m n : ℕ) (room : Room) (g : ℕ) : Type 0 where
  pub before : (h : ℕ) → 1 ≤ h → h < g → 2 * number h g ≤ room h + room g
  pub behind : (h : ℕ) → g < h → h ≤ n → 2 * number g h ≤ m + room g
  pub is : OneOf number m n room g

-- so for each link of the ring
abbrev pub LoweredRooms : ℕ → List Demand → Room → Type 0
LoweredRooms n rs room = (g : ℕ) → 1 ≤ g → g ≤ n → LargestOf (across rs) (largest_across n rs) n room g
