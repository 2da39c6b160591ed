-- Internal: the rooms that links start with, by any across number of pairs of links, and what putting them down is given and makes of them.
use Rattle.std.specs.Prelude.{ℕ, ◌≤◌, List, ◌≡◌, length}
use Rattle.ring.specs.Limits.{desk}
use Rattle.ring.specs.RuleB.{Room}
use Rattle.across.specs.Cells.{cell}
use Rattle.across.specs.Lines.{Pairwise}
use Rattle.weight.specs.Limits.{across_bound}
use Rattle.engines.specs.declared.Engine.{Engine}
use Rattle.engines.specs.declared.Engine.TheVariants.{Level, Lowered}
use Rattle.engines.specs.Lowering.{lower_to}

-- rooms of m, or lowered from m; of the across numbers of rows these are `rooms_by` (engines/Engine)
abbrev pub rooms_from : Engine → (ℕ → ℕ → ℕ) → ℕ → ℕ → Room
rooms_from Level number m n = λ k. m
rooms_from Lowered number m n = lower_to number m n n

-- twice a pair's number can be taken
pub record PairsFit (n : ℕ) (triangle : List ℕ) : Type 0 where
  pub few : n ≤ desk.nodes
  pub pairs : Pairwise n (λ g h. cell triangle g h ≤ across_bound)

-- a link of the ring
pub record LinkOf (n g : ℕ) : Type 0 where
  pub low : 1 ≤ g
  pub high : g ≤ n

-- a triangle's rooms: the own numbers of links
abbrev pub room_on : List ℕ → Room
room_on triangle k = cell triangle k k

-- the rooms of the ring's links are put down, by its across numbers, and these stay
pub record RoomsPut (engine : Engine) (m n : ℕ) (old new : List ℕ) : Type 0 where
  pub size : length new ≡ length old
  pub rooms : (k : ℕ) → 1 ≤ k → k ≤ n → room_on new k ≡ rooms_from engine (cell old) m n k
  pub pairs : Pairwise n (λ g h. cell new g h ≡ cell old g h)
