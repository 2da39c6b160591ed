-- Internal: the loads of links as the code's arrays hold them, with the figures that they make.
use Rattle.std.specs.Prelude.{ℕ, ◌≤◌, List, ◌≡◌, length, take}
use Rattle.ring.specs.Limits.{desk}
use Rattle.weight.specs.LinkSteps.{link_at}
use Rattle.turns.specs.declared.loads.Loads.TheInside.{Inside}
use Rattle.turns.specs.Choosing.{Keys}

-- those of the ring's links
abbrev pub loads_in : Inside → List ℕ
loads_in s = take s.links s.loads

-- the arrays have room for the largest ring, and all figures are those of the loads
pub record Figured (s : Inside) : Type 0 where
  pub few : s.links ≤ desk.nodes
  pub size : length s.loads ≡ desk.nodes
  pub keys : Keys s.links (link_at (loads_in s)) s.keys
