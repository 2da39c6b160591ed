-- Internal: the triangle of the across numbers of rows, and what is asked of these.
use Rattle.std.specs.Prelude.{ℕ, ◌≤◌, List, ◌≡◌, length}
use Rattle.ring.specs.Limits.{desk}
use Rattle.ring.specs.Lists.{Each}
use Rattle.ring.specs.declared.types.Demand.{Demand}
use Rattle.ring.specs.Demand.{OnRing}
use Rattle.ring.specs.Cut.{across}
use Rattle.across.specs.Cells.{most_places, cell}
use Rattle.across.specs.Lines.{Pairwise}

-- a demand on the ring, whose amount is within the limit
pub record DemandFits (n : ℕ) (r : Demand) : Type 0 where
  pub on : OnRing n r
  pub small : r.amount ≤ desk.amount

-- a ring that the arrays have room for, and demands on it
pub record DemandsFit (n : ℕ) (rs : List Demand) : Type 0 where
  pub links : n ≤ desk.nodes
  pub few : length rs ≤ desk.rows
  pub each : Each (DemandFits n) rs

-- a triangle with its diagonal holds the across numbers of rows, of pairs of links
pub record TriangleOf (n : ℕ) (rs : List Demand) (triangle : List ℕ) : Type 0 where
  pub size : length triangle ≡ most_places
  pub is : Pairwise n (λ g h. cell triangle g h ≡ across rs g h)
