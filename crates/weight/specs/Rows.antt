-- Internal: what is asked of rows that are weighed.
use Rattle.std.specs.Prelude.{ℕ, ◌+◌, ◌≤◌, List, length}
use Rattle.ring.specs.Limits.{desk}
use Rattle.ring.specs.Lists.{Each}
use Rattle.ring.specs.Demand.{OnRing}
use Rattle.ring.specs.declared.types.Routed.{Routed}
use Rattle.weight.specs.Limits.{halves_bound}

-- a row on the ring, whose amount and halves are not too large
pub record RowFits (n : ℕ) (r : Routed) : Type 0 where
  pub on : OnRing n r.sent.demand
  pub amount : r.sent.demand.amount ≤ desk.amount
  pub halves : r.sent.front + r.sent.back ≤ halves_bound

-- a ring that the arrays have room for, and rows on it
pub record Fit (n : ℕ) (rs : List Routed) : Type 0 where
  pub links : n ≤ desk.nodes
  pub few : length rs ≤ desk.rows
  pub each : Each (RowFits n) rs
