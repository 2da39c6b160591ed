-- To believe: what a ring and its rows keep to, as a table has them, a sheet, or values.
use Rattle.std.specs.Prelude.{◌≤◌, List, length}
use Rattle.family.specs.Sizes.{Known}
use Rattle.ring.specs.Limits.{Limits}
use Rattle.ring.specs.LineSize.{IsFibres}
use Rattle.ring.specs.Lists.{Each}
use Rattle.ring.specs.TableRows.{TableRows}
use Rattle.ring.specs.declared.types.Ring.{Ring}
use Rattle.ring.specs.declared.types.Demand.{Demand}

-- how many nodes and fibres the ring has, and of which family it is; that the rows are a table's, at most so many, and none of a larger amount
pub record WithinLimits (limits : Limits) (ring : Ring) (rs : List Demand) : Type 0 where
  pub few : limits.fewest ≤ ring.nodes
  pub many : ring.nodes ≤ limits.nodes
  pub fibres : IsFibres ring.fibres
  pub family : Known limits.marks ring.family
  pub rows : TableRows ring.nodes rs
  pub count : length rs ≤ limits.rows
  pub amounts : Each (λ r. r.amount ≤ limits.amount) rs
