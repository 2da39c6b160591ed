-- Internal: the rows that stand in columns, and how one of them is changed.
use Rattle.std.specs.Prelude.{ℕ, ◌≡◌, ◌≤◌, List, length, get_or, set}
use Rattle.ring.specs.Limits.{desk}
use Rattle.ring.specs.declared.types.Way.TheVariants.{Front}
use Rattle.ring.specs.declared.types.Demand.{Demand}
use Rattle.ring.specs.declared.types.Routed.{Routed}
use Rattle.ring.specs.Routing.{routed, sent}
use Rattle.ring.specs.Lists.{listed}
use Rattle.rows.specs.declared.columns.Columns.TheInside.{Inside}
use Rattle.rows.specs.declared.columns.Arrays.{Arrays}

-- the row at a place
abbrev pub row_of : Inside → ℕ → Routed
row_of c k = routed (sent (get_or c.arrays.first k 0) (get_or c.arrays.second k 0) (get_or c.arrays.amount k 0) (get_or c.arrays.front k 0) (get_or c.arrays.back k 0)) (get_or c.arrays.way k Front)

-- all rows
abbrev pub rows_of_columns : Inside → List Routed
rows_of_columns c = listed (row_of c) 0 c.count

-- as many rows as the columns have room for, or fewer
pub record Sized (c : Inside) : Type 0 where
  pub few : c.count ≤ desk.rows
  pub firsts : length c.arrays.first ≡ desk.rows
  pub seconds : length c.arrays.second ≡ desk.rows
  pub amounts : length c.arrays.amount ≡ desk.rows
  pub fronts : length c.arrays.front ≡ desk.rows
  pub backs : length c.arrays.back ≡ desk.rows
  pub ways : length c.arrays.way ≡ desk.rows

-- the numbers of a row put at a place
abbrev pub row_written : Arrays → ℕ → Routed → Arrays
row_written f k r =
    record {
      first = set f.first k r.sent.demand.first;
      second = set f.second k r.sent.demand.second;
      amount = set f.amount k r.sent.demand.amount;
      front = set f.front k r.sent.front;
      back = set f.back k r.sent.back;
      way = set f.way k r.way;
    }

-- a demand as it is before any rule: no halves, and the way to the front
abbrev pub unsent : Demand → Routed
unsent r = record { sent = record { demand = r; front = 0; back = 0 }; way = Front }
