-- To believe: which bytes of a struct a call changes, whatever bytes it has. A ring size outside 2 to 64 counts as the nearest within, and a kept number wraps
-- around at its type's end.
use Rattle.std.specs.Prelude.{ℕ, ◌-◌, ◌*◌, ◌/◌, min, max, List, get_or, set, replicate}
use Rattle.ring.specs.Limits.{desk}
use Rattle.ring.specs.Demand.{demand}
use Rattle.ring.specs.RuleA.{largest_cut}
use Rattle.ring.specs.declared.types.Ring.{Ring}
use Rattle.ring.specs.declared.types.Demand.{Demand}
use Rattle.ring.specs.declared.types.Cut.{Cut}
use Rattle.family.specs.Sizes.{family_number}
use Rattle.across.specs.Triangle.{at}
use Rattle.across.specs.Step.{raised, lowered, step_row}
use Rattle.work.specs.declared.Work.{Work}
use Rattle.work.specs.declared.held_ring.HeldRing.{HeldRing}

-- a ring size outside 2 to 64 counts as the nearest within
abbrev pub ring_size : ℕ → ℕ
ring_size n = max desk.fewest (min n desk.nodes)

-- ---- a row at the place behind k others

-- the row that the columns have there
abbrev pub demand_at : Work → ℕ → Demand
demand_at w k = demand (get_or w.first k 0) (get_or w.second k 0) (get_or w.amount k 0)

-- the columns have this row there from now on, and the triangle is this one; nothing else is changed
abbrev pub with_row : Work → List ℕ → ℕ → Demand → Work
with_row w triangle k r =
    record {
      triangle = triangle;
      ring = w.ring;
      cut = w.cut;
      amount = set w.amount k r.amount;
      first = set w.first k r.first;
      second = set w.second k r.second;
    }

-- what the columns have at a free place
abbrev pub no_demand : Demand
no_demand = demand 0 0 0

-- a row is put there: its share is put on every number
unfoldable pub put_in : Work → ℕ → Demand → Work
put_in w k r = with_row w (step_row raised (ring_size w.ring.nodes) r w.triangle) k r

-- the row that the columns have there is taken off: so is its share of every number
unfoldable pub cleared_in : Work → ℕ → Work
cleared_in w k = with_row w (step_row lowered (ring_size w.ring.nodes) (demand_at w k) w.triangle) k no_demand

-- ---- an empty table

-- a ring in numbers
abbrev pub as_held : Ring → HeldRing
as_held ring = record { nodes = ring.nodes; fibres = ring.fibres; family = family_number ring.family }

-- of this ring: 0 for every pair of links of the largest ring, and at every place
unfoldable pub fresh_in : Ring → Work
fresh_in ring =
    record {
      triangle = replicate (desk.nodes * (desk.nodes - 1) / 2) 0;
      ring = as_held ring;
      cut = record { g = 0; h = 0; across = 0 };
      amount = replicate desk.rows 0;
      first = replicate desk.rows 0;
      second = replicate desk.rows 0;
    }

-- ---- the cut that is kept

-- the largest of the kept numbers, and its links
abbrev pub cut_of : Work → Cut
cut_of w = largest_cut (at w.triangle) (ring_size w.ring.nodes)

-- it is this one from now on
abbrev pub with_cut : Work → Cut → Work
with_cut w c = record { triangle = w.triangle; ring = w.ring; cut = c; amount = w.amount; first = w.first; second = w.second }
