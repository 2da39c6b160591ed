-- Internal: the numbers that arrays and figures of routed rows stay below; they follow from the limits of a desk.
use Rattle.std.specs.Prelude.{ℕ, ◌*◌}
use Rattle.ring.specs.Limits.{desk}

-- a row's front and back together, in halves
abbrev pub halves_bound : ℕ
halves_bound = 2 * desk.amount

-- what all rows together have across a cut
abbrev pub across_bound : ℕ
across_bound = desk.rows * desk.amount

-- and on a link in halves: 1,024 x 19,998, which a u32 holds with much to spare. That no sum passes these is shown where each grows: loads in weight/Weighing
-- and, where a row is turned, turns/TurnSteps; across numbers in across/FillSteps, work/Right and judge/Across; the sum of rule D in router/WaySteps; twice a
-- peak in `peak-fits` (weight/Weighing)
abbrev pub load_bound : ℕ
load_bound = desk.rows * halves_bound
