-- To believe: a row is put on a triangle, or taken off it: each pair's number is raised or lowered by the row's share of it, and wraps around at its type's end.
use Rattle.std.specs.Prelude.{ℕ, zero, suc, ◌+◌, ◌-◌, ◌%◌, Bool, cond, List, [], ◌++◌, nat_le}
use Rattle.ring.specs.declared.types.Demand.{Demand}
use Rattle.ring.specs.Cut.{part}
use Rattle.ring.specs.Limits.{desk}
use Rattle.ring.specs.Lists.{listed}
use Rattle.across.specs.Triangle.{at}

-- where a number that is kept wraps around
abbrev pub type_end : ℕ
type_end = 4294967296

-- a number raised by an amount
abbrev pub raised : ℕ → ℕ → ℕ
raised number amount = (number + amount) % type_end

-- and one lowered by it
abbrev pub lowered : ℕ → ℕ → ℕ
lowered number amount = (number + (type_end - amount)) % type_end

-- a row is put on, or else taken off
abbrev pub step : Bool → ℕ → ℕ → ℕ
step add = cond add raised lowered

-- the pairs of a ring of n nodes change by the row's share; those of links behind it stay
abbrev pub stepped : (ℕ → ℕ → ℕ) → ℕ → Demand → List ℕ → ℕ → ℕ → ℕ
stepped change n r t g h = cond (nat_le h n) (change (at t g h) (part r g h)) (at t g h)

-- the numbers f g h of all pairs of links up to n
unfoldable pub triangle : (ℕ → ℕ → ℕ) → ℕ → List ℕ
unfolding listed
triangle f zero = []
triangle f (suc h) = triangle f h ++ listed (λ g. f g (suc h)) 1 h

-- all pairs of the triangle so
unfoldable pub step_row : (ℕ → ℕ → ℕ) → ℕ → Demand → List ℕ → List ℕ
step_row change n r t = triangle (stepped change n r t) desk.nodes
