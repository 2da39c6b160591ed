-- To believe: what holds of the engines, each the contract of a function that does nothing: of rows in any order, and of the rows of every table.
use Rattle.std.specs.Prelude.{ℕ, ◌≤◌, List, ◌≡◌}
use Rattle.ring.specs.Lists.{Each, Pairs}
use Rattle.ring.specs.declared.types.Ring.{Ring}
use Rattle.ring.specs.declared.types.Demand.{Demand}
use Rattle.ring.specs.Demand.{OnRing}
use Rattle.ring.specs.TableRows.{TableRows}
use Rattle.ring.specs.Routing.{split_load, peak}
use Rattle.ring.specs.RuleA.{largest_across}
use Rattle.ring.specs.RuleB.{Room}
use Rattle.ring.specs.Rules.{Sends, NotBoth}
use Rattle.ring.specs.Sheet.{sents, demands, plan}
use Rattle.ring.specs.True.{TrueSheet}
use Rattle.engines.specs.declared.Engine.{Engine}
use Rattle.engines.specs.declared.Engine.TheVariants.{Level, Lowered}
use Rattle.engines.specs.Lowering.{lowered_rooms, LoweredRooms}
use Rattle.engines.specs.Engine.{rooms_by, sent_by, split_routing_by, plan_by}
use Rattle.engines.specs.Minimal.{Minimal}

-- it holds for all rows on a ring of two nodes or more, in any order
abbrev pub OfRows : (ℕ → List Demand → Type 0) → Type 0
OfRows Holding = (n : ℕ) (rs : List Demand) → 2 ≤ n → Each (OnRing n) rs → Holding n rs

-- and for the rows of every table
abbrev pub OfTables : (ℕ → List Demand → Type 0) → Type 0
OfTables Holding = (n : ℕ) (rs : List Demand) → 2 ≤ n → TableRows n rs → Holding n rs

-- ---- lowered rooms

-- each is the largest of its differences, none of which is cut off at 0
abbrev pub RoomsAreLowered : Type 0
RoomsAreLowered = OfRows (λ n rs. LoweredRooms n rs (lowered_rooms n rs))

-- no other rooms are so
abbrev pub LoweringIsOne : Type 0
LoweringIsOne = OfRows (λ n rs. (room : Room) → LoweredRooms n rs room → (g : ℕ) → 1 ≤ g → g ≤ n → room g ≡ lowered_rooms n rs g)

-- ---- either engine

-- from its rooms rows are sent as in rule B: the s of each is even, no slack is cut off at 0, and no link gets more than its room
abbrev pub EngineSends : Type 0
EngineSends = (engine : Engine) → OfRows (λ n rs. Sends n (rooms_by engine n rs) rs (sent_by engine n rs))

-- the split peak is M, so that both have the same
abbrev pub EnginePeakIsM : Type 0
EnginePeakIsM = (engine : Engine) → OfRows (λ n rs. peak (split_load (split_routing_by engine n rs)) n ≡ largest_across n rs)

-- of the rows of the same two nodes one at most is split, in any order and whatever stands between
abbrev pub EngineSplitsOne : Type 0
EngineSplitsOne = (engine : Engine) → OfRows (λ n rs. Pairs NotBoth (sent_by engine n rs))

-- its plan is a true sheet of the table's demands
abbrev pub EnginePlanIsTrue : Type 0
EnginePlanIsTrue = (engine : Engine) (ring : Ring) (rs : List Demand) → 2 ≤ ring.nodes → TableRows ring.nodes rs → TrueSheet (plan_by engine ring rs)

abbrev pub EnginePlanIsOf : Type 0
EnginePlanIsOf =
    (engine : Engine) (ring : Ring) (rs : List Demand) → 2 ≤ ring.nodes → TableRows ring.nodes rs → demands (sents (plan_by engine ring rs).rows) ≡ rs

-- with level rooms it is that of rules A to D
abbrev pub LevelAsBefore : Type 0
LevelAsBefore = (ring : Ring) (rs : List Demand) → plan_by Level ring rs ≡ plan ring rs

-- ---- the routing of lowered rooms

-- each link carries its room
abbrev pub LoadsAreRooms : Type 0
LoadsAreRooms = OfRows (λ n rs. (k : ℕ) → 1 ≤ k → k ≤ n → split_load (sent_by Lowered n rs) k ≡ lowered_rooms n rs k)

-- no split routing is at most as large on every link and smaller on one
abbrev pub NothingBelow : Type 0
NothingBelow = OfRows (λ n rs. Minimal n rs (sent_by Lowered n rs))

-- which is not so of level rooms
abbrev pub LevelNotMinimal : Type 0
LevelNotMinimal = OfRows (λ n rs. Minimal n rs (sent_by Level n rs)) → ⊥

-- rule C changes nothing, in any order: rows that are split and parallel would have the same two
-- nodes, and of these one at most is split
abbrev pub ChangesNothing : Type 0
ChangesNothing = OfRows (λ n rs. split_routing_by Lowered n rs ≡ sent_by Lowered n rs)
