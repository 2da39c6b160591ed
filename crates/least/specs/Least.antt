-- To believe: the least of five rules (Rules, the least of five rules): the least peak of whole circuits that they give, and the floor, below which no peak comes.
use Rattle.std.specs.Prelude.{ℕ, ◌≤◌, ◌<◌, List, ◌≡◌}
use Rattle.std.specs.Int.{div_ceil}
use Rattle.ring.specs.declared.types.Demand.{Demand}
use Rattle.ring.specs.declared.types.Routed.{Routed}
use Rattle.ring.specs.RuleA.{largest_across}
use Rattle.ring.specs.Sheet.{demands_of}
use Rattle.engines.specs.declared.Engine.{Engine}
use Rattle.engines.specs.Engine.{split_routing_by}
use Rattle.router.specs.Plans.{rule_D, best_choice, GoBy}
use Rattle.turns.specs.Turns.{peak_of, least_start}
use Rattle.least.specs.Rule.{LeastRule, Turns, BestChoice, RuleD, rule_number}
-- a peak, the floor, and the rule that has the peak
pub use Rattle.least.specs.declared.Least.{Least}

-- the ways that a rule gives rows on a ring of n nodes. The best choice gives none where more than 16 rows are left split (`GoBy`, router/Plans)
pub data WaysBy (n : ℕ) (rs : List Demand) : LeastRule → List Routed → Type 0 where
  goes_turned : WaysBy n rs Turns (least_start n rs).rows
  goes_best : {engine : Engine} {ways : List Routed} → GoBy n (split_routing_by engine n rs) best_choice ways → WaysBy n rs (BestChoice engine) ways
  goes_rule_D : {engine : Engine} {ways : List Routed} → GoBy n (split_routing_by engine n rs) rule_D ways → WaysBy n rs (RuleD engine) ways

-- these ways are the least: no rule's have a lower peak, and those of a rule with a smaller number have a higher one
pub record LeastWays (n : ℕ) (rs : List Demand) (rule : LeastRule) (ways : List Routed) : Type 0 where
  pub by : WaysBy n rs rule ways
  pub least : (other : LeastRule) (its : List Routed) → WaysBy n rs other its → peak_of n ways ≤ peak_of n its
  pub first : (other : LeastRule) (its : List Routed) → WaysBy n rs other its → rule_number other < rule_number rule → peak_of n ways < peak_of n its

-- half of M, rounded up
abbrev pub floor_of : ℕ → List Demand → ℕ
floor_of n rs = div_ceil (largest_across n rs) 2

-- the least of five rules: the peak of the least ways, their rule, and the floor
pub record LeastIs (n : ℕ) (rs : List Demand) (x : Least) (ways : List Routed) : Type 0 where
  pub sent : LeastWays n rs x.rule ways
  pub peak : x.peak ≡ peak_of n ways
  pub floor : x.floor ≡ floor_of n rs

-- whichever way each demand goes, by a rule or not, the peak is at least this
abbrev pub NoPeakBelow : ℕ → List Demand → ℕ → Type 0
NoPeakBelow n rs floor = (ways : List Routed) → demands_of ways ≡ rs → floor ≤ peak_of n ways
