-- To believe: the split routing of each engine, and the plan that rule D makes of it. With level rooms these are rules A to D (`as-before`, engines/Engines).
use Rattle.std.specs.Prelude.{ℕ, List}
use Rattle.ring.specs.declared.types.Ring.{Ring}
use Rattle.ring.specs.declared.types.Demand.{Demand}
use Rattle.ring.specs.declared.types.Sent.{Sent}
use Rattle.ring.specs.declared.types.Routed.{Routed}
use Rattle.ring.specs.RuleA.{rule_a, largest_across}
use Rattle.ring.specs.RuleB.{Room, send_all, rule_b}
use Rattle.ring.specs.RuleC.{rule_c}
use Rattle.ring.specs.RuleD.{rule_d}
use Rattle.ring.specs.Sheet.{Sheet, sheet_of}
use Rattle.engines.specs.Lowering.{lowered_rooms}
-- rooms of M on each link, or lowered rooms
pub use Rattle.engines.specs.declared.Engine.{Engine}
pub use Rattle.engines.specs.declared.Engine.TheVariants.{Level, Lowered}

-- the rooms that links start with
abbrev pub rooms_by : Engine → ℕ → List Demand → Room
rooms_by Level n rs = λ k. largest_across n rs
rooms_by Lowered n rs = lowered_rooms n rs

-- rows are sent from these as in rule B, `send_all` (`sent-from`, engines/Engines)
abbrev pub sent_by : Engine → ℕ → List Demand → List Sent
sent_by Level n rs = rule_b n rs
sent_by Lowered n rs = send_all (lowered_rooms n rs) rs

-- and rule C moves their parallel pairs
abbrev pub split_routing_by : Engine → ℕ → List Demand → List Sent
split_routing_by engine n rs = rule_c (sent_by engine n rs)

-- and rule D sends them whole
abbrev pub unsplit_routing_by : Engine → ℕ → List Demand → List Routed
unsplit_routing_by engine n rs = rule_d (split_routing_by engine n rs)

-- the sheet of rules A, C and D and an engine
abbrev pub plan_by : Engine → Ring → List Demand → Sheet
plan_by engine ring rs = sheet_of ring (rule_a ring.nodes rs) (unsplit_routing_by engine ring.nodes rs)
