-- To believe: the sheet of a plan by the engine and the rule that are asked for: level or lowered rooms, rule D or the best choice (Rules, the best choice; Rules, lowered rooms).
use Rattle.std.specs.Prelude.{ℕ, ◌≤◌, ◌<◌, List, ◌≡◌}
use Rattle.ring.specs.declared.types.Ring.{Ring}
use Rattle.ring.specs.declared.types.Demand.{Demand}
use Rattle.ring.specs.declared.types.Sent.{Sent}
use Rattle.ring.specs.declared.types.Routed.{Routed}
use Rattle.ring.specs.RuleA.{rule_a}
use Rattle.ring.specs.RuleD.{rule_d}
use Rattle.ring.specs.Sheet.{Sheet, sheet_of}
use Rattle.engines.specs.declared.Engine.{Engine}
use Rattle.engines.specs.Engine.{split_routing_by}
use Rattle.best.specs.Best.{splits, most_split, IsBest}

-- the rule by which rows go whole that rules A to C have divided
pub data Rule : Type 0 where
  rule_D : Rule
  best_choice : Rule

-- the ways that it gives them; the best choice is made among at most 16 split rows
pub data GoBy (n : ℕ) (ss : List Sent) : Rule → List Routed → Type 0 where
  by_rule_D : GoBy n ss rule_D (rule_d ss)
  by_best_choice : {ways : List Routed} → splits ss ≤ most_split → IsBest n ss ways → GoBy n ss best_choice ways

-- x is the sheet of the plan by them: rules A to C from the engine's rooms, then this rule
pub record PlanBy (engine : Engine) (rule : Rule) (ring : Ring) (rs : List Demand) (x : Sheet) : Type 0 where
  pub ways : List Routed
  pub go : GoBy ring.nodes (split_routing_by engine ring.nodes rs) rule ways
  pub is : x ≡ sheet_of ring (rule_a ring.nodes rs) ways

-- there is none by the best choice where rules A to C leave more rows split
pub data NoPlanBy (engine : Engine) (ring : Ring) (rs : List Demand) : Rule → Type 0 where
  too_many_split : most_split < splits (split_routing_by engine ring.nodes rs) → NoPlanBy engine ring rs best_choice
