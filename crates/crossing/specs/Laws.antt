-- To believe: what holds where all rows with amounts cross, each the contract of a function that does nothing.
use Rattle.std.specs.Prelude.{ℕ, ◌*◌, ◌≤◌, List, [], ◌∷◌, ◌≡◌}
use Rattle.family.specs.declared.family.Family.TheVariants.{Sonet}
use Rattle.ring.specs.Demand.{demand}
use Rattle.ring.specs.Ring.{ring_of}
use Rattle.ring.specs.Routing.{unsplit_load, peak}
use Rattle.ring.specs.declared.types.Ring.{Ring}
use Rattle.ring.specs.declared.types.Demand.{Demand}
use Rattle.ring.specs.declared.types.Routed.{Routed}
use Rattle.ring.specs.Sheet.{Sheet}
use Rattle.ring.specs.TableRows.{TableRows}
use Rattle.engines.specs.declared.Engine.{Engine}
use Rattle.engines.specs.Engine.{split_routing_by, plan_by}
use Rattle.engines.specs.Laws.{OfTables}
use Rattle.best.specs.Best.{splits, IsBest}
use Rattle.router.specs.Plans.{Rule, rule_D, best_choice, PlanBy}
use Rattle.crossing.specs.AllCross.{AllCross, with_amount, crossed_bound, halves}
use Rattle.crossing.specs.Crossing.{CrossingIs}
use Rattle.crossing.specs.declared.crossing.Crossing.{Crossing}

-- rules A to C send half of each row either way, whichever engine splits the rows
abbrev pub HalvedWhereAllCross : Type 0
HalvedWhereAllCross = (engine : Engine) → OfTables (λ n rs. AllCross rs → split_routing_by engine n rs ≡ halves rs)

-- so the split rows are those with amounts
abbrev pub SplitAreThoseWithAmounts : Type 0
SplitAreThoseWithAmounts = (engine : Engine) → OfTables (λ n rs. AllCross rs → splits (split_routing_by engine n rs) ≡ with_amount rs)

-- twice the unsplit peak of each plan by this engine and this rule is at most M plus twice the largest amount
abbrev pub PlansWithin : Engine → Rule → Type 0
PlansWithin engine rule =
    (ring : Ring) (rs : List Demand) → 2 ≤ ring.nodes → TableRows ring.nodes rs → AllCross rs
    → (x : Sheet) → PlanBy engine rule ring rs x → 2 * x.unsplit_peak ≤ crossed_bound ring.nodes rs

-- by the best choice it is so, with either engine
abbrev pub BestWithinBound : Type 0
BestWithinBound = (engine : Engine) → PlansWithin engine best_choice

-- and by rule D it is not, with neither
abbrev pub NotOfRuleD : Type 0
NotOfRuleD = (engine : Engine) → PlansWithin engine rule_D → ⊥

-- ---- three rows that cross: their bound is 37; twice rule D's peak is 38, and twice that of the best choice 32

abbrev pub three : List Demand
three = demand 1 4 9 ∷ demand 2 5 3 ∷ demand 3 6 7 ∷ []

abbrev pub ring_of_six : Ring
ring_of_six = ring_of 6 4 Sonet

-- whichever engine splits them
pub record ThreeCross : Type 0 where
  pub cross : AllCross three
  pub bound : crossed_bound 6 three ≡ 37
  pub rule_d : (engine : Engine) → (plan_by engine ring_of_six three).unsplit_peak ≡ 19
  pub best : (engine : Engine) (ways : List Routed) → IsBest 6 (split_routing_by engine 6 three) ways → peak (unsplit_load ways) 6 ≡ 16

-- ---- the answer

-- of rows there is one
abbrev pub OneAnswer : Type 0
OneAnswer = (n : ℕ) (rs : List Demand) (a b : Crossing) → CrossingIs n rs a → CrossingIs n rs b → a ≡ b
