-- To believe: the five rules of which the least is sought, and their order (Rules, the least of five rules).
use Rattle.std.specs.Prelude.{ℕ}
use Rattle.engines.specs.declared.Engine.TheVariants.{Level, Lowered}
-- one turn at a time; the best choice and rule D, each by an engine
pub use Rattle.least.specs.declared.rule.LeastRule.{LeastRule}
pub use Rattle.least.specs.declared.rule.LeastRule.TheVariants.{Turns, BestChoice, RuleD}

-- a rule's number, by which ties go: of rules with the same peak the smallest number wins
unfoldable pub rule_number : LeastRule → ℕ
rule_number Turns = 1
rule_number (BestChoice Level) = 2
rule_number (BestChoice Lowered) = 3
rule_number (RuleD Level) = 4
rule_number (RuleD Lowered) = 5
