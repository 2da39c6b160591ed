-- To believe: what the listed cases say, in the words of what the calls promise.
use Rattle.std.specs.Prelude.{ℕ, List, ◌≡◌}
use Rattle.ring.specs.Limits.{desk}
use Rattle.ring.specs.Lists.{Each}
use Rattle.reasons.specs.Reasons.{number_of}
use Rattle.reasons.specs.declared.reason.Reason.{Reason}
use Rattle.checker.specs.Printed.{printed}
use Rattle.checker.specs.Says.{Given, Accepted}
use Rattle.checker.specs.Cases.{Text, Claim, Case, plan_case, refusal_case, cases}
use Rattle.engines.specs.declared.Engine.{Engine}
use Rattle.router.specs.Plans.{rule_D}
use Rattle.ringkit.specs.Texts.{PlanDue}

-- the reason of this number is given, with its line and byte
pub record GivenNumber (sheet : List ℕ) (number line byte : ℕ) : Type 0 where
  pub reason : Reason
  pub numbered : number_of reason ≡ number
  pub given : Given desk sheet reason line byte

-- a case with a plan: the sheet is due to the table, and is accepted. A case with a refusal: it is given to the sheet. What is stated of a sheet besides is in
-- `CasesHold` (checker)
pub data Promised : Case → Type 0 where
  planned : {engine : Engine} {table sheet : Text} {claims : List Claim} → PlanDue engine rule_D (printed table) (printed sheet) → Accepted desk (printed sheet)
      → Promised (plan_case engine table sheet claims)
  refused : {sheet : Text} {reason line byte : ℕ} {claims : List Claim} → GivenNumber (printed sheet) reason line byte
      → Promised (refusal_case sheet reason line byte claims)

-- each case of the list is so
abbrev pub CasesPromised : Type 0
CasesPromised = Each Promised cases
