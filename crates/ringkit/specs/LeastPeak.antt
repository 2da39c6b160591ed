-- To believe: what the call answers that says the least of five rules (Rules, the least of five rules), and what that proves.
use Rattle.std.specs.Prelude.{ℕ, ◌+◌, ◌*◌, ◌≤◌, List, ◌++◌, drop, length, ◌↔◌, ◌≡◌, Result, Ok}
use Rattle.ring.specs.Limits.{desk}
use Rattle.ring.specs.declared.types.Ring.{Ring}
use Rattle.ring.specs.declared.types.Demand.{Demand}
use Rattle.ring.specs.declared.types.Routed.{Routed}
use Rattle.ring.specs.RuleA.{largest_across}
use Rattle.ring.specs.RuleD.{largest_split}
use Rattle.ring.specs.Sheet.{demands_of}
use Rattle.engines.specs.declared.Engine.{Engine}
use Rattle.engines.specs.Engine.{split_routing_by, plan_by}
use Rattle.table.specs.Says.{Given}
use Rattle.reasons.specs.declared.reason.Reason.{Reason}
use Rattle.reasons.specs.declared.reason.Refusal.{Refusal}
use Rattle.turns.specs.Turns.{peak_of}
use Rattle.least.specs.declared.Least.{Least}
use Rattle.least.specs.Least.{LeastIs}
use Rattle.crossing.specs.declared.crossing.Crossing.TheVariants.{All}
use Rattle.ringkit.specs.Crossing.{CrossingOf}
use Rattle.ringkit.specs.Texts.{TableOf}
use Rattle.ringkit.specs.Turning.{ways_of}
use Rattle.ringkit.specs.Says.{Refused}
use Rattle.ringkit.specs.declared.least_peak.LeastTable.{LeastTable}

-- the figures, and how many rows there are; or why the table is refused
abbrev pub LeastAnswer : Type 0
LeastAnswer = Result LeastTable Refusal

-- the answer of these figures and so many rows
abbrev pub least_table : Least → ℕ → LeastAnswer
least_table x count = Ok (record { least = x; rows = count })

-- what is due to a table: the least of five rules of its rows, and the ways that have it, as bytes
pub record LeastDue (t : List ℕ) (x : Least) (bytes : List ℕ) : Type 0 where
  pub ring : Ring
  pub rs : List Demand
  pub of : TableOf t ring rs
  pub ways : List Routed
  pub least : LeastIs ring.nodes rs x ways
  pub is : bytes ≡ ways_of ways

-- it is given: the figures and the number of rows are answered, these bytes stand first, and those behind them stay
pub record LeastAnswered (x : Least) (bytes old new : List ℕ) (r : LeastAnswer) : Type 0 where
  pub answer : r ≡ least_table x (length bytes)
  pub ways : new ≡ bytes ++ drop (length bytes) old

-- one of two cases
pub data LeastSays (t old new : List ℕ) (r : LeastAnswer) : Type 0 where
  is_given : {x : Least} {bytes : List ℕ} → LeastDue t x bytes → LeastAnswered x bytes old new r → LeastSays t old new r
  is_not : {reason : Reason} {line byte : ℕ} → Given desk t reason line byte → Refused reason line byte old new r → LeastSays t old new r

-- all that the call promises
pub record LeastPromise (t old new : List ℕ) (r : LeastAnswer) : Type 0 where
  -- one of the two is the case:
  pub cases : LeastSays t old new r
  -- figures and ways are given exactly when they are due,
  pub gives : (x : Least) (bytes : List ℕ) → LeastAnswered x bytes old new r ↔ LeastDue t x bytes
  -- and each reason, with its line and its byte, exactly when it is given to the text
  pub refuses : (reason : Reason) (line byte : ℕ) → Refused reason line byte old new r ↔ Given desk t reason line byte

-- ---- what the figures prove

-- a table's rows go whole as these bytes say, whoever made them, and come to this peak
pub record SentWhole (t bytes : List ℕ) (peak : ℕ) : Type 0 where
  pub ring : Ring
  pub rs : List Demand
  pub of : TableOf t ring rs
  pub ways : List Routed
  pub demands : demands_of ways ≡ rs
  pub sent : bytes ≡ ways_of ways
  pub comes_to : peak ≡ peak_of ring.nodes ways

-- no ways of a table's rows, of any kind, come to a peak below this
abbrev pub NoneBelow : List ℕ → ℕ → Type 0
NoneBelow t least = (bytes : List ℕ) (peak : ℕ) → SentWhole t bytes peak → least ≤ peak

-- nor to one that is below this peak by more than so much
abbrev pub NoneLowerBy : List ℕ → ℕ → ℕ → Type 0
NoneLowerBy t peak most = (bytes : List ℕ) (other : ℕ) → SentWhole t bytes other → peak ≤ other + most

-- by either engine a peak is at most that of rule D's plan, and twice the peak at most M plus three times D
pub record WithinRuleD (t : List ℕ) (peak : ℕ) : Type 0 where
  pub ring : Ring
  pub rs : List Demand
  pub of : TableOf t ring rs
  pub plan : (engine : Engine) → peak ≤ (plan_by engine ring rs).unsplit_peak
  pub bound : (engine : Engine) → 2 * peak ≤ largest_across ring.nodes rs + 3 * largest_split (split_routing_by engine ring.nodes rs)

-- where every two rows with amounts cross and these are at most 16, twice the peak is at most the bound of that
abbrev pub WithinCrossed : List ℕ → ℕ → Type 0
WithinCrossed t peak = (bound : ℕ) → CrossingOf t (All bound) → 2 * peak ≤ bound
