-- To believe: what the call answers that asks whether all rows of a table with amounts cross (Rules, the calls).
use Rattle.std.specs.Prelude.{ℕ, ◌*◌, ◌≤◌, List, ◌↔◌, ◌≡◌, Result, Ok}
use Rattle.ring.specs.Limits.{desk}
use Rattle.ring.specs.declared.types.Ring.{Ring}
use Rattle.ring.specs.declared.types.Demand.{Demand}
use Rattle.table.specs.Says.{Given}
use Rattle.reasons.specs.declared.reason.Reason.{Reason}
use Rattle.reasons.specs.declared.reason.Refusal.{Refusal}
use Rattle.reasons.specs.Refusals.{refuse}
use Rattle.engines.specs.declared.Engine.{Engine}
use Rattle.router.specs.Plans.{best_choice}
use Rattle.crossing.specs.Crossing.{CrossingIs}
use Rattle.crossing.specs.declared.crossing.Crossing.{Crossing}
use Rattle.crossing.specs.declared.crossing.Crossing.TheVariants.{All, Parallel, Many}
use Rattle.ringkit.specs.Texts.{TableOf, PlanDue, FewSplit}

-- one of the three; or why the table is refused
abbrev pub CrossingAnswer : Type 0
CrossingAnswer = Result Crossing Refusal

-- they all cross and are few, with this bound
abbrev pub all_cross : ℕ → CrossingAnswer
all_cross bound = Ok (All bound)

-- these two are the first that are parallel
abbrev pub first_parallel : ℕ → ℕ → CrossingAnswer
first_parallel p q = Ok (Parallel p q)

-- they all cross and are too many
abbrev pub too_many_cross : CrossingAnswer
too_many_cross = Ok Many

-- it is the answer of an accepted table's rows
pub record CrossingOf (t : List ℕ) (crossing : Crossing) : Type 0 where
  pub ring : Ring
  pub rs : List Demand
  pub of : TableOf t ring rs
  pub is : CrossingIs ring.nodes rs crossing

-- an answer, or the reason that is given
pub data CrossingSays (t : List ℕ) : CrossingAnswer → Type 0 where
  answered : {crossing : Crossing} → CrossingOf t crossing → CrossingSays t (Ok crossing)
  refused : {reason : Reason} {line byte : ℕ} → Given desk t reason line byte → CrossingSays t (refuse reason line byte)

-- all that the call promises
pub record CrossingPromise (t : List ℕ) (r : CrossingAnswer) : Type 0 where
  pub cases : CrossingSays t r
  pub all_cross : (bound : ℕ) → (r ≡ all_cross bound) ↔ CrossingOf t (All bound)
  pub parallel : (p q : ℕ) → (r ≡ first_parallel p q) ↔ CrossingOf t (Parallel p q)
  pub many : (r ≡ too_many_cross) ↔ CrossingOf t Many
  pub refuses : (reason : Reason) (line byte : ℕ) → (r ≡ refuse reason line byte) ↔ Given desk t reason line byte

-- what a bound says of routing by the best choice: few rows are left split, so that 23 is not given; and twice the unsplit peak of each sheet that is due is at most the bound
pub record WithinBound (engine : Engine) (bound : ℕ) (t : List ℕ) : Type 0 where
  pub few : FewSplit engine t
  pub peak : (sheet : List ℕ) (due : PlanDue engine best_choice t sheet) → 2 * due.x.unsplit_peak ≤ bound
