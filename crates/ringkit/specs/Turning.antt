-- To believe: what the call answers that turns the rows of a table one at a time (Rules, the calls).
use Rattle.std.specs.Prelude.{ℕ, ◌≤◌, List, ◌++◌, map, take, drop, length, ◌↔◌, ◌≡◌, Result, Ok}
use Rattle.ring.specs.Limits.{desk}
use Rattle.ring.specs.Routing.{way_number}
use Rattle.ring.specs.declared.types.Ring.{Ring}
use Rattle.ring.specs.declared.types.Demand.{Demand}
use Rattle.ring.specs.declared.types.Routed.{Routed}
use Rattle.ring.specs.Sheet.{sents, demands}
use Rattle.table.specs.Says.{Given}
use Rattle.reasons.specs.declared.reason.Reason.{Reason}
use Rattle.reasons.specs.declared.reason.Refusal.{Refusal}
use Rattle.turns.specs.declared.Turned.{Turned}
use Rattle.turns.specs.Turns.{peak_of, from_start, least_start}
use Rattle.ring.specs.RuleA.{largest_across}
use Rattle.turns.specs.Promised.{LeastOfStarts, NoTurnLowers, TurnsLower, StartLoads, StartsEnd, StartsWithinM, WaysFloor}
use Rattle.ringkit.specs.Texts.{TableOf}
use Rattle.ringkit.specs.declared.turning.TurnedTable.{TurnedTable}
use Rattle.ringkit.specs.Says.{Refused}

-- the figures, and how many rows there are; or why the table is refused
abbrev pub TurnAnswer : Type 0
TurnAnswer = Result TurnedTable Refusal

-- the answer of these figures and so many rows
abbrev pub turned_table : Turned → ℕ → TurnAnswer
turned_table x count = Ok (record { turned = x; rows = count })

-- the ways of rows as bytes, 0 for F and 1 for B
abbrev pub ways_of : List Routed → List ℕ
ways_of rs = map (λ (r : Routed). way_number r.way) rs

-- a table's rows are turned: the figures are those of the best start, its ways stand in the first bytes, and those behind them stay
pub record TurnedTo (ring : Ring) (rs : List Demand) (old new : List ℕ) (r : TurnAnswer) : Type 0 where
  pub answer : r ≡ turned_table (least_start ring.nodes rs).figures (length rs)
  pub ways : new ≡ ways_of (least_start ring.nodes rs).rows ++ drop (length rs) old

-- one of two cases
pub data TurnSays (t old new : List ℕ) (r : TurnAnswer) : Type 0 where
  are_turned : {ring : Ring} {rs : List Demand} → TableOf t ring rs → TurnedTo ring rs old new r → TurnSays t old new r
  are_not : {reason : Reason} {line byte : ℕ} → Given desk t reason line byte → Refused reason line byte old new r → TurnSays t old new r

-- all that the call promises
pub record TurnPromise (t old new : List ℕ) (r : TurnAnswer) : Type 0 where
  -- one of the two is the case:
  pub cases : TurnSays t old new r
  -- the rows of an accepted table are turned,
  pub turns : (ring : Ring) (rs : List Demand) → TableOf t ring rs → TurnedTo ring rs old new r
  -- and each reason, with its line and its byte, is answered exactly when it is given to the text
  pub refuses : (reason : Reason) (line byte : ℕ) → Refused reason line byte old new r ↔ Given desk t reason line byte

-- an accepted table, with its rows as the bytes send them
pub record TurnedWell (t new : List ℕ) (r : TurnAnswer) : Type 0 where
  pub ring : Ring
  pub rs : List Demand
  pub of : TableOf t ring rs
  pub x : Turned
  pub is : r ≡ turned_table x (length rs)
  pub ways : List Routed
  pub bytes : take (length rs) new ≡ ways_of ways
  pub demands : demands (sents ways) ≡ rs
  -- the peak is theirs, and no single turn lowers it;
  pub peak : x.peak ≡ peak_of ring.nodes ways
  pub still : NoTurnLowers ring.nodes ways
  -- they are what the start that is answered leads to; none ends with a lower peak, and of those with the same the smallest link's is answered;
  pub start : ways ≡ (from_start ring.nodes rs x.link).rows
  pub least : LeastOfStarts ring.nodes rs x
  -- there were at most as many turns as the start's peak fell by;
  pub turns : TurnsLower ring.nodes rs x
  -- each start ends so; at it a link carries what lies across it and the link that is avoided, so that its peak is at most M, and this one is;
  pub ends : StartsEnd ring.nodes rs
  pub loads : StartLoads rs
  pub starts : StartsWithinM ring.nodes rs
  pub most : x.peak ≤ largest_across ring.nodes rs
  -- and whichever way each demand goes, twice the peak is at least M
  pub floor : WaysFloor ring.nodes rs
