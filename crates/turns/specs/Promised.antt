-- To believe: what is promised of the answer of one turn at a time, in words that do not say how it is found.
use Rattle.std.specs.Prelude.{ℕ, ◌+◌, ◌*◌, ◌≤◌, ◌<◌, List, ◌≡◌}
use Rattle.ring.specs.Cut.{across}
use Rattle.ring.specs.Routing.{unsplit_load}
use Rattle.ring.specs.declared.types.Demand.{Demand}
use Rattle.ring.specs.RuleA.{largest_across}
use Rattle.ring.specs.declared.types.Routed.{Routed}
use Rattle.ring.specs.Sheet.{demands_of}
use Rattle.turns.specs.Turns.{peak_of, start, turn_at, Turned, from_start}

-- of all starts none ends with a lower peak, and those that avoid a smaller link end with higher ones
pub record LeastOfStarts (n : ℕ) (rs : List Demand) (x : Turned) : Type 0 where
  pub low : 1 ≤ x.link
  pub high : x.link ≤ n
  pub is : x ≡ (from_start n rs x.link).figures
  pub least : (a : ℕ) → 1 ≤ a → a ≤ n → x.peak ≤ (from_start n rs a).figures.peak
  pub first : (a : ℕ) → 1 ≤ a → a < x.link → x.peak < (from_start n rs a).figures.peak

-- no single turn lowers the peak of rows
abbrev pub NoTurnLowers : ℕ → List Routed → Type 0
NoTurnLowers n rs = (p : ℕ) → peak_of n rs ≤ peak_of n (turn_at p rs)

-- there were at most as many turns as the peak fell by
abbrev pub TurnsLower : ℕ → List Demand → Turned → Type 0
TurnsLower n rs x = x.turns + x.peak ≤ peak_of n (start x.link rs)

-- where every row avoids a link, each link carries what lies across the two
abbrev pub StartLoads : List Demand → Type 0
StartLoads rs = (a h : ℕ) → unsplit_load (start a rs) h ≡ across rs a h

-- each start ends: no single turn lowers the peak of its rows, and there were at most as many turns as it fell by
pub record StartEnds (n : ℕ) (rs : List Demand) (a : ℕ) : Type 0 where
  pub still : NoTurnLowers n (from_start n rs a).rows
  pub turns : TurnsLower n rs (from_start n rs a).figures

-- so of every start
abbrev pub StartsEnd : ℕ → List Demand → Type 0
StartsEnd n rs = (a : ℕ) → StartEnds n rs a

-- each start's peak is at most M
abbrev pub StartsWithinM : ℕ → List Demand → Type 0
StartsWithinM n rs = (a : ℕ) → 1 ≤ a → a ≤ n → peak_of n (start a rs) ≤ largest_across n rs

-- whichever way each demand goes, twice the peak is at least M
abbrev pub WaysFloor : ℕ → List Demand → Type 0
WaysFloor n rs = (ways : List Routed) → demands_of ways ≡ rs → largest_across n rs ≤ 2 * peak_of n ways
