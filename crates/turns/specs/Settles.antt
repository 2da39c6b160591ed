-- Internal: what a pass of the loop of turns does, and where it ends.
use Rattle.std.specs.Prelude.{ℕ, ◌+◌, ◌-◌, ◌^◌, ◌≤◌, ◌<◌, List, ◌≡◌, Option, Some, None, length}
use Rattle.ring.specs.declared.types.Routed.{Routed}
use Rattle.ring.specs.Lists.{Each}
use Rattle.ring.specs.Routing.{unsplit_load}
use Rattle.ring.specs.Sheet.{demands_of}
use Rattle.weight.specs.Limits.{across_bound}
use Rattle.across.specs.Filled.{DemandsFit}
use Rattle.turns.specs.declared.settle.Limit.{Limit}
use Rattle.turns.specs.Turns.{peak_of, whole, turn_at, choice, settle}
use Rattle.turns.specs.Picks.{Picked}
use Rattle.turns.specs.TurnedLoads.{Carries}

-- each row goes whole
pub record Wholes (rs : List Routed) : Type 0 where
  pub each : Each (λ (r : Routed). r ≡ whole r.sent.demand r.way) rs

-- the row at a place turned, and the loads with it
pub record TurnsTo (place : ℕ) (old new : List Routed) (before after : List ℕ) : Type 0 where
  pub is : new ≡ turn_at place old
  pub size : length after ≡ length before
  pub carries : Carries (unsplit_load new) after

-- turns are left off where none lowers the peak
abbrev pub no_limit : Limit
no_limit = record { peak = 0; turns = 2 ^ 32 - 1 }

-- no row is chosen, or it is time to leave off
pub record Rests (limit : Limit) (turns n : ℕ) (rs : List Routed) : Type 0 where
  pub still : turns < limit.turns → limit.peak < peak_of n rs → choice n rs ≡ None

-- so it is, or the row that is chosen is the one at the place
abbrev pub NextRow : Limit → ℕ → ℕ → List Routed → Option ℕ → Type 0
NextRow limit turns n rs None = Rests limit turns n rs
NextRow limit turns n rs (Some place) = Picked n rs place

-- so many turns from the old rows on: the turns that are left from these rows on lead to the same
pub record Settling (n : ℕ) (old now : List Routed) (loads : List ℕ) (before turns : ℕ) : Type 0 where
  pub size : length loads ≡ n
  pub carries : Carries (unsplit_load now) loads
  pub fit : DemandsFit n (demands_of now)
  pub demands : demands_of now ≡ demands_of old
  pub whole : Wholes now
  pub far : ℕ
  pub enough : peak_of n now ≤ far
  pub left : settle n far turns now ≡ settle n (peak_of n old) before old
  pub small : turns + peak_of n now ≤ across_bound

-- where turns are left off
pub record SettlesTo (limit : Limit) (n : ℕ) (old new : List Routed) (loads : List ℕ) (before turns : ℕ) : Type 0 where
  pub so_far : Settling n old new loads before turns
  pub rests : Rests limit turns n new
