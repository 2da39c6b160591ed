-- Internal: what an earlier start came to, by the ways of its rows, and how a later start is known by them.
use Rattle.std.specs.Prelude.{ℕ, ◌≤◌, ◌<◌, Bool, true, false, not, ◌&&◌, ltb, List, ◌≡◌, Option, Some, None, get_or, slice_get, length}
use Rattle.ring.specs.Limits.{desk}
use Rattle.ring.specs.declared.types.Demand.{Demand}
use Rattle.ring.specs.declared.types.Routed.{Routed}
use Rattle.ring.specs.declared.types.Way.{Way}
use Rattle.ring.specs.declared.types.Way.TheVariants.{Front, Back}
use Rattle.ring.specs.Sheet.{demands_of}
use Rattle.turns.specs.declared.Turned.{Turned}
use Rattle.turns.specs.declared.Tried.{Tried}
use Rattle.turns.specs.Turns.{peak_of, settle, from_start}
use Rattle.turns.specs.Settles.{Wholes, Settling}
use Rattle.turns.specs.Starts.{lower_of}

-- two ways are one
abbrev pub same_way : Way → Way → Bool
same_way Front Front = true
same_way Front Back = false
same_way Back Front = false
same_way Back Back = true

-- a row with an amount goes another way
abbrev pub differs : Routed → Way → Bool
differs r w = ltb 0 r.sent.demand.amount && not (same_way w r.way)

-- the ways of rows, by their places
pub record Noted (rs : List Routed) (ways : List Way) : Type 0 where
  pub size : length ways ≡ desk.rows
  pub is : (k : ℕ) (r : Routed) → slice_get rs k ≡ Some r → get_or ways k Front ≡ r.way

-- rows have these ways, but for rows of amount 0
pub record SameWays (rs : List Routed) (ways : List Way) : Type 0 where
  pub is : (k : ℕ) (r : Routed) → slice_get rs k ≡ Some r → 0 < r.sent.demand.amount → get_or ways k Front ≡ r.way

-- so it is where the answer is true
pub record IfSame (answer : Bool) (rs : List Routed) (ways : List Way) : Type 0 where
  pub same : answer ≡ true → SameWays rs ways

-- the peak where the turns from these rows on end
unfoldable pub end_peak : ℕ → List Routed → ℕ
unfolding peak_of settle
end_peak n rs = peak_of n (settle n (peak_of n rs) 0 rs).rows

-- these are the ways of rows that turns from the old rows on come to
pub record NotedOn (n : ℕ) (old : List Routed) (before : ℕ) (ways : List Way) : Type 0 where
  pub rows : List Routed
  pub loads : List ℕ
  pub turns : ℕ
  pub so_far : Settling n old rows loads before turns
  pub noted : Noted rows ways

-- from these rows on, turns end with the peak of the start that avoids link a
pub record OnTheWay (n : ℕ) (rs : List Demand) (a : ℕ) (now : List Routed) : Type 0 where
  pub demands : demands_of now ≡ rs
  pub whole : Wholes now
  pub ends : (from_start n rs a).figures.peak ≡ end_peak n now

-- these are the ways of such rows
pub record NotedOf (n : ℕ) (rs : List Demand) (a : ℕ) (ways : List Way) : Type 0 where
  pub rows : List Routed
  pub on : OnTheWay n rs a rows
  pub noted : Noted rows ways

-- the start came to these ways, which were noted of an earlier one
pub record Again (n : ℕ) (rs : List Demand) (a : ℕ) (before ways : List Way) : Type 0 where
  pub rows : List Routed
  pub on : OnTheWay n rs a rows
  pub same : SameWays rows before
  pub kept : ways ≡ before

-- the start was made, and its ways noted
pub record Made (n : ℕ) (rs : List Demand) (a : ℕ) (ways : List Way) (now : List Routed) (figures : Turned) : Type 0 where
  pub rows : now ≡ (from_start n rs a).rows
  pub is : figures ≡ (from_start n rs a).figures
  pub noted : NotedOf n rs a ways

-- one or the other
abbrev pub StartTried : ℕ → List Demand → ℕ → List Way → List Way → List Routed → Option Turned → Type 0
StartTried n rs a before ways now None = Again n rs a before ways
StartTried n rs a before ways now (Some figures) = Made n rs a ways now figures

-- what was tried, with one start more
abbrev pub tried_with : Tried → ℕ → Option Turned → Tried
tried_with tried a None = record { best = tried.best; last = 0 }
tried_with tried a (Some figures) = record { best = lower_of tried.best figures; last = a }

-- the rows are as the last start ends, if there is one
pub record LastIs (n : ℕ) (rs : List Demand) (now : List Routed) (last : ℕ) : Type 0 where
  pub demands : demands_of now ≡ rs
  pub rows : 1 ≤ last → now ≡ (from_start n rs last).rows
