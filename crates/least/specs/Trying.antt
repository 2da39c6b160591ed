-- Internal: what the rules that were tried so far have given.
use Rattle.std.specs.Prelude.{ℕ, cond, leb, List, ◌≡◌, Option, Some, None}
use Rattle.ring.specs.declared.types.Demand.{Demand}
use Rattle.ring.specs.declared.types.Routed.{Routed}
use Rattle.turns.specs.Turns.{peak_of}
use Rattle.least.specs.Rule.{LeastRule}
use Rattle.least.specs.Least.{WaysBy}
use Rattle.least.specs.declared.Tried.{Tried}

-- rows go by a rule, with this peak
pub record Goes (n : ℕ) (rs : List Demand) (rule : LeastRule) (ways : List Routed) (peak : ℕ) : Type 0 where
  pub by : WaysBy n rs rule ways
  pub comes_to : peak ≡ peak_of n ways

-- a rule gives no ways
abbrev pub GivesNone : ℕ → List Demand → LeastRule → Type 0
GivesNone n rs rule = (ways : List Routed) → WaysBy n rs rule ways → ⊥

-- they do, or the rule gives none
abbrev pub GoesOrNone : ℕ → List Demand → LeastRule → List Routed → Option ℕ → Type 0
GoesOrNone n rs rule ways None = GivesNone n rs rule
GoesOrNone n rs rule ways (Some peak) = Goes n rs rule ways peak

-- a rule with a smaller number, if it gave a peak that is not higher, takes the place of one that was tried before
unfoldable pub less_of : Tried → LeastRule → Option ℕ → Tried
less_of tried rule None = tried
less_of tried rule (Some peak) = cond (leb peak tried.peak) (record { rule = rule; peak = peak }) tried
