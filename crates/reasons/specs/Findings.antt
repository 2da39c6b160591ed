-- To believe: findings in their order, each with its fact, its reason and its place; and which of them is given.
use Rattle.std.specs.Prelude.{ℕ, Result, Ok, Err, ◌⊎◌, ◌≡◌}
use Rattle.reasons.specs.declared.reason.Reason.{Reason}
use Rattle.reasons.specs.declared.finding.Finding.{Finding}

-- one finding after the other: its fact, the reason that is given where the fact holds, and the place that goes with it
pub data Findings : Type 1 where
  nothing : Findings
  finding : Type 0 → Reason → ℕ → Findings → Findings

-- these, and behind them those
unfoldable pub then : Findings → Findings → Findings
then nothing gs = gs
then (finding A reason place fs) gs = finding A reason place (then fs gs)

-- a reason, with its place
abbrev pub found : Reason → ℕ → Finding
found reason place = record { reason = reason; place = place }

-- a reason is given, with its place, exactly when its fact holds and none before it does; and all is well where none holds
abbrev pub First : Findings → Result Unit Finding → Type 0
First nothing result = result ≡ Ok tt
First (finding A reason place fs) result = (A × (result ≡ Err (found reason place))) ⊎ ((A → ⊥) × First fs result)

-- a reason is given, with its place
abbrev pub Given : Findings → Reason → ℕ → Type 0
Given fs reason place = First fs (Err (found reason place))

-- none holds
abbrev pub NoneHolds : Findings → Type 0
NoneHolds fs = First fs (Ok tt)
