-- Internal: what is done to the pairs of links that lie both on one way of a row, and found of them.
use Rattle.std.specs.Prelude.{ℕ, ◌≤◌, ◌<◌, Bool, not, cond, ◌&&◌, List, ◌≡◌, length}
use Rattle.ring.specs.declared.types.Demand.{Demand}
use Rattle.ring.specs.Demand.{in_front}
use Rattle.ring.specs.Rules.{InFront}
use Rattle.across.specs.Step.{raised}
use Rattle.across.specs.Cells.{cell}

-- both links lie on a row's front, or both on its back
abbrev pub on_front : Demand → ℕ → ℕ → Bool
on_front r g h = in_front r g && in_front r h

abbrev pub on_back : Demand → ℕ → ℕ → Bool
on_back r g h = not (in_front r g) && not (in_front r h)

-- of n links the numbers of the pairs of a way are raised by an amount, and all others stay
pub record RaisedWay (on : ℕ → ℕ → Bool) (n by : ℕ) (old new : List ℕ) : Type 0 where
  pub size : length new ≡ length old
  pub is : (g h : ℕ) → 1 ≤ g → g ≤ h → h ≤ n → cell new g h ≡ cond (on g h) (raised (cell old g h) by) (cell old g h)

-- x is the least of the numbers of the pairs of a row's front
pub record LeastOver (triangle : List ℕ) (r : Demand) (x : ℕ) : Type 0 where
  pub below : (g h : ℕ) → r.first ≤ g → g ≤ h → h < r.second → x ≤ cell triangle g h
  pub one : InFront r (λ g h. x ≡ cell triangle g h)
