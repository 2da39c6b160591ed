-- Internal: the loads of links, and what a turn does to them.
use Rattle.std.specs.Prelude.{ℕ, ◌+◌, ◌-◌, ◌≤◌, true, cond, List, length, ◌≡◌}
use Rattle.ring.specs.declared.types.Routed.{Routed}
use Rattle.weight.specs.Limits.{load_bound}
use Rattle.weight.specs.LinkSteps.{link_at}
use Rattle.turns.specs.Turns.{on_path}

-- ---- loads

-- the loads of links
pub record Carries (load : ℕ → ℕ) (loads : List ℕ) : Type 0 where
  pub is : (k : ℕ) → 1 ≤ k → k ≤ length loads → link_at loads k ≡ load k

-- a row is turned: each link of its path falls by what it sends, and each other link rises
pub record LoadsTurned (r : Routed) (old new : List ℕ) : Type 0 where
  pub size : length new ≡ length old
  pub is : (k : ℕ) → 1 ≤ k → k ≤ length old → link_at new k ≡ cond (on_path r k) (link_at old k - r.sent.demand.amount) (link_at old k + r.sent.demand.amount)

-- no sum grows too large
pub record RoomFor (amount : ℕ) (loads : List ℕ) : Type 0 where
  pub sums : (k : ℕ) → 1 ≤ k → k ≤ length loads → link_at loads k + amount ≤ load_bound

-- what a row sends is in the loads of its path
pub record PathCarries (r : Routed) (loads : List ℕ) : Type 0 where
  pub most : (k : ℕ) → 1 ≤ k → k ≤ length loads → on_path r k ≡ true → r.sent.demand.amount ≤ link_at loads k
