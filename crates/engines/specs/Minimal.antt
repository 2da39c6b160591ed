-- To believe: a split routing below which there is none, link by link.
use Rattle.std.specs.Prelude.{ℕ, ◌*◌, ◌≤◌, ◌<◌, List}
use Rattle.ring.specs.declared.types.Demand.{Demand}
use Rattle.ring.specs.declared.types.Sent.{Sent}
use Rattle.ring.specs.Routing.{split_load}
use Rattle.ring.specs.Division.{Divides}

-- the routing `other`, in parts of 1/q unit, is at most as large on every link as ss, which is in halves, and smaller on one
pub record Below (q n : ℕ) (other ss : List Sent) : Type 0 where
  pub everywhere : (k : ℕ) → 1 ≤ k → k ≤ n → 2 * split_load other k ≤ q * split_load ss k
  pub link : ℕ
  pub low : 1 ≤ link
  pub high : link ≤ n
  pub smaller : 2 * split_load other link < q * split_load ss link

-- no split routing of the demands rs is, however finely they are divided
abbrev pub Minimal : ℕ → List Demand → List Sent → Type 0
Minimal n rs ss = (q : ℕ) (other : List Sent) → Divides q rs other → Below q n other ss → ⊥
