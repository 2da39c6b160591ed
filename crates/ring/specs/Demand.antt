-- To believe: a demand and its front (Rules, circuits). Nodes are offices, demands circuits.
use Rattle.std.specs.Prelude.{ℕ, suc, ◌≤◌, ◌<◌, Bool, true, cond, ◌&&◌, ◌≡◌, leb, ltb, eqb}
-- a demand has two nodes and an amount d; its nodes are i < j in every table (`OnRing`)
pub use Rattle.ring.specs.declared.types.Demand.{Demand}

-- nodes 1..n: link k joins k and this node, k+1, but link n joins n and 1
abbrev pub ahead : ℕ → ℕ → ℕ
ahead n k = cond (eqb k n) 1 (suc k)

-- over links that have `on`, each from a node to the one ahead, node a leads to node b
pub data Leads (n : ℕ) (on : ℕ → Bool) : ℕ → ℕ → Type 0 where
  there : {a : ℕ} → Leads n on a a
  over : {a b : ℕ} → on a ≡ true → Leads n on (ahead n a) b → Leads n on a b

-- the demand i-j of d
abbrev pub demand : ℕ → ℕ → ℕ → Demand
demand i j d = record { first = i; second = j; amount = d }

-- its front is links i to j-1, its back all other links
abbrev pub in_front : Demand → ℕ → Bool
in_front r k = leb r.first k && ltb k r.second

-- its nodes are nodes of the ring, the first below the second
pub record OnRing (n : ℕ) (r : Demand) : Type 0 where
  pub low : 1 ≤ r.first
  pub order : r.first < r.second
  pub high : r.second ≤ n
