-- To believe: the rows that a table can have, and their order (Rules, circuits).
use Rattle.std.specs.Prelude.{ℕ, ◌≤◌, ◌<◌, List, ◌⊎◌, ◌≡◌}
use Rattle.ring.specs.Lists.{Each, Steps}
use Rattle.ring.specs.declared.types.Demand.{Demand}
use Rattle.ring.specs.Demand.{OnRing}

-- the pair a, b comes before the pair c, d: by the first, then by the second
abbrev pub PairBefore : ℕ → ℕ → ℕ → ℕ → Type 0
PairBefore a b c d = (a < c) ⊎ ((a ≡ c) × (b < d))

-- the pair a, b does not come behind the pair c, d: it comes before it, or the two are the same
abbrev pub PairUpTo : ℕ → ℕ → ℕ → ℕ → Type 0
PairUpTo a b c d = (a < c) ⊎ ((a ≡ c) × (b ≤ d))

-- from a row to the next its nodes do not fall, by first node, then second: rows of the same two nodes stand next to each other
abbrev pub InTableOrder : Demand → Demand → Type 0
InTableOrder a b = PairUpTo a.first a.second b.first b.second

-- the rows of a table on a ring of n nodes, in table order
pub record TableRows (n : ℕ) (rs : List Demand) : Type 0 where
  pub nodes : Each (OnRing n) rs
  pub order : Steps InTableOrder rs
