-- To believe: rings where all rows with amounts, which are those above 0, cross, and the bound of their best choice (Rules, rings where everything crosses).
use Rattle.std.specs.Prelude.{ℕ, ◌+◌, ◌*◌, ◌<◌, max, true, cond, List, [], ◌∷◌, map, ◌≡◌, ltb}
use Rattle.ring.specs.Lists.{Pairs}
use Rattle.ring.specs.declared.types.Demand.{Demand}
use Rattle.ring.specs.declared.types.Sent.{Sent}
use Rattle.ring.specs.Crossing.{crosses, parallel}
use Rattle.ring.specs.RuleA.{largest_across}
use Rattle.crossing.specs.Pair.{FirstFrom}

-- two rows cross, if both have amounts above 0
abbrev pub CrossIfSome : Demand → Demand → Type 0
CrossIfSome a b = 0 < a.amount → 0 < b.amount → crosses a b ≡ true

-- every two rows with amounts cross
abbrev pub AllCross : List Demand → Type 0
AllCross = Pairs CrossIfSome

-- two rows both have amounts, and are parallel
pub record ParallelAmounts (a b : Demand) : Type 0 where
  pub one : 0 < a.amount
  pub two : 0 < b.amount
  pub parallel : parallel a b ≡ true

-- the first two rows, counted from 1, that are such
abbrev pub FirstParallel : List Demand → ℕ → ℕ → Type 0
FirstParallel rs p q = FirstFrom ParallelAmounts 1 rs p q

-- how many rows have amounts
unfoldable pub with_amount : List Demand → ℕ
with_amount [] = 0
with_amount (r ∷ rs) = cond (ltb 0 r.amount) 1 0 + with_amount rs

-- the largest amount, 0 where there is no row
unfoldable pub largest_amount : List Demand → ℕ
largest_amount [] = 0
largest_amount (r ∷ rs) = max r.amount (largest_amount rs)

-- M and twice the largest amount, in halves
abbrev pub crossed_bound : ℕ → List Demand → ℕ
crossed_bound n rs = largest_across n rs + 2 * largest_amount rs

-- a row sent half either way
abbrev pub half : Demand → Sent
half r = record { demand = r; front = r.amount; back = r.amount }

-- all rows sent so
abbrev pub halves : List Demand → List Sent
halves rs = map half rs
