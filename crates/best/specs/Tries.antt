-- Internal: all choices for split rows, one after the other, as the recursion over the rows makes them.
use Rattle.std.specs.Prelude.{ℕ, ◌+◌, ◌-◌, ◌*◌, ◌≤◌, cond, ◌&&◌, ◌||◌, List, [], ◌∷◌, ltb, eqb, count_ones, get_or, ◌<◌, ◌≡◌}
use Rattle.ring.specs.Demand.{in_front, OnRing}
use Rattle.ring.specs.Lists.{Each}
use Rattle.ring.specs.Routing.{peak}
use Rattle.ring.specs.declared.types.Demand.{Demand}
use Rattle.ring.specs.declared.types.Link.{Link}
use Rattle.weight.specs.Weighed.{no_link}
use Rattle.ring.specs.Limits.{desk}
use Rattle.weight.specs.Limits.{load_bound}
use Rattle.weight.specs.LinkSteps.{link_at}
use Rattle.best.specs.declared.tries.Tried.{Tried}

-- a later choice takes the place of an earlier one only where its peak is lower, or is the same with fewer ones
unfoldable pub better_of : Tried → Tried → Tried
better_of earlier later =
    cond (ltb later.peak earlier.peak || eqb later.peak earlier.peak && ltb (count_ones later.choice) (count_ones earlier.choice)) later earlier

-- the loads behind a row that is turned back
unfoldable pub back_over : Demand → (ℕ → ℕ) → ℕ → ℕ
back_over r load k = cond (in_front r k) (load k - r.amount) (load k + r.amount)

-- the best of that so far and of all choices for these rows behind one for the rows before them; in the loads these rows go front
unfoldable pub tried_in : ℕ → (ℕ → ℕ) → List Demand → ℕ → Tried → Tried
unfolding better_of back_over peak
tried_in n load [] choice best = better_of best (record { peak = peak load n; choice = choice })
tried_in n load (r ∷ rs) choice best = tried_in n (back_over r load) rs (2 * choice + 1) (tried_in n load rs (2 * choice) best)

-- what these rows send over a link where all go front, and together
unfoldable pub ahead_of : List Demand → ℕ → ℕ
ahead_of [] k = 0
ahead_of (r ∷ rs) k = cond (in_front r k) r.amount 0 + ahead_of rs k

unfoldable pub amounts_of : List Demand → ℕ
amounts_of [] = 0
amounts_of (r ∷ rs) = r.amount + amounts_of rs

-- loads of n links that hold what these rows send to their fronts, with room for all of it on each link
pub record Turnable (n : ℕ) (rs : List Demand) (loads : List ℕ) : Type 0 where
  pub few : n ≤ desk.nodes
  pub on : Each (OnRing n) rs
  pub ahead : (k : ℕ) → 1 ≤ k → k ≤ n → ahead_of rs k ≤ link_at loads k
  pub room : (k : ℕ) → 1 ≤ k → k ≤ n → link_at loads k + amounts_of rs ≤ load_bound

-- one row turned back
pub record TurnedBack (n : ℕ) (r : Demand) (old new : List ℕ) : Type 0 where
  pub is : (k : ℕ) → 1 ≤ k → k ≤ n → link_at new k ≡ back_over r (link_at old) k

-- the unsplit loads of links
pub record UnsplitOf (links : List Link) (loads : List ℕ) : Type 0 where
  pub is : (k : ℕ) → k < desk.nodes → get_or loads k 0 ≡ (get_or links k no_link).unsplit
