-- To believe: the three answers to whether all rows with amounts cross (Rules, rings where everything crosses).
use Rattle.std.specs.Prelude.{ℕ, ◌≤◌, ◌<◌, List}
use Rattle.ring.specs.declared.types.Demand.{Demand}
use Rattle.best.specs.Best.{most_split}
use Rattle.crossing.specs.AllCross.{AllCross, FirstParallel, with_amount, crossed_bound}
use Rattle.crossing.specs.declared.crossing.Crossing.{Crossing}
use Rattle.crossing.specs.declared.crossing.Crossing.TheVariants.{All, Parallel, Many}

-- they all cross and are at most as many as the best choice is made among, with the bound; or two are parallel, and these are the first; or they all cross and are more
pub data CrossingIs (n : ℕ) (rs : List Demand) : Crossing → Type 0 where
  all : AllCross rs → with_amount rs ≤ most_split → CrossingIs n rs (All (crossed_bound n rs))
  parallel : {p q : ℕ} → FirstParallel rs p q → CrossingIs n rs (Parallel p q)
  many : AllCross rs → most_split < with_amount rs → CrossingIs n rs Many
