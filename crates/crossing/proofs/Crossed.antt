-- Where all rows with amounts cross, rules A to C send half of each either way, by either engine; so the split rows are those with amounts, and the best
-- choice is no higher than the ways of the walk (HalfWays).
use Prim.Native.Nat.{ℕ, ◌*◌, ◌/◌, ◌≤◌}
use mathlib.Core.List.{List}
use mathlib.Core.Path.{◌≡◌, ap, ◌∙◌}
use native.Mathlib.Omega.{arith}
use Rattle.ring.specs.Lists.{Each}
use Rattle.ring.specs.declared.types.Demand.{Demand}
use Rattle.ring.specs.declared.types.Sent.{Sent}
use Rattle.ring.specs.declared.types.Routed.{Routed}
use Rattle.ring.specs.Division.{Divides}
use Rattle.ring.specs.Routing.{split_load, unsplit_load, peak}
use Rattle.ring.specs.RuleA.{rule_a, largest_across}
use Rattle.ring.specs.Sheet.{demands, sheet_of}
use Rattle.ring.specs.TableRows.{TableRows}
use Rattle.ring.proofs.Peaks.{peak-least}
use Rattle.ring.proofs.Plans.{in_order}
use Rattle.engines.specs.declared.Engine.{Engine}
use Rattle.engines.specs.Engine.{split_routing_by}
use Rattle.engines.proofs.Engines.{divides-by, split-fits, rows-rise}
use Rattle.best.specs.Best.{splits, IsBest}
use Rattle.router.specs.Plans.{best_choice, GoBy, by_best_choice}
use Rattle.crossing.specs.AllCross.{AllCross, largest_amount, with_amount, crossed_bound, halves}
use Rattle.crossing.specs.Laws.{HalvedWhereAllCross, SplitAreThoseWithAmounts, BestWithinBound}
use Rattle.crossing.proofs.Halved.{halved}
use Rattle.crossing.proofs.HalfWays.{Within, half-ways, SentHalf, sent-half, splits-are, halves_are}

module _ (engine : Engine) (n : ℕ) (rs : List Demand) (two : 2 ≤ n) (table : TableRows n rs) (cross : AllCross rs) where
  abbrev split : List Sent
  split = split_routing_by engine n rs

  divides : Divides 2 rs split
  divides = divides-by engine n rs two table.nodes

  fits : (k : ℕ) → 1 ≤ k → k ≤ n → split_load split k ≤ largest_across n rs
  fits = split-fits engine n rs two table.nodes

  all-half : Each SentHalf split
  all-half = sent-half (halved n rs two table.nodes cross split divides fits) divides.sums

  pub split-is : split ≡ halves rs
  split-is = halves_are all-half ∙ ap halves divides.same

  pub splits-with-amount : splits split ≡ with_amount rs
  splits-with-amount = splits-are all-half ∙ ap with_amount divides.same

  -- ways for the split rows, on each link within twice the largest amount of the split load
  ways : Within (2 * largest_amount (demands split)) split
  ways = half-ways split (halved n rs two table.nodes cross split divides fits) divides.sums (in_order n rs two table.nodes split divides) (rows-rise engine n rs two table)

  -- none is better than the best
  pub best-within : (best : List Routed) → IsBest n split best → 2 * peak (unsplit_load best) n ≤ crossed_bound n rs
  best-within best is =
      let top = crossed_bound n rs / 2 in
      let same : largest_amount (demands split) ≡ largest_amount rs = ap largest_amount divides.same in
      let half = peak-least (unsplit_load ways.ways) n top (λ k a b. omega (arith, ways.bound k, same, fits k a b)) in
      omega (arith, half, is.least ways.ways (record { same = ways.same; kept = ways.kept }))

pub halved-where-all-cross : HalvedWhereAllCross
halved-where-all-cross engine n rs two table cross = split-is engine n rs two table cross

pub split-are-those-with-amounts : SplitAreThoseWithAmounts
split-are-those-with-amounts engine n rs two table cross = splits-with-amount engine n rs two table cross

pub best-within-bound : BestWithinBound
unfolding sheet_of
best-within-bound engine ring rs two table cross x p = rw p.is (go p.go)
  where
    go : {ways : List Routed} → GoBy ring.nodes (split_routing_by engine ring.nodes rs) best_choice ways
        → 2 * (sheet_of ring (rule_a ring.nodes rs) ways).unsplit_peak ≤ crossed_bound ring.nodes rs
    go (by_best_choice {ways} few best) = best-within engine ring.nodes rs two table cross ways best
