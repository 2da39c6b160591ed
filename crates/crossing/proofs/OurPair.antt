-- What rules A to C send has no such pair, for every list of rows that an accepted table can have: rule C leaves no two split rows parallel.
use Prim.Native.Nat.{ℕ, ◌≤◌}
use mathlib.Core.Bool.{true≢false}
use mathlib.Core.List.{List}
use mathlib.Core.Path.{◌≡◌, sym, ◌∙◌, subst}
use Rattle.ring.specs.TableRows.{TableRows}
use Rattle.ring.specs.declared.types.Demand.{Demand}
use Rattle.ring.specs.declared.types.Sent.{Sent}
use Rattle.ring.specs.Rules.{Quiet}
use Rattle.engines.specs.declared.Engine.{Engine}
use Rattle.engines.specs.Engine.{split_routing_by}
use Rattle.engines.proofs.Engines.{untangled-by}
use Rattle.crossing.specs.Pair.{ParallelSplit, NoPair}
use Rattle.crossing.specs.FindPair.{first_pair}
use Rattle.crossing.specs.declared.pair.Pair.TheVariants.{None}
use Rattle.crossing.proofs.FirstPairs.{none-of}
use Rattle.crossing.proofs.PairLaws.{no-pair-is}

not-both : (a b : Sent) → Quiet a b → ParallelSplit a b → ⊥
not-both a b q c = true≢false (sym c.parallel ∙ q c.one c.two)

pub divided-no-pair : (engine : Engine) (n : ℕ) (rs : List Demand) → 2 ≤ n → TableRows n rs → (ss : List Sent) → ss ≡ split_routing_by engine n rs → first_pair ss ≡ None
divided-no-pair engine n rs two table ss same = (no-pair-is ss).1 (subst NoPair (sym same) (none-of not-both 1 (untangled-by engine n rs two table.nodes).quiet))
