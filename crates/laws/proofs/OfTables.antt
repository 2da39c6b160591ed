-- What the rules give, of the rows of every table: the rules' theorems, with what `TableRows` says.
use Prim.Native.Nat.{◌^◌}
use mathlib.Core.Bool.{true}
use mathlib.Core.Path.{◌≡◌}
use native.Mathlib.Omega.{arith}
use Rattle.ring.specs.Routing.{is_split, Split}
use Rattle.ring.specs.declared.types.Sent.{Sent}
use Rattle.ring.proofs.LargestCut.{rule-A, one-best}
use Rattle.ring.proofs.Move.{moved, moves}
use Rattle.ring.proofs.OurPlan.{rule-B, rule-B-peak, one-circuit-split}
use Rattle.ring.proofs.Parallel.{disjoint-is, encloses-is, parallel-is, parallel-either}
use Rattle.ring.proofs.SameNodes.{first-is-outer}
use Rattle.ring.proofs.Splits.{split, whole, splitting, is-split}
use Rattle.best.specs.Best.{splits}
use Rattle.best.specs.Choices.{choose, tried_of, best_over}
use Rattle.best.proofs.BestTrue.{rule-D-chooses, few-split}
use Rattle.engines.proofs.Engines.{untangled-by, divides-by, split-peak, rows-rise, directed-by, bound-by}
use Rattle.best.proofs.BestWays.{is-best, best-leads}
use Rattle.laws.specs.Rules.{DisjointIs, EnclosesIs, ParallelIs, ParallelEither, SplitIs, CutIsBest, CutIsOne}
use Rattle.laws.specs.Rules.{RowsAreSent, SendingIsOne, SentPeakIsM, OneIsSplit}
use Rattle.laws.specs.Rules.{MoveIs, MoveKeeps, EarlierIsOuter, RowsAreUntangled, UntangledDivides, UntangledPeakIsM}
use Rattle.laws.specs.Rules.{SplitRowsRise, RowsAreDirected, DirectionsAreOne, DirectedPeak}
use Rattle.laws.specs.Rules.{BestIsThere, RuleDChooses, FewAreSplit}
use Rattle.laws.proofs.OneResult.{one-sending, one-run}

-- ---- two rows

pub disjoint-rows : DisjointIs
disjoint-rows n a b oa ob = disjoint-is a b oa.order ob.order

pub enclosing-rows : EnclosesIs
enclosing-rows n a b oa ob = encloses-is a b oa.order ob.order

pub parallel-rows : ParallelIs
parallel-rows n a b oa ob = parallel-is a b oa.order ob.order

pub either-parallel : ParallelEither
either-parallel n a b oa ob = parallel-either a b oa.order ob.order

-- ---- the test of a split row

said-split : (s : Sent) → Split s → is_split s ≡ true
said-split s p = elim (splitting s) [ split q e ↦ e | whole n e ↦ absurd (n p) ]

pub split-is : SplitIs
split-is s = (is-split s, said-split s)

-- ---- A

pub cut-best : CutIsBest
cut-best n rs two table = rule-A n rs two

pub cut-one : CutIsOne
cut-one n rs two table c best = one-best _ _ c _ best (rule-A n rs two)

-- ---- B

pub rows-sent : RowsAreSent
rows-sent n rs two table = rule-B n rs two table.nodes

pub sending-one : SendingIsOne
sending-one n rs two table ss sends = one-sending sends.each (rule-B n rs two table.nodes).each

pub sent-peak : SentPeakIsM
sent-peak n rs two table = rule-B-peak n rs two table.nodes

pub one-is-split : OneIsSplit
one-is-split n rs two nodes = one-circuit-split n rs two nodes

-- ---- C

pub move-is : MoveIs
move-is n a b oa ob = moved a b oa.order ob.order

pub move-keeps : MoveKeeps
move-keeps n a b oa ob = moves a b oa.order ob.order

pub earlier-outer : EarlierIsOuter
earlier-outer n a b oa same p q = first-is-outer a b same oa.order (said-split a p) (said-split b q)

pub rows-untangled : RowsAreUntangled
rows-untangled engine n rs two table = untangled-by engine n rs two table.nodes

pub untangled-divides : UntangledDivides
untangled-divides engine n rs two table = divides-by engine n rs two table.nodes

pub untangled-peak : UntangledPeakIsM
untangled-peak engine n rs two table = split-peak engine n rs two table.nodes

-- ---- D

pub split-rise : SplitRowsRise
split-rise engine n rs two table = rows-rise engine n rs two table

pub rows-directed : RowsAreDirected
rows-directed engine n rs two table = directed-by engine n rs two table

pub directions-one : DirectionsAreOne
directions-one engine n rs two table routed d = one-run d.run (rows-directed engine n rs two table).run

pub directed-peak : DirectedPeak
directed-peak engine n rs two table = omega (arith, untangled-peak engine n rs two table, bound-by engine n rs two table)

-- ---- the best choice

pub best-there : BestIsThere
best-there n ss =
    let best = best_over (tried_of n ss) 0 (2 ^ splits ss) (tried_of n ss 0) in
    record { ways = choose best.choice ss; best = is-best n ss best (best-leads n ss) }

pub rule-D-one : RuleDChooses
rule-D-one engine n rs two table = rule-D-chooses engine n rs two table

pub few-rows : FewAreSplit
few-rows engine n rs two table = few-split engine n rs two table
