-- `moved` is rule C's move: one law for each way through the tests.
use Rattle.router.proofs.MoveCases.{whole-case, apart-case, outer-case, inner-case, crossing-case}
use Rattle.router.proofs.parallel.moved.Goals as goal

pub returns-then-not-both_split : goal.returns-then-not-both_split
returns-then-not-both_split c = search whole-case

pub returns-then-disjoint : goal.returns-then-disjoint
returns-then-disjoint c = search apart-case

pub returns-then-encloses : goal.returns-then-encloses
returns-then-encloses c = search outer-case

pub returns-then-encloses-2 : goal.returns-then-encloses-2
returns-then-encloses-2 c = search inner-case

pub returns-else-encloses-2 : goal.returns-else-encloses-2
returns-else-encloses-2 c = search crossing-case
