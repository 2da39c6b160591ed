-- `family::LineSizes::size` meets its contract: a family's sizes rise, so the first that is enough is the smallest that is.
use Rattle.family.proofs.Sizes.{scanned-is}
use Rattle.family.proofs.line_sizes.LineSizes.size.Goals as goal

pub returns-clause-smallest : goal.returns-clause-smallest
returns-clause-smallest g c = scanned-is g.met.Self.LineSizes.rising c.SIZES.ensures c.smallest.ensures
