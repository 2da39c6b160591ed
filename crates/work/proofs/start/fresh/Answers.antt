-- Its ring is in numbers.
use Rattle.std.proofs.Common.{refl}
use Rattle.work.specs.Bytes.{fresh_in}
use Rattle.work.proofs.start.fresh.Goals as goal

pub returns : goal.returns
unfolding fresh_in
returns c = let e = c.of.ensures in rw e refl
