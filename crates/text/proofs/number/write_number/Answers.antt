-- One digit is written by itself.
use Rattle.std.proofs.Common.{arith}
use Rattle.text.proofs.Writing.{one-fits, one-digit}
use Rattle.text.proofs.number.write_number.Goals as goal

pub returns-then-n-lt-MORE : goal.returns-then-n-lt-MORE
returns-then-n-lt-MORE g c = one-digit g.met.P.Pass.laws _ _ _ _ _ (omega (arith, c.if-n-lt-MORE.true)) c.put.ensures

pub put-requires : goal.put-requires
put-requires g c = one-fits g.met.P.Pass.laws _ _ _ (omega (arith, c.if-n-lt-MORE.true)) c.requires
