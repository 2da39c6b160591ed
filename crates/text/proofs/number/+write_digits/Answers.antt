-- One digit is written by itself, and the last of several behind those of n / BASE.
use Rattle.std.proofs.Common.{arith}
use Rattle.text.proofs.Writing.{one-fits, one-digit, digits-fit, last-fits, last-digit}
use Rattle.text.proofs.number.+write_digits.Goals as goal

pub returns-then-n-lt-MORE : goal.returns-then-n-lt-MORE
returns-then-n-lt-MORE g t c = one-digit g.met.P.Pass.laws _ _ _ _ _ (omega (arith, c.if-n-lt-MORE.true)) c.put.ensures

pub put-requires : goal.put-requires
put-requires g t c = one-fits g.met.P.Pass.laws _ _ _ (omega (arith, c.if-n-lt-MORE.true)) c.requires

pub write_digits-next-requires : goal.write_digits-next-requires
write_digits-next-requires g t c κs within = (omega arith, (within, digits-fit g.met.P.Pass.laws _ _ _ (omega (arith, c.if-n-lt-MORE.false)) (omega arith) c.requires))

pub put-requires-2 : goal.put-requires-2
put-requires-2 g t c = last-fits g.met.P.Pass.laws _ _ _ (omega (arith, c.if-n-lt-MORE.false)) (omega arith) c.requires _ _ c.write_digits-next.ensures

pub returns : goal.returns
returns g t c = last-digit g.met.P.Pass.laws _ _ _ (omega (arith, c.if-n-lt-MORE.false)) (omega arith) c.requires _ _ c.write_digits-next.ensures _ _ c.put-2.ensures
