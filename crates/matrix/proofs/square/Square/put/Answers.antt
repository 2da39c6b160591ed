-- Line i is put (`NumbersSteps`).
use Rattle.std.proofs.Common.{ap, length, arith}
use Rattle.matrix.proofs.NumbersSteps.{lines-long, line-put}
use Rattle.matrix.proofs.square.Square.put.Goals as goal

pub returns : goal.returns
returns c =
    let n = lines-long c.self.inside c.self.invariant in
    let e = ap length c.self.view_is in
    rw (← c.self.view_is) (line-put c.self.inside c.self.invariant c.args.i (omega arith) (omega arith) _ _ c.entries_of.ensures (omega arith))
