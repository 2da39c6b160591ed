-- another row at a place is written column by column
use Rattle.std.proofs.Common.{ap, length, arith}
use Rattle.rows.proofs.Places.{length_rows, row-put}
use Rattle.rows.proofs.columns.ColumnsRowsMut.put.Goals as goal

pub returns : goal.returns
returns c =
    let n = length_rows c.self.inside in
    let e = ap length c.self.view_is in
    rw (← c.self.view_is, c.write.ensures) (row-put c.self.inside c.args.k c.args.row c.self.invariant (omega (arith, c.self.invariant.few)) (omega arith))
