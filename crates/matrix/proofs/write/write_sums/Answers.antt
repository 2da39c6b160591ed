-- The entries before node j are written, and what is left, written from `next` on, makes the line
-- whole (`Entering`).
use Rattle.std.proofs.Common.{arith, ◌∙◌}
use Rattle.matrix.proofs.WriteSteps.{whole-sum, entry-fits, entry-turn, entries-done}
use Rattle.matrix.proofs.write.write_sums.Goals as goal

pub write_field-next-requires : goal.write_field-next-requires
write_field-next-requires g c =
    let rows = g.R.Rows.rows c.args.rows.now in
    let all = whole-sum rows c.count.result c.count.ensures c.args.i c.loop-j.j in
    entry-fits _ _ g.met.P.Pass.laws _ _ _ _ _ c.loop-j.invariant (omega arith) c.loop-j-test.true
    _ (c.sum_of-sum.ensures ∙ all) _ c.end_of-end.ensures c.requires.has_room

pub loop-j-preserved : goal.loop-j-preserved
loop-j-preserved g c =
    let rows = g.R.Rows.rows c.args.rows.now in
    let all = whole-sum rows c.count.result c.count.ensures c.args.i c.loop-j.j in
    entry-turn _ _ g.met.P.Pass.laws _ _ _ _ _ c.loop-j.invariant (omega arith) c.loop-j-test.true
    _ (c.sum_of-sum.ensures ∙ all) _ c.end_of-end.ensures _ _ c.write_field-next.ensures

pub returns : goal.returns
returns g c =
    entries-done _ _ g.met.P.Pass.laws _ _ _ _ _ c.loop-j.invariant c.loop-j-test.false
