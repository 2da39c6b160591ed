-- The two blocks are the row of what is to be added, and that is the step.
use Rattle.std.proofs.Common.{rules, sym}
use Rattle.ring.specs.Demand.{demand}
use Rattle.across.proofs.RowSteps.{rows_done, step_is}
use Rattle.across.proofs.row.step_row.Goals as goal

pub returns : goal.returns
returns c =
    step_is _ _ _ _ _ _ _ _
    (rows_done c.args.nodes (demand c.args.i c.args.j c.share_of-share.result) _ _ _ (search rules) (search rules) (rw (sym c.min.ensures) c.raise_block.ensures) c.raise_block-2.ensures c.requires.few)
    c.share_of-share.ensures
