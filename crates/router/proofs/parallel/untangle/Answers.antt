-- `untangle` is rule C: where its loops stand, the rows behind them and the pass over what is left make up the pass over all.
use Rattle.router.proofs.PassSteps.{firsts-start, seconds-start, move-fits, seconds-turn, seconds-skip, seconds-done, firsts-skip, firsts-done}
use Rattle.router.proofs.parallel.untangle.Goals as goal
use Rattle.router.proofs.parallel.untangle.Goals.{then-both_split, else-both_split, then-is_split+else-loop-b-test, else-is_split}

pub loop-a-init : goal.loop-a-init
loop-a-init g c = search firsts-start

pub loop-b-init : goal.loop-b-init
loop-b-init g c = search seconds-start

pub moved-requires : goal.moved-requires
moved-requires g c =
    let f = move-fits _ _ _ _ _ _ c.loop-b.invariant _ _ c.row-one.ensures c.row-two.ensures in
    record { first_in_order = f.0; second_in_order = f.1; first_small = f.2; second_small = f.3 }

pub loop-b-preserved : goal.loop-b-preserved
loop-b-preserved g c =
    elim c.if-both_split.branch [
      | then-both_split w ↦ rw (w.rows-is, w.put-then-both_split.ensures, w.put.ensures) (search seconds-turn)
      | else-both_split w ↦ rw w.rows-is (search seconds-skip)
    ]

pub loop-a-preserved : goal.loop-a-preserved
loop-a-preserved g c =
    elim c.if-is_split.branch [
      | then-is_split+else-loop-b-test w ↦ rw w.rows-is (search seconds-done)
      | else-is_split w ↦ rw w.rows-is (search firsts-skip)
    ]

pub returns : goal.returns
returns g c = search firsts-done
