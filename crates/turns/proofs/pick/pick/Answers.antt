-- `pick` keeps the best of the rows passed.
use Rattle.std.proofs.Common.{arith}
use Rattle.turns.proofs.PickSteps.{pick_start, pick_on, pick_takes, pick_high, pick_ahead, pick_done}
use Rattle.turns.proofs.pick.pick.Goals as goal
use Rattle.turns.proofs.pick.pick.Goals.{then-best-key+then-turn_lowers, else-best-key, else-best-key-via-then-best-key+else-turn_lowers, else-best-key-via-else-best-key}

pub loop-place-init : goal.loop-place-init
loop-place-init g c = pick_start _ _ _ _ c.requires.carries c.requires.largest c.below_keys.ensures

pub path_key-key-requires : goal.path_key-key-requires
path_key-key-requires g c = pick_on _ _ _ _ c.requires.fit c.loop-place.invariant _ c.row.ensures

pub turn_lowers-requires : goal.turn_lowers-requires
turn_lowers-requires g c = pick_on _ _ _ _ c.requires.fit c.loop-place.invariant _ c.row-then-best-key.ensures

pub loop-place-preserved : goal.loop-place-preserved
loop-place-preserved g c =
    elim c.if-best-key.branch [
      | then-best-key+then-turn_lowers w ↦
          rw w.best-is
          (pick_takes _ _ _ _ c.requires.fit c.loop-place.invariant _ c.row.ensures c.requires.carries _ c.requires.largest _ c.path_key-key.ensures w.if-best-key.true _ w.row-then-best-key.ensures _ w.turn_lowers.ensures w.if-turn_lowers.true)
      | else-best-key w ↦
          rw w.best-is
          (elim w.else-best-key.branch [
            | else-best-key-via-then-best-key+else-turn_lowers v ↦
                pick_high _ _ _ _ c.requires.fit c.loop-place.invariant _ c.row.ensures c.requires.carries _ c.requires.largest _ c.path_key-key.ensures v.if-best-key.true _ v.row-then-best-key.ensures _ v.turn_lowers.ensures v.if-turn_lowers.false
            | else-best-key-via-else-best-key v ↦ pick_ahead _ _ _ _ c.requires.fit c.loop-place.invariant _ c.row.ensures c.requires.carries _ c.requires.largest _ c.path_key-key.ensures v.if-best-key.false
          ])
    ]

pub returns : goal.returns
returns g c = pick_done _ _ _ _ c.requires.fit c.loop-place.invariant (omega (arith, c.loop-place-test.false, c.count-place-end.ensures))
