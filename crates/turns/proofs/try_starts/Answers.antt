-- `try_starts` keeps the best of the starts passed.
use Rattle.std.proofs.Common.{arith}
use Rattle.turns.proofs.StartSteps.{starts_start, keeps, starts_skip, starts_tried, starts_done, starts_end}
use Rattle.turns.proofs.try_starts.Goals as goal
use Rattle.turns.proofs.try_starts.Goals.{then-meets, else-meets}

pub loop-done-init : goal.loop-done-init
loop-done-init g c = rw c.from_start.ensures.demands (starts_start _ _ _ _ _ c.requires.two c.from_start.ensures.demands c.from_start.ensures.made)

pub returns-then-tried-floor-clause-best : goal.returns-then-tried-floor-clause-best
returns-then-tried-floor-clause-best g c =
    rw (← c.from_start.ensures.demands)
    (starts_end _ _ _ _ _ _ c.loop-done.invariant c.requires.two _ _ _ (rw c.from_start.ensures.demands c.requires.triangle) c.largest_cut.ensures c.div_ceil-floor.ensures c.if-tried-floor.true)

pub try_start-requires-clause-fit : goal.try_start-requires-clause-fit
try_start-requires-clause-fit g c = rw (keeps _ _ _ _ _ _ c.loop-done.invariant, c.from_start.ensures.demands) c.requires.fit

pub try_start-requires-clause-triangle : goal.try_start-requires-clause-triangle
try_start-requires-clause-triangle g c = rw (keeps _ _ _ _ _ _ c.loop-done.invariant, c.from_start.ensures.demands) c.requires.triangle

pub loop-done-preserved : goal.loop-done-preserved
loop-done-preserved g c =
    elim c.if-meets.branch [
      | then-meets w ↦
          rw (w.rows-is, w.known-is, w.tried-is)
          (starts_tried _ _ _ _ _ _ c.loop-done.invariant _ _ _ _ c.loop-done-test.true w.try_start.ensures.demands w.try_start.ensures.tried w.with-tried.ensures)
      | else-meets w ↦ rw (w.rows-is, w.known-is, w.tried-is) (starts_skip _ _ _ _ _ _ c.loop-done.invariant c.loop-done-test.true (rw c.meets.ensures at w.if-meets.false))
    ]

pub returns-clause-best : goal.returns-clause-best
returns-clause-best g c = rw (← c.from_start.ensures.demands) (starts_done _ _ _ _ _ _ c.loop-done.invariant (omega arith))
