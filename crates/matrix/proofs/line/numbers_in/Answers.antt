-- A line of numbers: so many of its fields are left, and the next begins at `at` (`ReadingOn`).
use Rattle.std.proofs.Common.{rules}
use Rattle.std.proofs.lemmas.Result.{err_from_is_err_and}
use Rattle.matrix.proofs.LineSteps.{kept, reading-starts, reading-stops, reads-number, reading-done, reading-over}
use Rattle.matrix.proofs.line.numbers_in.Goals as goal

pub loop-left-init : goal.loop-left-init
loop-left-init c = search (reading-starts, rules)

pub returns-in_err-value : goal.returns-in_err-value
returns-in_err-value c =
    let p = err_from_is_err_and c.from_residual.result c.from_residual.ensures.1 in
    rw (p.1, p.2) (reading-stops _ _ _ _ _ c.loop-left.invariant c.loop-left-test.true _ c.end_of.ensures _ c.read_field.ensures _ c.in_err-value.was)

pub loop-left-preserved : goal.loop-left-preserved
loop-left-preserved c =
    let e = kept c.try_push-full.result c.loop-left.values c.try_push-full.new.self _ c.try_push-full.ensures.variant.0 c.try_push-full.ensures.ok c.try_push-full.ensures.err c.try_push-full.ensures.full in
    reads-number _ _ _ _ _ c.loop-left.invariant c.loop-left-test.true _ c.end_of.ensures _ c.read_field.ensures _ _ _ c.in_ok-value.was e

pub returns-then-at-text : goal.returns-then-at-text
returns-then-at-text c = search (reading-done, rules)

pub returns-else-at-text : goal.returns-else-at-text
returns-else-at-text c = search reading-over
