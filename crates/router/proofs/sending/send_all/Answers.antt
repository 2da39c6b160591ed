-- `send_all` is rule B: what is sent so far, and what the rule sends from the rooms and rows that are left, is what it sends of all.
use Rattle.std.proofs.Common.{◌≤◌, length, refl, arith}
use Rattle.router.proofs.SendSteps.{here, send-start, send-turn, send-done}
use Rattle.router.proofs.sending.send_all.Goals as goal

pub loop-k-init : goal.loop-k-init
loop-k-init g c = send-start _ _ _ c.requires.fit _ c.requires.spare

pub overflow_mul-halves : goal.overflow_mul-halves
overflow_mul-halves g c = let h = here _ _ _ c.requires.fit _ _ _ _ c.row-row.ensures c.loop-k.invariant in omega (arith, h.small)

pub least_over-requires-clause-on : goal.least_over-requires-clause-on
least_over-requires-clause-on g c = (here _ _ _ c.requires.fit _ _ _ _ c.row-row.ensures c.loop-k.invariant).on

pub raise_front-requires-clause-on : goal.raise_front-requires-clause-on
raise_front-requires-clause-on g c = (here _ _ _ c.requires.fit _ _ _ _ c.row-row.ensures c.loop-k.invariant).on

pub raise_back-requires-clause-on : goal.raise_back-requires-clause-on
raise_back-requires-clause-on g c = (here _ _ _ c.requires.fit _ _ _ _ c.row-row.ensures c.loop-k.invariant).on

pub loop-k-preserved : goal.loop-k-preserved
loop-k-preserved g c =
    rw c.put.ensures
    (send-turn _ _ _ c.requires.fit _ _ _ _ c.row-row.ensures c.loop-k.invariant _ _ c.least_over.ensures c.min-ahead.ensures _ _ _ _ refl refl
    c.raise_front.ensures c.raise_back.ensures)

pub returns : goal.returns
returns g c =
    let all : length (g.R.Rows.rows c.args.rows.now) ≤ c.loop-k.k = omega (arith, c.loop-k-test.false, c.count-k-end.ensures) in
    search send-done
