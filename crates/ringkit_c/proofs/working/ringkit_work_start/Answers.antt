-- What the call of `ringkit` promises, told of the reply (`ToldWork`).
use Rattle.ringkit_c.proofs.ToldWork.{told-accepted, told-bytes}
use Rattle.ringkit_c.proofs.working.ringkit_work_start.Goals as goal

pub returns-clause-made : goal.returns-clause-made
returns-clause-made c = let e = c.ring_told.ensures in told-accepted _ c.from.ensures (rw e at c.ringkit_work_start.ensures.made)

pub returns-clause-kept : goal.returns-clause-kept
returns-clause-kept c = told-accepted _ c.from.ensures c.ringkit_work_start.ensures.kept

pub returns-clause-played : goal.returns-clause-played
returns-clause-played c = let e = c.ring_told.ensures in told-accepted _ c.from.ensures (rw e at c.ringkit_work_start.ensures.played)

pub returns-clause-any : goal.returns-clause-any
returns-clause-any c = let e = c.ring_told.ensures in record { answer = c.ringkit_work_start.result; kept = rw e at c.ringkit_work_start.ensures.any; is = c.from.ensures }

pub returns-clause-only_any : goal.returns-clause-only_any
returns-clause-only_any c = let e = c.ring_told.ensures in told-bytes (rw e at c.ringkit_work_start.ensures.only_any) c.from.ensures
