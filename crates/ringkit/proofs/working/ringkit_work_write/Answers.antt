-- What is written keeps one promise, from which the rest follows (`WorkCalls`).
use Rattle.ringkit.proofs.WorkCalls.{writes-accepted, work-fits, always-work-written}
use Rattle.ringkit.proofs.working.ringkit_work_write.Goals as goal

pub returns-clause-accepted : goal.returns-clause-accepted
returns-clause-accepted c = λ calls m. writes-accepted m c.written.ensures.promise

pub returns-clause-fits : goal.returns-clause-fits
returns-clause-fits c = λ calls m. work-fits m c.written.ensures.promise

pub returns-clause-room : goal.returns-clause-room
returns-clause-room c = λ calls m. always-work-written m c.written.ensures.promise
