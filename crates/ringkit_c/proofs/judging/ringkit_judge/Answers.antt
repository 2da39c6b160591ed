-- What the call of `ringkit` finds of the ring that is told.
use Rattle.ringkit_c.proofs.judging.ringkit_judge.Goals as goal

pub returns-clause-value : goal.returns-clause-value
returns-clause-value c =
    let e = c.ring_told.ensures in
    record { answer = c.ringkit_judge.result; kept = rw e at c.ringkit_judge.ensures.value; is = c.of.ensures }
