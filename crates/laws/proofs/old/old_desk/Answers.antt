use Rattle.laws.proofs.OldDesk.{beyond-old, old-is-accepted, old-is-refused}
use Rattle.laws.proofs.old.old_desk.Goals as goal

pub returns-clause-beyond : goal.returns-clause-beyond
returns-clause-beyond c = beyond-old

pub returns-clause-accepted : goal.returns-clause-accepted
returns-clause-accepted c = old-is-accepted

pub returns-clause-refused : goal.returns-clause-refused
returns-clause-refused c = old-is-refused
