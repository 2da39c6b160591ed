-- One split row too many.
use Rattle.std.proofs.Common.{rules}
use Rattle.best.proofs.SendSteps.{split_full}
use Rattle.best.proofs.send.split_rows.Goals as goal

pub returns-then-is_full-clause-many : goal.returns-then-is_full-clause-many
returns-then-is_full-clause-many g c = split_full _ _ _ _ _ c.in-Some.ensures.steps c.loop-row.invariant (search rules) (search rules)
