-- A row that is fine fits into the columns (`ChangeSteps`).
use Rattle.std.proofs.Common.{rules}
use Rattle.work.proofs.ChangeSteps.{fitting}
use Rattle.work.proofs.change.added.Goals as goal

pub put-work-requires : goal.put-work-requires
put-work-requires c = fitting c.args.work _ _ c.in_ok-judge_alone.ensures (search rules)
