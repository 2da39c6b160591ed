-- A row that is fine fits into the columns (`ChangeSteps`).
use Rattle.work.proofs.ChangeSteps.{fitting}
use Rattle.work.proofs.change.changed.Goals as goal

pub put-work-requires : goal.put-work-requires
put-work-requires c = fitting c.args.work _ _ c.in_ok-judge_alone.ensures c.in_ok-k.ensures.held.place
