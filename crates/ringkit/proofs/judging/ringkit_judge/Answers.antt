-- Judging values: what judging answers is the first of the findings, and so keeps the promise (`JudgeCalls`).
use Rattle.ringkit.specs.Judging.{sheet_given}
use Rattle.ringkit.proofs.JudgeCalls.{judge-promise}
use Rattle.ringkit.proofs.judging.ringkit_judge.Goals as goal

pub returns-clause-promise : goal.returns-clause-promise
returns-clause-promise c = judge-promise (sheet_given c.args.figures c.args.rows.now c.args.links.now) _ c.judge.ensures.first
