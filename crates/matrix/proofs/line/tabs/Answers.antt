-- Fields are what tabs part (`LineSteps`).
use Rattle.std.proofs.Common.{rules}
use Rattle.matrix.proofs.LineSteps.{fields-tabs}
use Rattle.matrix.proofs.line.tabs.Goals as goal

pub returns : goal.returns
returns c = search (rules, fields-tabs)
