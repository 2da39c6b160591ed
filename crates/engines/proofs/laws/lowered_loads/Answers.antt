-- The routing of lowered rooms (`LoweredLoads`).
use Rattle.engines.proofs.LoweredLoads.{loads-are, sent-minimal, rule-C-keeps}
use Rattle.engines.proofs.CasesHold.{cases-hold, level-not-minimal}
use Rattle.engines.proofs.laws.lowered_loads.Goals as goal

pub returns-clause-loads : goal.returns-clause-loads
returns-clause-loads c = loads-are

pub returns-clause-minimal : goal.returns-clause-minimal
returns-clause-minimal c = sent-minimal

pub returns-clause-level : goal.returns-clause-level
returns-clause-level c = level-not-minimal

pub returns-clause-nothing : goal.returns-clause-nothing
returns-clause-nothing c = rule-C-keeps

pub returns-clause-cases : goal.returns-clause-cases
returns-clause-cases c = cases-hold
