-- The least of five rules, beside the calls of its rules (`LeastOfCalls`).
use Rattle.laws.proofs.LeastOfCalls.{least-up-to-turned, least-up-to-routed, least-comes-from}
use Rattle.laws.proofs.calls.least_of_calls.Goals as goal

pub returns-clause-turned : goal.returns-clause-turned
returns-clause-turned c = least-up-to-turned

pub returns-clause-routed : goal.returns-clause-routed
returns-clause-routed c = least-up-to-routed

pub returns-clause-comes_from : goal.returns-clause-comes_from
returns-clause-comes_from c = least-comes-from
