-- What the call of `ringkit` promises, told of the reply (`Told`).
use Rattle.std.proofs.Common.{◌-◌, ◌≡◌, take}
use Rattle.ringkit.specs.LeastPeak.{SentWhole, NoneBelow, NoneLowerBy, WithinRuleD, WithinCrossed}
use Rattle.ringkit_c.proofs.Told.{told-only, told-least, told-given}
use Rattle.ringkit_c.proofs.texts.ringkit_least.Goals as goal

pub returns-clause-only : goal.returns-clause-only
returns-clause-only c = told-only _ _ c.from.ensures c.ringkit_least.ensures.only

pub returns-clause-accepted : goal.returns-clause-accepted
returns-clause-accepted c = λ a. told-given _ _ c.from.ensures (c.ringkit_least.ensures.accepted a)

pub returns-clause-sent : goal.returns-clause-sent
returns-clause-sent c = told-least (λ peak floor rows. SentWhole c.args.table.now (take rows c.ringkit_least.new.ways) peak) _ _ c.from.ensures c.ringkit_least.ensures.sent

pub returns-clause-floor : goal.returns-clause-floor
returns-clause-floor c = told-least (λ peak floor rows. NoneBelow c.args.table.now floor) _ _ c.from.ensures c.ringkit_least.ensures.floor

pub returns-clause-proved_best : goal.returns-clause-proved_best
returns-clause-proved_best c = told-least (λ peak floor rows. peak ≡ floor → NoneBelow c.args.table.now peak) _ _ c.from.ensures c.ringkit_least.ensures.proved_best

pub returns-clause-within : goal.returns-clause-within
returns-clause-within c = told-least (λ peak floor rows. NoneLowerBy c.args.table.now peak (peak - floor)) _ _ c.from.ensures c.ringkit_least.ensures.within

pub returns-clause-bound : goal.returns-clause-bound
returns-clause-bound c = told-least (λ peak floor rows. WithinRuleD c.args.table.now peak) _ _ c.from.ensures c.ringkit_least.ensures.bound

pub returns-clause-crossed : goal.returns-clause-crossed
returns-clause-crossed c = told-least (λ peak floor rows. WithinCrossed c.args.table.now peak) _ _ c.from.ensures c.ringkit_least.ensures.crossed
