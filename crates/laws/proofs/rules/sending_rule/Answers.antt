-- Rule B (`Sending`, `Circuits`, `OneResult`).
use Rattle.laws.proofs.OfTables.{rows-sent, sending-one, sent-peak, one-is-split}
use Rattle.laws.proofs.rules.sending_rule.Goals as goal

pub returns-clause-sends : goal.returns-clause-sends
returns-clause-sends c = rows-sent

pub returns-clause-only : goal.returns-clause-only
returns-clause-only c = sending-one

pub returns-clause-peak : goal.returns-clause-peak
returns-clause-peak c = sent-peak

pub returns-clause-one_split : goal.returns-clause-one_split
returns-clause-one_split c = one-is-split
