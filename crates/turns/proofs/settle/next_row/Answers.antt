-- Turns are left off, or the scan over the rows has the answer.
use Rattle.turns.proofs.SettleSteps.{rests_low, rests_many, next_of}
use Rattle.turns.proofs.settle.next_row.Goals as goal
use Rattle.turns.proofs.settle.next_row.Goals.{then-peak-limit-via-then-peak-limit, then-peak-limit-via-else-peak-limit+then-limit-turns}

pub returns-then-peak-limit : goal.returns-then-peak-limit
returns-then-peak-limit g c =
    elim c.then-peak-limit.branch [
      | then-peak-limit-via-then-peak-limit w ↦ rests_low _ _ _ _ _ c.requires.carries c.peak-peak.ensures w.if-peak-limit.true
      | then-peak-limit-via-else-peak-limit+then-limit-turns w ↦ rests_many _ _ _ _ w.if-limit-turns.true
    ]

pub returns : goal.returns
returns g c = next_of _ _ _ _ _ c.pick.ensures
