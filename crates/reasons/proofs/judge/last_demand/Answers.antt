-- The last demand is that of the last row.
use Rattle.std.proofs.Common.{arith}
use Rattle.ring.specs.Sheet.{sents, demands}
use Rattle.ring.proofs.Small.{demands-length}
use Rattle.rows.proofs.Demands.{demands-get}
use Rattle.reasons.proofs.Faults.{last-at}
use Rattle.reasons.proofs.judge.last_demand.Goals as goal

pub returns : goal.returns
returns c =
    last-at (demands (sents c.args.rows.now)) _ _ (omega (arith, c.in_ok-last.ensures.0, c.in_ok-last.ensures.1, c.count.ensures.is, demands-length c.args.rows.now)) (demands-get c.args.rows.now _ _ c.row.ensures)
