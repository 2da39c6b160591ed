-- Of an answer that is the first, what is accepted, and that there is no other.
use Rattle.ring.specs.Limits.{desk}
use Rattle.ring.specs.Sheet.{sheet_in}
use Rattle.judge.specs.Findings.{findings}
use Rattle.reasons.proofs.Findings.{one-answer}
use Rattle.judge.proofs.Accepted.{accepts}
use Rattle.judge.proofs.Places.{near}
use Rattle.judge.proofs.judge.Goals as goal

pub returns-clause-accepts : goal.returns-clause-accepts
returns-clause-accepts g c = accepts _ _ c.judge_parts.ensures

pub returns-clause-only : goal.returns-clause-only
returns-clause-only g c =
    let x = sheet_in c.args.figures (g.R.Rows.rows c.args.rows.now) c.args.links.now in
    λ other h. one-answer (findings desk x) other _ h c.judge_parts.ensures

pub returns-clause-place : goal.returns-clause-place
returns-clause-place g c =
    let x = sheet_in c.args.figures (g.R.Rows.rows c.args.rows.now) c.args.links.now in
    near x _ c.judge_parts.ensures
