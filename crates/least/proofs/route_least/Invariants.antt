-- `route_least` keeps the least of the rules that were tried, and the demands.
use Rattle.ring.specs.Sheet.{sents, demands}
use Rattle.least.proofs.Seeking.{Trying}
use Rattle.least.proofs.route_least.Given as goal

abbrev pub invariant-loop-rule : goal.invariant-loop-rule
invariant-loop-rule g l = Trying l.ring.nodes (demands (sents (g.R.Rows.rows l.initial.rows))) (g.R.Rows.rows l.rows) l.least l.rule-index
