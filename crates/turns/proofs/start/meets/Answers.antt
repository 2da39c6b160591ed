-- The rows are read as a list, and each is asked.
use Rattle.std.proofs.Common.{◌∙◌, drop, rules}
use borrow.Author.Tests.{tests}
use Rattle.std.specs.Iterator.{YieldsFirst}
use Rattle.std.proofs.lemmas.Iterator.{YieldsList}
use Rattle.std.proofs.lemmas.Iterator.Consumers.{YieldsList-from_first}
use Rattle.std.proofs.lemmas.Iterator.Search.{any_from_yields_List}
use Rattle.turns.specs.Starts.{sends_at}
use Rattle.turns.proofs.SameStarts.{some_meets}
use Rattle.turns.proofs.start.meets.Goals as goal

pub returns : goal.returns
returns g c =
    let left : YieldsList (YieldsFirst (λ e. drop e.seen (g.R.Rows.rows e.rows.now))) (λ r. r) c.each.result (g.R.Rows.rows c.args.rows.now) = YieldsList-from_first (λ r. r) (λ e. drop e.seen (g.R.Rows.rows e.rows.now)) _ c.each.ensures in
    any_from_yields_List (λ r. sends_at r.sent.demand c.args.node) c.any.new.self _ c.any.result c.any.ensures.ran left (λ x r q k. search (rules, tests)) ∙ some_meets c.args.node (g.R.Rows.rows c.args.rows.now)
