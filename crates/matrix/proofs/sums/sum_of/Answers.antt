-- The first rows are read as a list, and each adds its part.
use Rattle.std.proofs.Common.{◌∙◌, drop, take, rules}
use borrow.Author.Tests.{tests}
use Rattle.std.specs.Iterator.{YieldsFirst}
use Rattle.std.specs.Iterator.Adapters.{take_steps}
use Rattle.std.proofs.lemmas.Iterator.{YieldsList, YieldsList-from_take, YieldsList-from_map}
use Rattle.std.proofs.lemmas.Iterator.Consumers.{YieldsList-at, YieldsList-from_first, sum_by_from_yields_List, fits_by_from_yields_list}
use Rattle.ring.specs.Sheet.{sents, demands}
use Rattle.matrix.proofs.SumLaws.{part_of}
use Rattle.matrix.proofs.WriteSteps.{first-fits}
use Rattle.matrix.proofs.SumSteps.{sums-parts}
use Rattle.matrix.proofs.sums.sum_of.Given as given
use Rattle.matrix.proofs.sums.sum_of.Goals.{After-map}
use Rattle.matrix.proofs.sums.sum_of.Goals as goal

first_rows : (g : given.Over) (c : After-map g) → YieldsList (take_steps (YieldsFirst (λ e. drop e.seen (g.R.Rows.rows e.rows.now)))) (λ r. r) c.map.result.iter (take c.args.count (g.R.Rows.rows c.args.rows.now))
first_rows g c =
    let left = YieldsList-from_first (λ r. r) (λ e. drop e.seen (g.R.Rows.rows e.rows.now)) _ c.each.ensures in
    YieldsList-at c.map.ensures.source (YieldsList-from_take _ (YieldsList-at c.take.ensures.source left) c.take.ensures.count)

pub sum-requires-clause-fits : goal.sum-requires-clause-fits
sum-requires-clause-fits g c =
    let rows = g.R.Rows.rows c.args.rows.now in
    let parts = YieldsList-from_map _ _ (first_rows g c) c.map.ensures.closure (λ x r q k. search (rules, tests)) in
    fits_by_from_yields_list (λ r. part_of r.sent.demand c.args.i c.args.j) (take c.args.count rows) _ 4294967296 parts
    (rw (sums-parts c.args.i c.args.j c.args.count rows) (first-fits (demands (sents rows)) c.requires c.args.count c.args.i c.args.j))

pub returns : goal.returns
returns g c =
    let parts = YieldsList-from_map _ _ (first_rows g (goal.at.returns g c).After-map) c.map.ensures.closure (λ x r q k. search (rules, tests)) in
    sum_by_from_yields_List _ _ c.map.result _ c.sum.ensures.ran parts ∙ sums-parts c.args.i c.args.j c.args.count (g.R.Rows.rows c.args.rows.now)
