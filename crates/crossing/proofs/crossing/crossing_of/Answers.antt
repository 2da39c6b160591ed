-- Each way out is one answer, of the demands of the rows that are halved.
use Rattle.std.proofs.Common.{arith}
use Rattle.crossing.proofs.Steps.{same-demands, rows-few, amount-small, most-small, is-parallel, is-many, is-all}
use Rattle.crossing.proofs.crossing.crossing_of.Goals as goal

pub returns-in-Are-clause-crossing : goal.returns-in-Are-clause-crossing
returns-in-Are-clause-crossing g c = is-parallel _ _ _ c.halve.ensures _ c.first_pair.ensures _ _ c.in-Are.is

pub count_split-requires : goal.count_split-requires
count_split-requires g c = rows-few c.args.nodes _ _ c.halve.ensures c.requires.fit

pub returns-then-count_split-gt-MOST_SPLIT-clause-crossing : goal.returns-then-count_split-gt-MOST_SPLIT-clause-crossing
returns-then-count_split-gt-MOST_SPLIT-clause-crossing g c =
    is-many _ _ _ c.halve.ensures _ c.first_pair.ensures c.in_default.is _ c.count_split.ensures (omega (arith, c.if-count_split-gt-MOST_SPLIT.true))

pub fill-requires-clause-fit : goal.fill-requires-clause-fit
fill-requires-clause-fit g c = let e = same-demands c.args.nodes _ _ c.halve.ensures in rw e c.requires.fit

pub overflow_mul-result : goal.overflow_mul-result
overflow_mul-result g c = omega (arith, amount-small c.args.nodes _ _ c.halve.ensures c.requires.fit _ c.largest_split.ensures)

pub overflow_add-result : goal.overflow_add-result
overflow_add-result g c =
    omega
    (arith, amount-small c.args.nodes _ _ c.halve.ensures c.requires.fit _ c.largest_split.ensures, most-small _ _ _ c.halve.ensures c.requires.fit c.requires.two _ _ c.fill.ensures c.largest_cut-most.ensures)

pub returns-clause-crossing : goal.returns-clause-crossing
returns-clause-crossing g c =
    is-all _ _ _ c.halve.ensures _ c.first_pair.ensures c.in_default.is _ c.count_split.ensures (omega (arith, c.if-count_split-gt-MOST_SPLIT.false)) c.requires.fit c.requires.two _ _
    c.fill.ensures c.largest_cut-most.ensures _ c.largest_split.ensures
