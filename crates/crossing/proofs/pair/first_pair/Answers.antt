-- `first_pair` is the first pair: where its scans stand, the answer over the rows that are left is the answer over all.
use Rattle.crossing.proofs.PairSteps.{firsts-start, seconds-start, seconds-turn, seconds-done, pair_found, none_found}
use Rattle.std.proofs.Common.{rules}
use Rattle.crossing.proofs.pair.first_pair.Goals as goal

pub search-init : goal.search-init
search-init g c = search firsts-start

pub loop-b-init : goal.loop-b-init
loop-b-init g c = search seconds-start

pub loop-b-preserved : goal.loop-b-preserved
loop-b-preserved g c = search seconds-turn

pub search-preserved : goal.search-preserved
search-preserved g c = search (seconds-done, rules)

pub returns-after-search : goal.returns-after-search
returns-after-search g c = search (none_found, rules)

pub returns-then-clashes : goal.returns-then-clashes
returns-then-clashes g c = search pair_found
