-- What the start that avoids a link leads to.
use Rattle.turns.proofs.StartSteps.{small_amounts, start_carries, start_fits, start_wholes, start_small, at_start, new_keeps, start_made}
use Rattle.turns.proofs.from_start.Goals as goal

pub route_avoiding-requires : goal.route_avoiding-requires
route_avoiding-requires g c = search small_amounts

pub finish-requires-clause-fit : goal.finish-requires-clause-fit
finish-requires-clause-fit g c = start_fits _ _ _ _ c.route_avoiding.ensures _ c.avoid.ensures.size c.requires.fit

pub finish-requires-clause-carries : goal.finish-requires-clause-carries
finish-requires-clause-carries g c = start_carries _ _ _ c.requires.triangle _ c.requires.low c.requires.high _ _ c.avoid.ensures.size c.route_avoiding.ensures c.avoid.ensures.carries

pub finish-requires-clause-whole : goal.finish-requires-clause-whole
finish-requires-clause-whole g c = start_wholes _ _ _ _ c.route_avoiding.ensures _ c.avoid.ensures.size c.requires.fit

pub finish-requires-clause-small : goal.finish-requires-clause-small
finish-requires-clause-small g c = start_small _ _ _ _ c.route_avoiding.ensures _ c.avoid.ensures.size c.requires.fit

pub returns-clause-demands : goal.returns-clause-demands
returns-clause-demands g c = new_keeps _ _ _ _ _ _ (at_start _ _ _ _ c.route_avoiding.ensures _ c.avoid.ensures.size c.requires.fit (start_carries _ _ _ c.requires.triangle _ c.requires.low c.requires.high _ _ c.avoid.ensures.size c.route_avoiding.ensures c.avoid.ensures.carries)) _ _ _ c.finish.ensures.settles c.finish.ensures.peak c.finish.ensures.link

pub returns-clause-made : goal.returns-clause-made
returns-clause-made g c = start_made _ _ _ _ _ _ (at_start _ _ _ _ c.route_avoiding.ensures _ c.avoid.ensures.size c.requires.fit (start_carries _ _ _ c.requires.triangle _ c.requires.low c.requires.high _ _ c.avoid.ensures.size c.route_avoiding.ensures c.avoid.ensures.carries)) _ _ _ c.finish.ensures.settles c.finish.ensures.peak c.finish.ensures.link _ c.finish.ensures.noted
