-- The start comes to the ways that were noted, or is made.
use Rattle.std.proofs.Common.{refl}
use Rattle.turns.proofs.StartSteps.{small_amounts, start_carries, start_fits, start_wholes, start_small, start_on, mid_keeps, on_way, new_keeps, start_made}
use Rattle.turns.proofs.try_start.Goals as goal

pub route_avoiding-requires : goal.route_avoiding-requires
route_avoiding-requires g c = search small_amounts

pub settle-turns-requires-clause-fit : goal.settle-turns-requires-clause-fit
settle-turns-requires-clause-fit g c = start_fits _ _ _ _ c.route_avoiding.ensures _ c.avoid.ensures.size c.requires.fit

pub settle-turns-requires-clause-carries : goal.settle-turns-requires-clause-carries
settle-turns-requires-clause-carries g c = start_carries _ _ _ c.requires.triangle _ c.requires.low c.requires.high _ _ c.avoid.ensures.size c.route_avoiding.ensures c.avoid.ensures.carries

pub settle-turns-requires-clause-whole : goal.settle-turns-requires-clause-whole
settle-turns-requires-clause-whole g c = start_wholes _ _ _ _ c.route_avoiding.ensures _ c.avoid.ensures.size c.requires.fit

pub settle-turns-requires-clause-small : goal.settle-turns-requires-clause-small
settle-turns-requires-clause-small g c = start_small _ _ _ _ c.route_avoiding.ensures _ c.avoid.ensures.size c.requires.fit

pub returns-then-same_ways-clause-demands : goal.returns-then-same_ways-clause-demands
returns-then-same_ways-clause-demands g c = mid_keeps _ _ _ _ _ _ (start_on _ _ _ _ c.route_avoiding.ensures _ c.avoid.ensures.size c.requires.fit _ _ _ _ c.settle-turns.ensures)

pub returns-then-same_ways-clause-tried : goal.returns-then-same_ways-clause-tried
returns-then-same_ways-clause-tried g c = record { rows = _; on = on_way _ _ _ _ _ _ (start_on _ _ _ _ c.route_avoiding.ensures _ c.avoid.ensures.size c.requires.fit _ _ _ _ c.settle-turns.ensures); same = c.same_ways.ensures.same c.if-same_ways.true; kept = refl }

pub returns-clause-demands : goal.returns-clause-demands
returns-clause-demands g c = new_keeps _ _ _ _ _ _ (start_on _ _ _ _ c.route_avoiding.ensures _ c.avoid.ensures.size c.requires.fit _ _ _ _ c.settle-turns.ensures) _ _ _ c.finish.ensures.settles c.finish.ensures.peak c.finish.ensures.link

pub returns-clause-tried : goal.returns-clause-tried
returns-clause-tried g c = start_made _ _ _ _ _ _ (start_on _ _ _ _ c.route_avoiding.ensures _ c.avoid.ensures.size c.requires.fit _ _ _ _ c.settle-turns.ensures) _ _ _ c.finish.ensures.settles c.finish.ensures.peak c.finish.ensures.link _ c.finish.ensures.noted
