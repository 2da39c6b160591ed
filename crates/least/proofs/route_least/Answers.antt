-- Rule after rule the least is kept; the rows go by it again unless it is the turns, which are tried last (`Seeking`).
use Rattle.std.proofs.Common.{refl, arith}
use Rattle.engines.specs.declared.Engine.TheVariants.{Lowered}
use Rattle.least.proofs.Goes.{goes-turned, goes-rule-D, floor-is}
use Rattle.least.proofs.Seeking.{trying-starts, trying-turns, next-number, turns-least, again-least, no-peak-below}
use Rattle.least.proofs.route_least.Goals as goal

pub loop-rule-init : goal.loop-rule-init
loop-rule-init g c = trying-starts _ _ _ _ (rw c.route-plan.ensures.demands (goes-rule-D Lowered c.args.ring _ _ c.route-plan.ensures.plan _ refl _ c.route-plan.ensures.rows)) refl

pub loop-rule-preserved : goal.loop-rule-preserved
loop-rule-preserved g c =
    trying-turns _ _ _ _ _ c.loop-rule.invariant _ (next-number c.loop-rule.rule-index c.loop-rule-test.true) _ _ c.go_by.ensures.demands c.go_by.ensures.goes _ c.against-least.ensures

pub returns-then-peak-least-clause-least : goal.returns-then-peak-least-clause-least
returns-then-peak-least-clause-least g c =
    let t = rw c.route-plan.ensures.demands at c.loop-rule.invariant in
    turns-least _ _ _ _ _ t (omega (arith, c.loop-rule-test.false, c.loop-rule.auto.rule-index-end)) _ (floor-is Lowered c.args.ring _ _ c.route-plan.ensures.plan _ c.div_ceil-floor.ensures)
    _ _ (rw t.same at (goes-turned c.args.ring _ _ _ refl c.turn_rows-peak.ensures.rows _ c.turn_rows-peak.ensures.peak)) (omega (arith, c.if-peak-least.true))

pub returns-then-peak-least-clause-floor : goal.returns-then-peak-least-clause-floor
returns-then-peak-least-clause-floor g c =
    rw (floor-is Lowered c.args.ring _ _ c.route-plan.ensures.plan _ c.div_ceil-floor.ensures) (no-peak-below c.args.ring.nodes _ c.requires.two)

pub returns-clause-least : goal.returns-clause-least
returns-clause-least g c =
    let t = rw c.route-plan.ensures.demands at c.loop-rule.invariant in
    again-least _ _ _ _ _ t (omega (arith, c.loop-rule-test.false, c.loop-rule.auto.rule-index-end)) _ (floor-is Lowered c.args.ring _ _ c.route-plan.ensures.plan _ c.div_ceil-floor.ensures)
    _ _ (rw t.same at (goes-turned c.args.ring _ _ _ refl c.turn_rows-peak.ensures.rows _ c.turn_rows-peak.ensures.peak)) (omega (arith, c.if-peak-least.false))
    _ _ (rw (c.turn_rows-peak.ensures.demands, t.same) at c.go_by-2.ensures.goes)

pub returns-clause-floor : goal.returns-clause-floor
returns-clause-floor g c = rw (floor-is Lowered c.args.ring _ _ c.route-plan.ensures.plan _ c.div_ceil-floor.ensures) (no-peak-below c.args.ring.nodes _ c.requires.two)
