-- The links are numbered, and the loop goes through the rows once (`Weighing`).
use Rattle.std.proofs.Common.{arith, rules}
use Rattle.weight.proofs.Weighing.{number_start, number_turn, weigh_start, weigh_fits, weigh_more, links-done}
use Rattle.weight.proofs.carry.Goals as goal

pub loop-k-init : goal.loop-k-init
loop-k-init g c = number_start _ _ c.requires.fit _ c.requires.none

pub loop-k-preserved : goal.loop-k-preserved
loop-k-preserved g c = number_turn _ _ c.requires.fit _ _ c.loop-k.invariant (omega (arith, c.loop-k-test.true, c.loop-k.auto.link-items, c.loop-k.invariant.size)) _

pub loop-row-init : goal.loop-row-init
loop-row-init g c =
    weigh_start _ _ c.requires.fit _ c.requires.none _ _ c.loop-k.invariant (omega (arith, c.loop-k-test.false, c.loop-k.auto.link-items, c.loop-k.invariant.size)) _ (search rules) _ (search rules)

pub step_over-requires : goal.step_over-requires
step_over-requires g c =
    weigh_fits _ _ c.requires.fit _ _ _ _ c.in-Some.ensures.steps c.loop-row.invariant _ _ c.whole-front.ensures.front c.whole-front.ensures.back (λ x p q. search rules) (λ x p q. search rules)

pub loop-row-preserved : goal.loop-row-preserved
loop-row-preserved g c =
    weigh_more _ _ c.requires.fit _ _ _ _ c.in-Some.ensures.steps c.loop-row.invariant _ _ c.whole-front.ensures.front c.whole-front.ensures.back (λ x y p. search rules) (λ x y p. search rules) _ c.step_over.ensures _ (search rules)

pub returns : goal.returns
returns g c = links-done _ _ c.requires.fit _ _ c.in-None.ensures.steps.0 c.loop-row.invariant
