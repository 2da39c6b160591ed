-- A link more.
use Rattle.std.proofs.Common.{◌∙◌, ◌-◌, arith, drop}
use Rattle.std.proofs.lemmas.List.{get_or-take, get_or-drop, length-take}
use Rattle.turns.proofs.TopSteps.{top_turn}
use Rattle.turns.proofs.loads.top.Goals as goal

pub loop-load-preserved : goal.loop-load-preserved
loop-load-preserved c =
    top_turn c.args.loads.now c.args.p c.loop-load.load-index _ _ _ c.loop-load.invariant (get_or-take (c.args.q - c.args.p) _ c.loop-load.load-index 0 (omega (arith, c.loop-load-test.true, length-take (c.args.q - c.args.p) (drop c.args.p c.args.loads.now))) ∙ get_or-drop c.args.p c.args.loads.now c.loop-load.load-index 0) c.max-most.ensures
