-- A way more.
use Rattle.std.proofs.Common.{rules}
use Rattle.ringkit.proofs.TurnCalls.{put_turned}
use Rattle.ringkit.proofs.turning.put_ways.Goals as goal

pub loop-place-preserved : goal.loop-place-preserved
loop-place-preserved g c =
    let steps = c.in-Some.ensures.steps in
    put_turned _ _ _ _ _ c.requires (search rules) c.loop-place.invariant _ _ steps.0 _ _ _ steps.1 c.number.ensures steps.2
