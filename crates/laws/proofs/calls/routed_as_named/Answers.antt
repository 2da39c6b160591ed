-- A working table, routed (`routed-as-named`).
use Rattle.ringkit.proofs.WorkCalls.{routed-as-named}
use Rattle.laws.proofs.calls.routed_as_named.Goals as goal

pub returns : goal.returns
returns c = routed-as-named
