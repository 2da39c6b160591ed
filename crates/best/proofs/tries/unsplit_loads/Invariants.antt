-- The loads of the links passed.
use Rattle.std.proofs.Common.{ℕ, ◌≡◌, ◌<◌, get_or}
use Rattle.weight.specs.Weighed.{no_link}
use Rattle.best.proofs.tries.unsplit_loads.Given as goal

abbrev pub invariant-loop-k : goal.invariant-loop-k
invariant-loop-k l = (x : ℕ) → x < l.k → get_or l.load-items x 0 ≡ (get_or l.links x no_link).unsplit
