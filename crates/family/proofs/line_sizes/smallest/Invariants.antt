-- `family::line_sizes::smallest` meets its contract. The loop keeps that the answer of the sizes not yet seen is the answer of all.
use Rattle.std.proofs.Common.{◌≡◌, drop}
use Rattle.family.specs.Size.{smallest_in}
use Rattle.family.proofs.line_sizes.smallest.Given as goal

abbrev pub invariant-loop-size : goal.invariant-loop-size
invariant-loop-size l = smallest_in (drop l.size-index l.sizes) l.peak ≡ smallest_in l.sizes l.peak
