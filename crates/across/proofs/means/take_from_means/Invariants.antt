-- Those of the pairs passed are taken from means.
use Rattle.std.proofs.Common.{◌≡◌}
use Rattle.across.specs.Cells.{cell}
use Rattle.across.proofs.MeanSteps.{Meaning}
use Rattle.across.proofs.means.take_from_means.Given as goal

abbrev pub invariant-loop-h : goal.invariant-loop-h
invariant-loop-h l = Meaning l.fn.triangle l.h 0 l.triangle

abbrev pub invariant-loop-g : goal.invariant-loop-g
invariant-loop-g l = record { so_far : Meaning l.fn.triangle l.h l.g l.triangle; own : l.own ≡ cell l.fn.triangle l.h l.h }
