-- `scan` finds the largest cut: where its loops stand, the scan of what is left gives it.
use Rattle.std.proofs.Common.{◌+◌}
use Rattle.across.specs.Triangle.{at}
use Rattle.across.proofs.CutSteps.{Firsts, Seconds}
use Rattle.across.proofs.cut.scan.Given as goal

abbrev pub invariant-loop-h : goal.invariant-loop-h
invariant-loop-h l = Seconds (λ g h. at l.triangle g (h + l.beyond)) l.n l.best_g l.best_h l.best l.g l.h

abbrev pub invariant-loop-g : goal.invariant-loop-g
invariant-loop-g l = Firsts (λ g h. at l.triangle g (h + l.beyond)) l.n l.best_g l.best_h l.best l.g
