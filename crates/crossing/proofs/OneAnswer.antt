-- Of rows there is one answer: rows of which two with amounts are parallel do not all cross, there is one first pair, and the rows with amounts are at most 16 or more.
use Prim.Native.Nat.{ℕ}
use mathlib.Core.List.{List}
use mathlib.Core.Path.{refl, ap₂}
use native.Mathlib.Omega.{arith}
use Rattle.ring.specs.declared.types.Demand.{Demand}
use Rattle.crossing.specs.AllCross.{AllCross, FirstParallel}
use Rattle.crossing.specs.Crossing.{all, parallel, many}
use Rattle.crossing.specs.Laws.{OneAnswer}
use Rattle.crossing.specs.declared.crossing.Crossing.TheVariants.{Parallel}
use Rattle.crossing.proofs.AmountPairs.{no-parallel}
use Rattle.crossing.proofs.FirstPairs.{same_first}

apart : {rs : List Demand} {p q : ℕ} → AllCross rs → FirstParallel rs p q → ⊥
apart cross f = no-parallel _ cross _ _ f.are

pub one-answer : OneAnswer
one-answer n rs a b (all c l) (all d m) = refl
one-answer n rs a b (all c l) (parallel f) = absurd (apart c f)
one-answer n rs a b (all c l) (many d m) = absurd (omega (arith, l, m))
one-answer n rs a b (parallel f) (all d m) = absurd (apart d f)
one-answer n rs a b (parallel f) (parallel g) = let e = same_first f g in ap₂ Parallel e.0 e.1
one-answer n rs a b (parallel f) (many d m) = absurd (apart d f)
one-answer n rs a b (many c l) (all d m) = absurd (omega (arith, l, m))
one-answer n rs a b (many c l) (parallel f) = absurd (apart c f)
one-answer n rs a b (many c l) (many d m) = refl
