-- What is written piece by piece into a buffer is the whole text (`Written`): the laws of writing, at the pass that stores.
use Prim.Native.Nat.{ℕ}
use mathlib.Core.List.{List, ◌++◌}
use Rattle.text.specs.Written.{Written}
use Rattle.text.specs.PassesLawful.{writes}
use Rattle.text.proofs.Writing.{written_behind as passed_behind}

-- two writers, the second from where the first stopped
pub written_behind : (old mid new p q : List ℕ) (at r e : ℕ) → Written old at p mid r → Written mid r q new e → Written old at (p ++ q) new e
written_behind = passed_behind writes
