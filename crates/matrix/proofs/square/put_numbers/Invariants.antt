-- The entries passed are taken.
use Rattle.std.proofs.Common.{◌≡◌, take}
use Rattle.matrix.proofs.square.put_numbers.Given as goal

abbrev pub invariant-loop-entry : goal.invariant-loop-entry
invariant-loop-entry l = l.numbers.items ≡ take l.entry-index l.entries
