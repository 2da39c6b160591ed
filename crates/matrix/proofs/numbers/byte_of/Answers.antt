-- The numbers before it are a part of the longest shape (`NumbersSteps`).
use Rattle.std.proofs.Common.{◌∙◌}
use Rattle.matrix.proofs.NumbersSteps.{byte-is}
use Rattle.matrix.proofs.numbers.byte_of.Goals as goal

pub returns : goal.returns
returns c = c.field_byte.ensures ∙ byte-is _ _ _ c.deref.ensures.0 c.len.ensures.value c.deref.ensures.1 c.args.k c.requires
