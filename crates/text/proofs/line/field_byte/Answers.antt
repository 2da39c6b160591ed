-- `text::line::field_byte` meets its contract: the bytes of the fields before it are few, and one more is its byte.
use Rattle.text.proofs.Starts.{before-fits, byte_fits}
use Rattle.std.proofs.Common.{rules}
use Rattle.text.proofs.line.field_byte.Goals as goal

pub overflow_cast-result : goal.overflow_cast-result
overflow_cast-result c = search before-fits

pub overflow_add-result : goal.overflow_add-result
overflow_add-result c = search (byte_fits, rules)
