-- A line that is written to no buffer is measured.
use Rattle.text.proofs.Starts.{line-placed}
use Rattle.text.proofs.line.line_length.Goals as goal

pub write_line-requires-clause-room : goal.write_line-requires-clause-room
write_line-requires-clause-room c = search line-placed
