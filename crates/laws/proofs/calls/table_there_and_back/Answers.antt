-- Reading a table and writing it (`table-rewritten`).
use Rattle.ringkit.proofs.TableCalls.{table-rewritten}
use Rattle.laws.proofs.calls.table_there_and_back.Goals as goal

pub returns : goal.returns
returns c = table-rewritten
