-- A text over the limit is given 24, and any other has its report (`ReportCalls`).
use Rattle.std.proofs.Common.{arith}
use Rattle.report_calls.proofs.ReportCalls.{too-long, reported}
use Rattle.report_calls.proofs.make_report.Goals as goal

pub returns-then-sheets-gt-MOST_BYTES : goal.returns-then-sheets-gt-MOST_BYTES
returns-then-sheets-gt-MOST_BYTES c = rw c.whole.ensures (too-long c.args.sheets.now (omega (arith, c.if-sheets-gt-MOST_BYTES.true)) c.args.buffer.now)

pub returns : goal.returns
returns c = reported c.args.sheets.now (omega (arith, c.if-sheets-gt-MOST_BYTES.false)) _ c.report.ensures _ _ _ c.put_report.ensures
