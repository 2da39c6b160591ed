-- Each number is a u32, so the lines have few bytes (`Short`).
use Rattle.std.proofs.Common.{arith}
use Rattle.report.proofs.Short.{totals-wide, report-measurable}
use Rattle.report.proofs.write.report_length.Goals as goal

pub write_lines-requires : goal.write_lines-requires
write_lines-requires c =
    report-measurable c.args.report
    (totals-wide c.args.report.sonet (omega arith) (omega arith) (omega arith) (omega arith))
    (totals-wide c.args.report.sdh (omega arith) (omega arith) (omega arith) (omega arith))
    (omega arith)
