-- A report is written where it has room, else refused (`FillSteps`).
use Rattle.std.proofs.lemmas.Result.{err_from_is_err_and}
use Rattle.ringkit.proofs.FillSteps.{text-refused, text-fills, text-has-room}
use Rattle.report_calls.proofs.put_report.Goals as goal

pub returns-in_err-ask_room : goal.returns-in_err-ask_room
returns-in_err-ask_room c =
    let p = err_from_is_err_and c.from_residual.result c.from_residual.ensures.1 in
    rw (p.1, p.2) (text-refused _ _ _ c.report_length.ensures _ c.ask_room.ensures _ c.in_err-ask_room.was)

pub write_report-requires : goal.write_report-requires
write_report-requires c = text-has-room _ _ _ c.report_length.ensures _ c.ask_room.ensures c.in_ok-ask_room.was

pub returns : goal.returns
returns c = text-fills _ _ _ c.report_length.ensures _ c.ask_room.ensures c.in_ok-ask_room.was _ _ c.write_report.ensures
