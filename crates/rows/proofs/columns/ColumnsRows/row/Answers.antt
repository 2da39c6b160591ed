-- the row at a place is read column by column
use Rattle.std.proofs.Common.{◌∙◌, ap, Some, length, arith}
use Rattle.std.proofs.lemmas.Option.{slice_get-get_or}
use Rattle.rows.specs.Columns.{row_of}
use Rattle.rows.proofs.Places.{length_rows, row-read}
use Rattle.rows.proofs.columns.ColumnsRows.row.Goals as goal

pub returns : goal.returns
returns c =
    let n = length_rows c.self.inside in
    let e = ap length c.self.view_is in
    let r = row_of c.self.inside c.args.k in
    rw (← c.self.view_is) (slice_get-get_or _ c.args.k r (omega arith) ∙ ap Some (row-read c.self.inside c.args.k r (omega arith)))
