-- To believe: a row as C holds it: way 0 is F, any other number is B.
use Rattle.ring.specs.Routing.{routed, sent, way_of}
use Rattle.ring.specs.declared.types.Routed.{Routed}
use Rattle.rows.specs.declared.sheet_row.SheetRow.{SheetRow}

-- the same row, as it is routed
abbrev pub routed_row : SheetRow → Routed
routed_row r = routed (sent r.first r.second r.amount r.front r.back) (way_of r.way)
