-- The five parts of a sheet, one behind the other (`WriteSteps`).
use Rattle.sheet.proofs.WriteSteps.{ring-placed, rows-placed, cut-placed, links-placed, at-last}
use Rattle.sheet.proofs.write.write_lines.Goals as goal

pub write_ring-ring-requires : goal.write_ring-ring-requires
write_ring-ring-requires g c = ring-placed c.args.figures _ _ g.met.P.Pass.laws c.requires

pub write_rows-lines-requires : goal.write_rows-lines-requires
write_rows-lines-requires g c = rows-placed c.args.figures _ _ g.met.P.Pass.laws c.requires c.write_ring-ring.ensures

pub write_line-cut-requires-clause-room : goal.write_line-cut-requires-clause-room
write_line-cut-requires-clause-room g c = cut-placed c.args.figures _ _ g.met.P.Pass.laws c.requires c.write_ring-ring.ensures c.write_rows-lines.ensures

pub write_links-loads-requires : goal.write_links-loads-requires
write_links-loads-requires g c =
    links-placed c.args.figures _ _ g.met.P.Pass.laws c.requires c.write_ring-ring.ensures c.write_rows-lines.ensures c.write_line-cut.ensures

pub write_line-requires-clause-room : goal.write_line-requires-clause-room
write_line-requires-clause-room g c =
    (at-last c.args.figures _ _ g.met.P.Pass.laws c.requires c.write_ring-ring.ensures c.write_rows-lines.ensures c.write_line-cut.ensures c.write_links-loads.ensures).fits

pub returns : goal.returns
returns g c =
    (at-last c.args.figures _ _ g.met.P.Pass.laws c.requires c.write_ring-ring.ensures c.write_rows-lines.ensures c.write_line-cut.ensures c.write_links-loads.ensures).goes _ _ c.write_line.ensures
