-- The R line is behind the pass, and the rows behind it (`WriteSteps`).
use Rattle.ring.specs.Sheet.{sents, demands}
use Rattle.table.proofs.WriteSteps.{ring-placed, rows-placed, table-passed}
use Rattle.table.proofs.write.write_lines.Goals as goal

pub write_ring-next-requires : goal.write_ring-next-requires
write_ring-next-requires g c = ring-placed g.met.P.Pass.laws _ c.args.ring (demands (sents (g.R.Rows.rows c.args.rows.now))) c.requires

pub write_rows-requires : goal.write_rows-requires
write_rows-requires g c = rows-placed g.met.P.Pass.laws _ c.args.ring (demands (sents (g.R.Rows.rows c.args.rows.now))) c.requires _ _ c.write_ring-next.ensures

pub returns : goal.returns
returns g c = table-passed g.met.P.Pass.laws _ c.args.ring (demands (sents (g.R.Rows.rows c.args.rows.now))) c.requires _ _ c.write_ring-next.ensures _ _ c.write_rows.ensures
