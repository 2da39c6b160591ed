-- The three lines of a report, one behind the other (`WriteSteps`).
use Rattle.report.proofs.WriteSteps.{sonet-placed, sdh-placed, at-refused}
use Rattle.report.proofs.write.write_lines.Goals as goal

pub write_totals-sonet-requires : goal.write_totals-sonet-requires
write_totals-sonet-requires g c = sonet-placed c.args.report g.met.P.Pass.laws c.requires

pub write_totals-both-requires : goal.write_totals-both-requires
write_totals-both-requires g c = sdh-placed c.args.report g.met.P.Pass.laws c.requires c.write_totals-sonet.ensures

pub write_line-requires-clause-room : goal.write_line-requires-clause-room
write_line-requires-clause-room g c = (at-refused c.args.report g.met.P.Pass.laws c.requires c.write_totals-sonet.ensures c.write_totals-both.ensures).fits

pub returns : goal.returns
returns g c = (at-refused c.args.report g.met.P.Pass.laws c.requires c.write_totals-sonet.ensures c.write_totals-both.ensures).goes _ _ c.write_line.ensures
