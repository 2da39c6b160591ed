-- The figures are those of the rows' weight.
use Rattle.router.proofs.FourRules.{carried, figures-are}
use Rattle.router.proofs.figured.Goals as goal

pub line_size-size-requires : goal.line_size-size-requires
line_size-size-requires g c = carried c.args.ring c.args.cut _ c.requires _ c.weigh-unsplit_peak.ensures

pub returns : goal.returns
returns g c = figures-are c.args.ring c.args.cut _ c.requires _ c.weigh-unsplit_peak.ensures _ c.line_size-size.ensures
