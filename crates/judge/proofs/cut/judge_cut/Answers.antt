-- The across number fits.
use Rattle.judge.proofs.Across.{across_fits}
use Rattle.judge.proofs.cut.judge_cut.Goals as goal

pub across-requires : goal.across-requires
across-requires g c = across_fits _ _ c.requires _ _
