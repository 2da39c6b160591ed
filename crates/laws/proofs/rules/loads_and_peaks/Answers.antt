-- The test of a split row, and what a peak is (`Splits`, `Peaks`).
use Rattle.ring.proofs.Peaks.{peak-above, peak-attained}
use Rattle.laws.proofs.OfTables.{split-is}
use Rattle.laws.proofs.rules.loads_and_peaks.Goals as goal

pub returns-clause-split : goal.returns-clause-split
returns-clause-split c = split-is

pub returns-clause-above : goal.returns-clause-above
returns-clause-above c = peak-above

pub returns-clause-load : goal.returns-clause-load
returns-clause-load c = peak-attained
