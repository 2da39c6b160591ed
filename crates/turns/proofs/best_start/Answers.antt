-- The best start was the last, or is made again.
use Rattle.turns.proofs.StartSteps.{best_low, best_high, was_last, again_rows, again_figures}
use Rattle.turns.proofs.best_start.Goals as goal

pub from_start-requires-clause-fit : goal.from_start-requires-clause-fit
from_start-requires-clause-fit g c = rw c.try_starts-tried.ensures.last.demands c.requires.fit

pub from_start-requires-clause-triangle : goal.from_start-requires-clause-triangle
from_start-requires-clause-triangle g c = rw c.try_starts-tried.ensures.last.demands c.requires.triangle

pub from_start-requires-clause-low : goal.from_start-requires-clause-low
from_start-requires-clause-low g c = best_low _ _ c.requires.two _ c.try_starts-tried.ensures.best

pub from_start-requires-clause-high : goal.from_start-requires-clause-high
from_start-requires-clause-high g c = best_high _ _ c.requires.two _ c.try_starts-tried.ensures.best

pub returns-then-tried-clause-rows : goal.returns-then-tried-clause-rows
returns-then-tried-clause-rows g c = was_last _ _ c.requires.two _ c.try_starts-tried.ensures.best _ _ c.try_starts-tried.ensures.last c.if-tried.true

pub returns-else-tried-clause-rows : goal.returns-else-tried-clause-rows
returns-else-tried-clause-rows g c =
    again_rows _ _ c.requires.two _ c.try_starts-tried.ensures.best _ c.try_starts-tried.ensures.last.demands _ c.from_start.ensures.made.rows

pub returns-else-tried-clause-figures : goal.returns-else-tried-clause-figures
returns-else-tried-clause-figures g c =
    again_figures _ _ c.requires.two _ c.try_starts-tried.ensures.best _ c.try_starts-tried.ensures.last.demands _ c.from_start.ensures.made.is
