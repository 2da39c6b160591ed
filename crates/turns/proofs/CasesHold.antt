-- The cases all hold, by computing the definitions.
use mathlib.Core.Path.{refl}
use Rattle.turns.specs.Cases.{cases, computed, CasesHold}

pub cases-hold : CasesHold
unfolding cases computed
cases-hold = refl
