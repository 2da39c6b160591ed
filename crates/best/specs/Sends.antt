-- Internal: the way of the next row by what is left of a choice.
use Rattle.std.specs.Prelude.{◌≤◌, ◌∷◌, List, ◌≡◌}
use Rattle.ring.specs.Routing.{routed}
use Rattle.ring.specs.declared.types.Sent.{Sent}
use Rattle.ring.specs.declared.types.Way.{Way}
use Rattle.best.specs.Best.{splits}
use Rattle.best.specs.Choices.{choose}
use Rattle.best.specs.declared.send.Left.{Left}

-- whatever rows stand behind it, where so many of all are split
pub record NextWay (s : Sent) (old new : Left) (way : Way) : Type 0 where
  pub is : (ss : List Sent) → splits (s ∷ ss) ≡ old.split → choose old.choice (s ∷ ss) ≡ routed s way ∷ choose new.choice ss
  pub left : (ss : List Sent) → splits (s ∷ ss) ≡ old.split → splits ss ≡ new.split
  pub few : new.split ≤ old.split
