-- The pairs of four rows, written out (`places-of-four`).
use Rattle.ring.proofs.Order.{places-of-four}
use Rattle.laws.proofs.rules.places_of_four.Goals as goal

pub returns : goal.returns
returns c = places-of-four
