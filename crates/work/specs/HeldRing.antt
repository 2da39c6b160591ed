-- To believe: a ring as a struct holds it, in numbers: family 0 is SONET, any other number is SDH.
use Rattle.family.specs.Sizes.{family_of}
use Rattle.ring.specs.Ring.{ring_of}
use Rattle.ring.specs.declared.types.Ring.{Ring}
use Rattle.work.specs.declared.held_ring.HeldRing.{HeldRing}

-- the same ring, with its family told by name
abbrev pub ring_held : HeldRing → Ring
ring_held r = ring_of r.nodes r.fibres (family_of r.family)
