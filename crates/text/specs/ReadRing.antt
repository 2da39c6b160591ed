-- Internal: reading an R line: by SONET's shape, and where that refuses and an M may stand there, by SDH's; where both refuse, the first fault is the later of the two.
use Rattle.std.specs.Prelude.{ℕ, max, Bool, true, false, List, get_or, Result, Ok, Err}
use Rattle.family.specs.declared.family.Family.{Family}
use Rattle.family.specs.declared.family.Family.TheVariants.{Sonet, Sdh}
use Rattle.ring.specs.Ring.{ring_of}
use Rattle.ring.specs.declared.types.Ring.{Ring}
use Rattle.text.specs.Shapes.{ring_shape}
use Rattle.text.specs.RingLine.{marked_ring_shape}
use Rattle.text.specs.ReadLine.{Reading, read_line}

-- what the values of a family's R line say
abbrev pub ring_said : Family → List ℕ → Ring
ring_said family vs = ring_of (get_or vs 1 0) (get_or vs 2 0) family

-- what the two readings say together, where an R line may have an M or may not
unfoldable pub either_said : Reading → Bool → Reading → Result Ring ℕ
either_said (Ok vs) marks marked = Ok (ring_said Sonet vs)
either_said (Err p) false marked = Err p
either_said (Err p) true (Ok vs) = Ok (ring_said Sdh vs)
either_said (Err p) true (Err q) = Err (max p q)

-- the whole text s as an R line
unfoldable pub read_ring : Bool → ℕ → List ℕ → Result Ring ℕ
unfolding either_said
read_ring marks most s = either_said (read_line most ring_shape s) marks (read_line most marked_ring_shape s)
