-- To believe: a ring as its R line says it: its nodes, its fibres and its family of line sizes.
use Rattle.std.specs.Prelude.{ℕ}
use Rattle.family.specs.declared.family.Family.{Family}
pub use Rattle.ring.specs.declared.types.Ring.{Ring}

-- the ring of n nodes and so many fibres, of a family
abbrev pub ring_of : ℕ → ℕ → Family → Ring
ring_of n fibres family = record { nodes = n; fibres = fibres; family = family }
