-- To believe: the R line of a ring of either family: SONET's has no third field, SDH's has the letter M behind the fibres; and the first faulty byte of what is neither.
use Rattle.std.specs.Prelude.{ℕ, ◌+◌, ◌<◌, ◌≡◌, Bool, List, [], ◌∷◌}
use Rattle.family.specs.declared.family.Family.{Family}
use Rattle.family.specs.declared.family.Family.TheVariants.{Sonet, Sdh}
use Rattle.family.specs.Sizes.{Known}
use Rattle.ring.specs.declared.types.Ring.{Ring}
use Rattle.text.specs.Bytes.{letter_r, letter_m}
use Rattle.text.specs.Number.{limit}
use Rattle.text.specs.Shapes.{ring_shape}
use Rattle.text.specs.WriteLine.{write_line}
use Rattle.text.specs.FieldByte.{field_byte}
use Rattle.text.specs.FirstFault.{Agrees}
use Rattle.text.specs.declared.field.Field.{Field}
use Rattle.text.specs.declared.field.Field.TheVariants.{Letter, Number}

-- R n fibres M
abbrev pub marked_ring_shape : List Field
marked_ring_shape = Letter letter_r ∷ Number ∷ Number ∷ Letter letter_m ∷ []

-- the shape of a family's R line
abbrev pub ring_shape_of : Family → List Field
ring_shape_of Sonet = ring_shape
ring_shape_of Sdh = marked_ring_shape

-- and its values: a letter's is 0
abbrev pub ring_values_of : Family → ℕ → ℕ → List ℕ
ring_values_of Sonet n fibres = 0 ∷ n ∷ fibres ∷ []
ring_values_of Sdh n fibres = 0 ∷ n ∷ fibres ∷ 0 ∷ []

-- the R line of a ring
abbrev pub ring_line : Ring → List ℕ
ring_line ring = write_line (ring_shape_of ring.family) (ring_values_of ring.family ring.nodes ring.fibres)

-- the byte of that line where a field starts; the letter R is field 0
abbrev pub ring_byte : Ring → ℕ → ℕ
ring_byte ring k = field_byte (ring_shape_of ring.family) (ring_values_of ring.family ring.nodes ring.fibres) k

-- s is the R line of this ring, its numbers of at most so many digits, where it may have an M or may not
pub record RingLineIs (marks : Bool) (most : ℕ) (s : List ℕ) (ring : Ring) : Type 0 where
  pub known : Known marks ring.family
  pub text : s ≡ ring_line ring
  pub nodes : ring.nodes < limit most
  pub fibres : ring.fibres < limit most

-- ---- the first faulty byte

-- some R line of a family has the first k bytes of s (and where s has fewer, ends where s ends)
pub record RingAgrees (marks : Bool) (most : ℕ) (s : List ℕ) (k : ℕ) : Type 0 where
  pub family : Family
  pub known : Known marks family
  pub line : Agrees most (ring_shape_of family) s k

-- p is the place of the first faulty byte: an R line of some family may begin with the bytes before it, and none with it too
pub record RingFault (marks : Bool) (most : ℕ) (s : List ℕ) (p : ℕ) : Type 0 where
  pub before : RingAgrees marks most s p
  pub here : RingAgrees marks most s (p + 1) → ⊥
