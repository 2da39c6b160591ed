-- The numbers of a line in their array, and the lines of a square in its own: what a read gives and
-- what a write makes of them; and where an entry of a line starts.
use Prim.Native.Nat.{ℕ, zero, suc, ◌+◌, ◌-◌, ◌≤◌, ◌<◌}
use mathlib.Core.List.{List, [], ◌∷◌, ◌++◌, map}
use mathlib.Core.Path.{◌≡◌, refl, ap, ◌∙◌}
use native.Mathlib.Omega.{arith}
use lib.ListN.{length, get_or, set, take, length-map}
use lib.Seq.{take-set-lt, length-take-le, map-set}
use mir.Syntax.{w16}
use mir.Val.{Fits}
use Rattle.ring.specs.Limits.{desk}
use Rattle.ring.specs.Lists.{Each}
use Rattle.text.specs.Field.{spell}
use Rattle.text.specs.FieldByte.{field_byte}
use Rattle.text.specs.WriteLine.{end_of, write_line}
use Rattle.text.specs.Shapes.{numbers}
use Rattle.text.specs.declared.field.Field.{Field}
use Rattle.text.specs.declared.field.Field.TheVariants.{Number}
use Rattle.matrix.specs.Matrix.{entry_byte}
use Rattle.matrix.specs.Square.{lines_in, Sized}
use Rattle.matrix.specs.declared.square.Square.TheInside.{Inside}
use Rattle.matrix.proofs.LinesText.{each_at}

-- ---- the byte of an entry is found by a part of the longest shape

pub take-numbers : (n m : ℕ) → n ≤ m → take n (numbers m) ≡ numbers n
take-numbers zero m l = refl
take-numbers (suc n) zero l = absurd (omega arith)
take-numbers (suc n) (suc m) l = ap (λ (s : List Field). Number ∷ s) (take-numbers n m (omega arith))

-- values behind those of the shape are not written
first-written : (n : ℕ) (values : List ℕ) → n ≤ length values → write_line (numbers n) values ≡ write_line (numbers n) (take n values)
unfolding write_line
first-written zero values l = refl
first-written (suc n) [] l = absurd (omega arith)
first-written (suc n) (v ∷ values) l = ap (λ m. spell Number v ++ end_of (length (numbers n)) ∷ m) (first-written n values (omega arith))

-- the slice of the numbers, n in all
module _ (values slice : List ℕ) (n : ℕ) (es : slice ≡ values) (en : n ≡ length values) (few : length slice ≤ desk.nodes) where
  longest : take (length values) (numbers desk.nodes) ≡ numbers (length values)
  longest = take-numbers (length values) desk.nodes (rw es at few)

  pub byte-is : (k : ℕ) → k ≤ length values → field_byte (take n (numbers desk.nodes)) slice k ≡ entry_byte values k
  unfolding field_byte
  byte-is k there =
      let e : length (take k values) ≡ k = length-take-le k values there in
      rw (en, es, longest, take-numbers k (length values) there, e) (ap (λ l. length l + 1) (first-written k values there))

-- ---- numbers to entries: those before k are there

pub record Putting (numbers entries : List ℕ) (k : ℕ) : Type 0 where
  pub before : take k entries ≡ take k numbers
  pub room : length entries ≡ desk.nodes

module _ (numbers : List ℕ) (k : ℕ) (l : k < length numbers) where
  pub entry-fits : Each (λ v. v ≤ desk.amount) numbers → Fits w16 (get_or numbers k 0)
  entry-fits each = omega (arith, each_at each 0 k l)

-- ---- the lines of a square

module _ (s : Inside) (sized : Sized s) where
  pub lines-long : length (lines_in s) ≡ s.nodes
  lines-long = length-map (take s.nodes s.entries) (take s.nodes) ∙ length-take-le s.nodes s.entries (omega (arith, sized.few, sized.tall))

  module _ (i : ℕ) (low : 1 ≤ i) (high : i ≤ s.nodes) where
    -- another line
    pub line-put : (values numbers : List ℕ) → take (length numbers) values ≡ numbers → length numbers ≡ s.nodes
        → lines_in (record { nodes = s.nodes; entries = set s.entries (i - 1) values }) ≡ set (lines_in s) (i - 1) numbers
    line-put values numbers e w =
        ap (map (take s.nodes)) (take-set-lt s.nodes s.entries (i - 1) values (omega arith))
        ∙ map-set (take s.nodes) (take s.nodes s.entries) (i - 1) values ∙ ap (set (lines_in s) (i - 1)) (rw w at e)
