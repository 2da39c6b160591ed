-- Where a field starts: what stands from its byte on is the line of that field and those behind it, by going through the fields before it.
use Prim.Native.Nat.{ℕ, zero, suc, ◌+◌, ◌-◌, ◌≤◌}
use mathlib.Core.Path.{◌≡◌, refl, ap, ◌∙◌}
use mathlib.Core.List.{List, [], ◌∷◌, ◌++◌}
use native.Mathlib.Omega.{arith}
use lib.ListN.{length, take, drop, length-append, length-take}
use mir.Val.{Fits}
use mir.Syntax.{w32}
use Rattle.text.specs.declared.field.Field.{Field}
use Rattle.text.specs.WriteLine.{end_of, write_line}
use Rattle.text.specs.Field.{spell}
use Rattle.ring.specs.declared.types.Demand.{Demand}
use Rattle.text.specs.FieldByte.{field_byte, row_byte, sheet_row_byte}
use Rattle.text.proofs.Lengths.{line-short}

-- the code's steps: a line is measured ..
module _ (shape : List Field) (values : List ℕ) where
  pub line-placed : length shape ≤ 1000 → 0 + length (write_line shape values) ≤ 18446744073709551615
  line-placed short = omega (arith, line-short shape values)

-- .. and one more than the fields before it is a field's byte
module _ (shape : List Field) (values : List ℕ) (k r : ℕ) (is : r ≡ length (write_line (take k shape) values)) where
  pub before-fits : length shape ≤ 1000 → Fits w32 r
  before-fits h = omega (arith, line-short (take k shape) values, length-take k shape)

  pub byte_fits : (behind : ℕ) → behind ≤ 2 → length shape ≤ 1000 → Fits w32 (r + behind)
  byte_fits behind l h = omega (arith, line-short (take k shape) values, length-take k shape)

-- the first three fields of a sheet's D line start where those of a table's do
pub sheet-row-byte : (r : Demand) (front back w k : ℕ) → k ≤ 3 → row_byte r k ≡ sheet_row_byte r front back w k
unfolding field_byte write_line
sheet-row-byte r front back w zero h = refl
sheet-row-byte r front back w (suc zero) h = refl
sheet-row-byte r front back w (suc (suc zero)) h = refl
sheet-row-byte r front back w (suc (suc (suc zero))) h = refl
sheet-row-byte r front back w (suc (suc (suc (suc k)))) h = absurd (omega arith)

-- what stands from the byte on

skip : (p q : List ℕ) (n : ℕ) → drop (length p + n) (p ++ q) ≡ drop n q
skip [] q n = let e : 0 + n ≡ n = omega arith in ap (λ (m : ℕ). drop m q) e
skip (x ∷ p) q n = let e : length (x ∷ p) + n ≡ suc (length p + n) = omega arith in rw e (skip p q n)

behind : (fs : List Field) (vs : List ℕ) (k : ℕ) → k ≤ length fs → length fs ≤ length vs → drop (length (write_line (take k fs) vs)) (write_line fs vs) ≡ write_line (drop k fs) (drop k vs)
unfolding write_line
behind fs vs zero a b = refl
behind [] vs (suc k) a b = absurd (omega arith)
behind (f ∷ fs) [] (suc k) a b = absurd (omega arith)
behind (f ∷ fs) (v ∷ vs) (suc k) a b =
    let rest : List ℕ = end_of (length fs) ∷ write_line fs vs in
    let e : length (spell f v ++ end_of (length (take k fs)) ∷ write_line (take k fs) vs) ≡ length (spell f v) + suc (length (write_line (take k fs) vs)) =
    length-append (spell f v) (end_of (length (take k fs)) ∷ write_line (take k fs) vs) in
    rw e (skip (spell f v) rest (suc (length (write_line (take k fs) vs))) ∙ behind fs vs k (omega arith) (omega arith))

pub from_byte : (shape : List Field) (vs : List ℕ) (k : ℕ) → k ≤ length shape → length shape ≤ length vs
    → drop (field_byte shape vs k - 1) (write_line shape vs) ≡ write_line (drop k shape) (drop k vs)
unfolding field_byte
from_byte shape vs k a b =
    let e : length (write_line (take k shape) vs) + 1 - 1 ≡ length (write_line (take k shape) vs) = omega arith in
    rw e (behind shape vs k a b)
