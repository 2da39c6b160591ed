-- How long a line is whose values are bounded each by itself: as many digits as the bound of each allows, and the byte behind each.
use Prim.Native.Nat.{ℕ, suc, ◌+◌, ◌^◌, ◌≤◌, ◌<◌}
use mathlib.Core.List.{List, [], ◌∷◌}
use native.Mathlib.Omega.{arith}
use lib.ListN.{length, length-append}
use Rattle.ring.specs.Limits.{Countable}
use Rattle.text.specs.declared.field.Field.{Field}
use Rattle.text.specs.declared.field.Field.TheVariants.{Letter, Number, Way}
use Rattle.text.specs.Number.{base, limit}
use Rattle.text.specs.Field.{spell}
use Rattle.text.specs.WriteLine.{end_of, write_line}
use Rattle.text.proofs.Lengths.{digits-wide, digits-most}

-- each field of the line has at most so many bytes
pub data Wide : List Field → List ℕ → List ℕ → Type 0 where
  no-field : Wide [] [] []
  wide-field : {f : Field} {v w : ℕ} {fs : List Field} {vs ws : List ℕ} → length (spell f v) ≤ w → Wide fs vs ws → Wide (f ∷ fs) (v ∷ vs) (w ∷ ws)

-- as many bytes with one behind each
abbrev pub total : List ℕ → ℕ
total [] = 0
total (w ∷ ws) = w + 1 + total ws

pub line-wide : {fs : List Field} {vs ws : List ℕ} → Wide fs vs ws → length (write_line fs vs) ≤ total ws
unfolding write_line
line-wide no-field = omega arith
line-wide (wide-field {f} {v} {w} {fs} {vs} {ws} h rest) = omega (arith, h, line-wide rest, length-append (spell f v) (end_of (length fs) ∷ write_line fs vs))

-- a number below so many tens
pub number-wide : (k n : ℕ) → k ≤ 9 → n < base ^ suc k → length (spell Number n) ≤ suc k
unfolding spell
number-wide k n a h = digits-wide k n a h

-- a number that can be spelled
pub number-most : (most : ℕ) → Countable most → (n : ℕ) → n < limit most → length (spell Number n) ≤ most
unfolding spell
number-most most fit n h = digits-most most fit n h

-- a letter
pub letter-wide : (b v : ℕ) → length (spell (Letter b) v) ≤ 1
unfolding spell
letter-wide b v = omega arith

-- a way
pub way-wide : (v : ℕ) → length (spell Way v) ≤ 1
unfolding spell
way-wide v = omega arith
