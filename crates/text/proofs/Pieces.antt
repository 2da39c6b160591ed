-- Lines one behind the other, measured and written in a loop: what is done so far is the text of the lines before place k. Stated over any lines.
use Prim.Native.Nat.{ℕ, zero, suc, ◌+◌, ◌-◌, ◌*◌, ◌≤◌, ◌<◌}
use mathlib.Core.List.{List, [], ◌++◌}
use mathlib.Core.Path.{◌≡◌, ap, ◌∙◌, sym}
use native.Mathlib.Nat.{le_refl}
use native.Mathlib.Omega.{arith}
use lib.ListN.{length, length-append}
use Rattle.text.specs.Pass.{PassLaws}
use Rattle.text.specs.Written.{Passed}
use Rattle.text.proofs.Writing.{room-kept}

-- `text k` is the lines at the places before k, each of at most 1,000 bytes
pub record Pieces (line text : ℕ → List ℕ) : Type 0 where
  pub none : text 0 ≡ []
  pub more : (k : ℕ) → text (k + 1) ≡ text k ++ line k
  pub short : (k : ℕ) → length (line k) ≤ 1000

module _ (line text : ℕ → List ℕ) (pieces : Pieces line text) where
  more-long : (k : ℕ) → length (text (k + 1)) ≡ length (text k) + length (line k)
  more-long k = ap length (pieces.more k) ∙ length-append (text k) (line k)

  text-grows : (k m : ℕ) → length (text k) ≤ length (text (k + m))
  text-grows k zero = let e : k + 0 ≡ k = omega arith in rw e (le_refl (length (text k)))
  text-grows k (suc m) = let e : k + suc m ≡ k + m + 1 = omega arith in rw e (omega (arith, text-grows k m, more-long (k + m)))

  -- a line has room where all lines have
  line-fits : (k count : ℕ) → k < count → length (text k) + length (line k) ≤ length (text count)
  line-fits k count l =
      let e : k + 1 + (count - (k + 1)) ≡ count = omega arith in
      omega (arith, text-grows (k + 1) (count - (k + 1)), ap (λ m. length (text m)) e, more-long k)

-- so many lines have at most so many bytes
pub text-short : (line text : ℕ → List ℕ) → Pieces line text → (count : ℕ) → length (text count) ≤ 1000 * count
text-short line text pieces zero = omega (arith, ap length pieces.none)
text-short line text pieces (suc k) =
    let e : suc k ≡ k + 1 = omega arith in
    rw e (omega (arith, text-short line text pieces k, more-long line text pieces k, pieces.short k))

-- ---- measured or written: the lines before place k are behind a pass from `at` on, and the next goes to the place p

pub record PassingLines (room : List ℕ → ℕ) (after : List ℕ → ℕ → List ℕ → List ℕ) (line text : ℕ → List ℕ) (count at : ℕ) (old buf : List ℕ) (k p : ℕ) : Type 0 where
  pub pieces : Pieces line text
  pub passed : Passed after old at (text k) buf p
  pub within : k ≤ count
  pub fits : at + length (text count) ≤ room old

module _ {room : List ℕ → ℕ} {after : List ℕ → ℕ → List ℕ → List ℕ} (pass : PassLaws room after) (line text : ℕ → List ℕ) where
  pub passing-starts : Pieces line text → (count at : ℕ) (old : List ℕ) → at + length (text count) ≤ room old → PassingLines room after line text count at old old 0 at
  passing-starts pieces count at old fits =
      let e = pieces.none in
      record { pieces = pieces; passed = rw e (record { place = omega arith; buffer = sym (pass.nothing old at) }); within = omega arith; fits = fits }

  module _ (count at : ℕ) (old buf : List ℕ) (k p : ℕ) (passing : PassingLines room after line text count at old buf k p) where
    module _ (l : k < count) where
      pub line-room : p + length (line k) ≤ room buf
      line-room = omega (arith, passing.passed.place, passing.fits, line-fits line text passing.pieces k count l, room-kept pass old buf (text k) at p passing.passed)
