-- A text that is written piece by piece: what is still to come has room, and behind it the whole text is written.
use Prim.Native.Nat.{ℕ, ◌+◌, ◌≤◌}
use mathlib.Core.Path.{◌≡◌, sym}
use mathlib.Core.List.{List, [], ◌++◌}
use native.Mathlib.Omega.{arith}
use lib.ListN.{length, length-append}
use Rattle.text.specs.Pass.{PassLaws}
use Rattle.text.specs.Written.{Passed}
use Rattle.text.proofs.Writing.{written_behind, room-kept}

-- the text from `at` on is written as far as `next`, and `rest` is to come
pub record Going (room : List ℕ → ℕ) (after : List ℕ → ℕ → List ℕ → List ℕ) (old : List ℕ) (at : ℕ) (text new : List ℕ) (next : ℕ) (rest : List ℕ) : Type 0 where
  pub fits : next + length rest ≤ room new
  pub goes : (last : List ℕ) (end : ℕ) → Passed after new next rest last end → Passed after old at text last end

module _ {room : List ℕ → ℕ} {after : List ℕ → ℕ → List ℕ → List ℕ} (pass : PassLaws room after) where
  pub going-start : (old : List ℕ) (at : ℕ) (text : List ℕ) → at + length text ≤ room old → Going room after old at text old at text
  going-start old at text fits = record { fits = fits; goes = λ last end w. w }

  module _ {old : List ℕ} {at : ℕ} {text new : List ℕ} {next : ℕ} {rest : List ℕ} (going : Going room after old at text new next rest) where
    module _ (piece more : List ℕ) (is : rest ≡ piece ++ more) where
      pub piece-fits : next + length piece ≤ room new
      piece-fits = let f : next + length (piece ++ more) ≤ room new = rw is at going.fits in omega (arith, f, length-append piece more)

      -- one piece more is written
      pub going-on : (now : List ℕ) (place : ℕ) → Passed after new next piece now place → Going room after old at text now place more
      going-on now place w =
          let f : next + length (piece ++ more) ≤ room new = rw is at going.fits in
          record {
            fits = omega (arith, f, length-append piece more, w.place, room-kept pass new now piece next place w);
            goes = λ last end x. going.goes last end (rw is (written_behind pass new now last piece more next place end w x));
          }

    -- nothing is to come
    pub going-end : rest ≡ [] → Passed after old at text new next
    going-end none = going.goes new next (rw none (record { place = omega arith; buffer = sym (pass.nothing new next) }))
