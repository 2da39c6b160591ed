-- Pieces of text written one behind the other are the whole text, from what each writer says of its own piece.
use Prim.Native.Nat.{ℕ, ◌+◌, ◌/◌, ◌%◌, ◌≤◌, ◌<◌}
use mathlib.Core.Path.{◌≡◌, ◌∙◌}
use mathlib.Core.List.{List, [], ◌∷◌, ◌++◌}
use native.Mathlib.Omega.{arith}
use lib.ListN.{length, length-append}
use Rattle.text.specs.Bytes.{digit0}
use Rattle.text.specs.Number.{base, digits}
use Rattle.text.specs.Pass.{PassLaws}
use Rattle.text.specs.Written.{Passed}
use Rattle.text.proofs.Digits.{u32-limit, digits-one, digits-split}
use Rattle.text.proofs.Lengths.{one-long, more-long}

module _ {room : List ℕ → ℕ} {after : List ℕ → ℕ → List ℕ → List ℕ} (pass : PassLaws room after) where
  -- two writers, the second from where the first stopped
  pub written_behind : (old mid new p q : List ℕ) (at r e : ℕ) → Passed after old at p mid r → Passed after mid r q new e → Passed after old at (p ++ q) new e
  written_behind old mid new p q at r e w x =
      record { place = omega (arith, w.place, x.place, length-append p q); buffer = x.buffer ∙ rw (w.buffer, w.place) (pass.append old at p q) }

  pub room-kept : (old mid p : List ℕ) (at r : ℕ) → Passed after old at p mid r → room mid ≡ room old
  room-kept old mid p at r w = rw w.buffer (pass.same_room old at p)

  -- ---- a number: one digit; or several, those before the last and the last behind them

  pub one-fits : (old : List ℕ) (at n : ℕ) → n < base → at + length (digits n) ≤ room old → at < room old
  one-fits old at n h l = omega (arith, one-long n h)

  pub one-digit : (old new : List ℕ) (at n r : ℕ) → n < base → Passed after old at ((digit0 + n) ∷ []) new r → Passed after old at (digits n) new r
  one-digit old new at n r h w = rw (digits-one n h) w

  module _ (old : List ℕ) (at n : ℕ) (more : base ≤ n) (word : n < u32-limit) (fits : at + length (digits n) ≤ room old) where
    pub digits-fit : at + length (digits (n / base)) ≤ room old
    digits-fit = omega (arith, more-long n more word)

    module _ (mid : List ℕ) (r : ℕ) (w : Passed after old at (digits (n / base)) mid r) where
      pub last-fits : r < room mid
      last-fits = omega (arith, more-long n more word, w.place, room-kept old mid (digits (n / base)) at r w)

      pub last-digit : (new : List ℕ) (e : ℕ) → Passed after mid r ((digit0 + n % base) ∷ []) new e → Passed after old at (digits n) new e
      last-digit new e x = rw (digits-split n more word) (written_behind old mid new (digits (n / base)) ((digit0 + n % base) ∷ []) at r e w x)
