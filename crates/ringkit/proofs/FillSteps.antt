-- A call that fills a buffer, over any outcome: a refusal, a buffer that is too short, and a text that was written each meet its contract.
use Prim.Native.Nat.{ℕ, ◌+◌, ◌≤◌}
use mathlib.Core.List.{List, ◌++◌}
use mathlib.Core.Path.{◌≡◌, refl, ap, ◌∙◌, sym}
use native.Mathlib.Omega.{arith}
use lib.ListN.{length, drop}
use lib.Seq.{sets-eq}
use native.Mathlib.Decide.{dec_lt}
use borrow.Author.Tests.{lt-ltb}
use Rattle.std.specs.Prelude.{Result, Ok, Err}
use Rattle.text.specs.Written.{Written}
use Rattle.reasons.specs.declared.reason.Refusal.{Refusal}
use Rattle.ringkit.specs.Outcome.{Outcome, ask_room, within, answer_of, buffer_after, Fills}
use Rattle.reasons.specs.declared.reason.Reason.TheVariants.{NoRoom}
use Rattle.reasons.specs.Refusals.{refuse}
use Rattle.ringkit.specs.Says.{Answer}

-- a refusal changes nothing
pub refuses : (outcome : Outcome) (old : List ℕ) (x : Refusal) → outcome ≡ Err x → Fills outcome old old (Err x)
unfolding within answer_of buffer_after
refuses outcome old x o = record { answer = rw o; buffer = rw o }

-- there is room for so many bytes where it is answered so
has-room : (old size : ℕ) (room : Result Unit Refusal) → room ≡ ask_room old size → room ≡ Ok tt → size ≤ old
unfolding ask_room
has-room old size room e a =
    elim (dec_lt old size) [
      | yes l ↦
          let f = lt-ltb old size l in
          let g : ask_room old size ≡ refuse NoRoom 0 0 = rw f refl in
          let h : ◌≡◌ {A = Result Unit Refusal} (Ok tt) (refuse NoRoom 0 0) = sym a ∙ e ∙ g in
          absurd (cc)
      | no l ↦ omega arith
    ]

-- a text of `size` bytes, by what is answered to the question for room
module _ (old t : List ℕ) (size : ℕ) (is : size ≡ length t) (room : Result Unit Refusal) (er : room ≡ ask_room (length old) size) where
  asked : room ≡ ask_room (length old) (length t)
  asked = er ∙ ap (ask_room (length old)) is

  pub text-refused : (x : Refusal) → room ≡ Err x → Fills (Ok t) old old (Err x)
  unfolding within answer_of buffer_after
  text-refused x a = let e : ask_room (length old) (length t) ≡ Err x = sym asked ∙ a in record { answer = rw e; buffer = rw e }

  pub text-has-room : room ≡ Ok tt → length t ≤ length old
  text-has-room a = omega (arith, has-room (length old) size room er a)

  pub text-fills : room ≡ Ok tt → (new : List ℕ) (n : ℕ) → Written old 0 t new n → Fills (Ok t) old new (Ok n)
  unfolding within answer_of buffer_after
  text-fills a new n w =
      let e : ask_room (length old) (length t) ≡ Ok tt = sym asked ∙ a in
      let fits = text-has-room a in
      let z : n ≡ length t = omega (arith, w.place) in
      let s : 0 + length t ≡ length t = omega arith in
      record { answer = rw (e, z); buffer = rw e (w.buffer ∙ sets-eq t old 0 (omega arith) ∙ ap (λ m. t ++ drop m old) s) }

-- a call that does what another outcome says does what an equal one says
pub same-fills : {outcome other : Outcome} (old new : List ℕ) (r : Answer) → outcome ≡ other → Fills other old new r → Fills outcome old new r
same-fills old new r e f = rw e f
