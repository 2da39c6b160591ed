-- A call that fills a buffer keeps its promise, whatever its outcome is made of: by the cases of the outcome, and of whether the text fits.
use Prim.Native.Nat.{ℕ, ◌≤◌, ◌<◌}
use mathlib.Core.List.{List, ◌++◌}
use mathlib.Core.Logic.{◌↔◌}
use mathlib.Core.Path.{◌≡◌, refl, ap, ◌∙◌, sym}
use native.Mathlib.Omega.{arith}
use native.Mathlib.Decide.{dec_lt}
use lib.ListN.{length, take, drop}
use lib.Seq.{take-append_seam}
use borrow.Author.Tests.{lt-ltb, le-ltb}
use Rattle.std.specs.Prelude.{Result, Ok, Err, IsOk, IfOk}
use Rattle.reasons.specs.declared.reason.Reason.{Reason}
use Rattle.reasons.specs.declared.reason.Reason.TheVariants.{NoRoom}
use Rattle.reasons.specs.declared.reason.Refusal.{Refusal}
use Rattle.reasons.specs.Refusals.{refuse}
use Rattle.ringkit.specs.Outcome.{Outcome, within, answer_of, buffer_after, Fills}
use Rattle.ringkit.specs.Says.{Answer, Success, Refused, CallSays, with_room, without_room, none_due, TooLarge, CallPromise, Only}

-- an outcome is a text that is due, or a refusal that is given
pub data Decided (Due : List ℕ → Type 0) (Given : Reason → ℕ → ℕ → Type 0) : Outcome → Type 0 where
  is_due : {text : List ℕ} → Due text → Decided Due Given (Ok text)
  is_given : {reason : Reason} {line byte : ℕ} → Given reason line byte → Decided Due Given (refuse reason line byte)

-- there is one of them only, and no refusal is 15
pub record One (Due : List ℕ → Type 0) (Given : Reason → ℕ → ℕ → Type 0) : Type 0 where
  pub text : {a b : List ℕ} → Due a → Due b → a ≡ b
  pub refusal : {r s : Reason} {line other byte on : ℕ} → Given r line byte → Given s other on → (r ≡ s) × (line ≡ other) × (byte ≡ on)
  pub apart : {a : List ℕ} {r : Reason} {line byte : ℕ} → Due a → Given r line byte → ⊥
  pub other : {r : Reason} {line byte : ℕ} → Given r line byte → r ≡ NoRoom → ⊥

-- ---- answers that are equal

same-length : {m n : ℕ} {r : Answer} → r ≡ Ok m → r ≡ Ok n → m ≡ n
same-length e f = let g = sym e ∙ f in cc

-- two refusals that are one name one reason, line and byte
pub record Same (x y : Refusal) : Type 0 where
  pub reason : x.reason ≡ y.reason
  pub line : x.line ≡ y.line
  pub byte : x.byte ≡ y.byte

same-fields : {x y : Refusal} → x ≡ y → Same x y
same-fields e = record { reason = ap (λ (x : Refusal). x.reason) e; line = ap (λ (x : Refusal). x.line) e; byte = ap (λ (x : Refusal). x.byte) e }

pub same-err : {A : Type 0} {x y : Refusal} → ◌≡◌ {A = Result A Refusal} (Err x) (Err y) → x ≡ y
same-err e = cc

-- ---- every call is one of the three cases

module _ {Due : List ℕ → Type 0} {Given : Reason → ℕ → ℕ → Type 0} {old new : List ℕ} {r : Answer} where
  pub every_call : {outcome : Outcome} → Decided Due Given outcome → Fills outcome old new r → CallSays Due Given old new r
  unfolding within answer_of buffer_after
  every_call (is_due {text = t} due) f =
      elim (dec_lt (length old) (length t)) [
        | yes l ↦ let e = lt-ltb (length old) (length t) l in without_room due l (record { answer = rw e at f.answer; buffer = rw e at f.buffer })
        | no l ↦
            let fits : length t ≤ length old = omega arith in
            let e = le-ltb (length old) (length t) fits in
            with_room due fits (record { answer = rw e at f.answer; buffer = rw e at f.buffer })
      ]
  every_call (is_given given) f = none_due given (record { answer = f.answer; buffer = f.buffer })

-- ---- so each answer says one thing

-- two texts that stand at the start of one buffer, as long as each other, are one
pub same_start : (a b x y : List ℕ) → length a ≡ length b → a ++ x ≡ b ++ y → a ≡ b
same_start a b x y long e = sym (take-append_seam a x) ∙ ap (λ k. take k (a ++ x)) long ∙ ap (take (length b)) e ∙ take-append_seam b y

-- success is no refusal, and two refusals that answer alike are one
apart_answers : {n : ℕ} {x : Refusal} {r : Answer} → r ≡ Ok n → r ≡ Err x → ⊥
apart_answers e f = let g = sym e ∙ f in absurd (cc)

one-refusal : {x y : Refusal} {r : Answer} → r ≡ Err x → r ≡ Err y → Same x y
one-refusal e f = same-fields (same-err (sym e ∙ f))

module _ {Due : List ℕ → Type 0} {Given : Reason → ℕ → ℕ → Type 0} (one : One Due Given) {old new : List ℕ} {r : Answer} (call : CallSays Due Given old new r) where
  succeeds : (text : List ℕ) → Success text old new r ↔ (Due text × (length text ≤ length old))
  succeeds text = (λ s. there s call, λ h. back h.0 h.1 call)
    where
      there : Success text old new r → CallSays Due Given old new r → Due text × (length text ≤ length old)
      there s (with_room {text = other} due fits f) =
          let e = same_start other text (drop (length other) old) (drop (length text) old) (same-length f.answer s.answer) (sym f.buffer ∙ s.buffer) in
          rw (← e) (due, fits)
      there s (without_room due l f) = absurd (apart_answers s.answer f.answer)
      there s (none_due g f) = absurd (apart_answers s.answer f.answer)

      back : Due text → length text ≤ length old → CallSays Due Given old new r → Success text old new r
      back due fits (with_room a l s) = let e = one.text a due in rw (← e) s
      back due fits (without_room a l s) = absurd (omega (arith, ap length (one.text a due)))
      back due fits (none_due g s) = absurd (one.apart due g)

  no_room : Refused NoRoom 0 0 old new r ↔ TooLarge Due old
  no_room = (λ s. there s call, λ h. back h.text h.due h.large call)
    where
      there : Refused NoRoom 0 0 old new r → CallSays Due Given old new r → TooLarge Due old
      there s (with_room a l f) = absurd (apart_answers f.answer s.answer)
      there s (without_room {text} a l f) = record { text = text; due = a; large = l }
      there s (none_due g f) = absurd (one.other g (one-refusal f.answer s.answer).reason)

      back : (text : List ℕ) → Due text → length old < length text → CallSays Due Given old new r → Refused NoRoom 0 0 old new r
      back text due short (with_room a l s) = absurd (omega (arith, ap length (one.text a due)))
      back text due short (without_room a l s) = s
      back text due short (none_due g s) = absurd (one.apart due g)

  refuses : (reason : Reason) (line byte : ℕ) → (reason ≡ NoRoom → ⊥) → Refused reason line byte old new r ↔ Given reason line byte
  refuses reason line byte other = (λ s. back s call, λ g. there g call)
    where
      there : Given reason line byte → CallSays Due Given old new r → Refused reason line byte old new r
      there g (with_room a l s) = absurd (one.apart a g)
      there g (without_room a l s) = absurd (one.apart a g)
      there g (none_due f s) = let o = one.refusal f g in rw (← o.0, ← o.1, ← o.2) s

      back : Refused reason line byte old new r → CallSays Due Given old new r → Given reason line byte
      back h (with_room a l s) = absurd (apart_answers s.answer h.answer)
      back h (without_room a l s) = absurd (other (one-refusal h.answer s.answer).reason)
      back h (none_due g s) = let e = one-refusal s.answer h.answer in rw (← e.reason, ← e.line, ← e.byte) g

-- all that a call promises that fills a buffer
pub promise-of : {Due : List ℕ → Type 0} {Given : Reason → ℕ → ℕ → Type 0} {old new : List ℕ} {r : Answer} → One Due Given → CallSays Due Given old new r → CallPromise Due Given old new r
promise-of one call = record { cases = call; succeeds = succeeds one call; no_room = no_room one call; refuses = refuses one call }

pub call-promise : {Due : List ℕ → Type 0} {Given : Reason → ℕ → ℕ → Type 0} {outcome : Outcome} {old new : List ℕ} {r : Answer} → One Due Given → Decided Due Given outcome
    → Fills outcome old new r → CallPromise Due Given old new r
call-promise one decided f = promise-of one (every_call decided f)

-- ---- what follows from a promise alone

-- what holds of a success, and what follows of it
pub if-ok : {A E : Type 0} {P Q : A → Type 0} (r : Result A E) → ((x : A) → P x → Q x) → IfOk r P → IfOk r Q
if-ok (Ok x) f p = f x p
if-ok (Err e) f p = p

-- two calls that say one success, or one refusal, answer the same and leave the same
module _ {old new other : List ℕ} {r q : Answer} where
  same-success : {text : List ℕ} → Success text old new r → Success text old other q → (other ≡ new) × (q ≡ r)
  same-success a b = (b.buffer ∙ sym a.buffer, b.answer ∙ sym a.answer)

  same-refusal : {reason : Reason} {line byte : ℕ} → Refused reason line byte old new r → Refused reason line byte old other q → (other ≡ new) × (q ≡ r)
  same-refusal a b = (b.buffer ∙ sym a.buffer, b.answer ∙ sym a.answer)

module _ {Due : List ℕ → Type 0} {Given : Reason → ℕ → ℕ → Type 0} {old new : List ℕ} {r : Answer} (call : CallPromise Due Given old new r) where
  -- no other buffer and no other answer keep it, where 15 is never given to the text itself
  pub only-by : ((reason : Reason) (line byte : ℕ) → Given reason line byte → reason ≡ NoRoom → ⊥) → Only (CallPromise Due Given old) new r
  only-by apart = record { buffer = λ other q p. (agrees p call.cases).0; answer = λ other q p. (agrees p call.cases).1 }
    where
      agrees : {other : List ℕ} {q : Answer} → CallPromise Due Given old other q → CallSays Due Given old new r → (other ≡ new) × (q ≡ r)
      agrees p (with_room {text} due fits s) = same-success s ((p.succeeds text).1 (due, fits))
      agrees p (without_room {text} due large s) = same-refusal s (p.no_room.1 (record { text = text; due = due; large = large }))
      agrees p (none_due {reason} {line} {byte} g s) = same-refusal s ((p.refuses reason line byte (apart reason line byte g)).1 g)

  pub call-only : One Due Given → Only (CallPromise Due Given old) new r
  call-only one = only-by (λ reason line byte g e. one.other g e)

  -- after a success, the text at the buffer's start is the one that is due
  pub written-due : IfOk r (λ n. Due (take n new))
  written-due = go call.cases
    where
      go : CallSays Due Given old new r → IfOk r (λ n. Due (take n new))
      go (with_room {text} due fits s) = rw (s.answer, s.buffer, take-append_seam text (drop (length text) old)) due
      go (without_room due large s) = rw s.answer tt
      go (none_due g s) = rw s.answer tt

  -- no call answers a greater length than its texts have
  pub length-within : (most : ℕ) → ((text : List ℕ) → Due text → length text ≤ most) → IfOk r (λ n. n ≤ most)
  length-within most few = go call.cases
    where
      go : CallSays Due Given old new r → IfOk r (λ n. n ≤ most)
      go (with_room {text} due fits s) = rw s.answer (few text due)
      go (without_room due large s) = rw s.answer tt
      go (none_due g s) = rw s.answer tt

  -- with room for a text that is due it is a success
  pub written : {text : List ℕ} → Due text → length text ≤ length old → IsOk r
  written {text} due fits = rw ((call.succeeds text).1 (due, fits)).answer refl
