-- To believe: what a call that fills a buffer says (Rules, the calls): success, 15, or a refusal of the text itself.
use Rattle.std.specs.Prelude.{ℕ, ◌≤◌, ◌<◌, List, ◌++◌, ◌↔◌, ◌≡◌, length, drop, Result, Ok}
use Rattle.reasons.specs.declared.reason.Reason.{Reason}
use Rattle.reasons.specs.declared.reason.Reason.TheVariants.{NoRoom}
use Rattle.reasons.specs.declared.reason.Refusal.{Refusal}
use Rattle.reasons.specs.Refusals.{refuse}

-- how many bytes were written; or why nothing was
abbrev pub Answer : Type 0
Answer = Result ℕ Refusal

-- success writes the text at the buffer's start, answers its length and keeps the bytes after it
pub record Success (text old new : List ℕ) (r : Answer) : Type 0 where
  pub answer : r ≡ Ok (length text)
  pub buffer : new ≡ text ++ drop (length text) old

-- a refusal answers a reason, a line and a byte of it, and changes no byte of the buffer that is lent
pub record Refused {A : Type 0} (reason : Reason) (line byte : ℕ) (old new : List ℕ) (r : Result A Refusal) : Type 0 where
  pub answer : r ≡ refuse reason line byte
  pub buffer : new ≡ old

-- one of three cases, by which text is due and which refusal is given
pub data CallSays (Due : List ℕ → Type 0) (Given : Reason → ℕ → ℕ → Type 0) (old new : List ℕ) (r : Answer) : Type 0 where
  with_room : {text : List ℕ} → Due text → length text ≤ length old → Success text old new r → CallSays Due Given old new r
  without_room : {text : List ℕ} → Due text → length old < length text → Refused NoRoom 0 0 old new r → CallSays Due Given old new r
  none_due : {reason : Reason} {line byte : ℕ} → Given reason line byte → Refused reason line byte old new r → CallSays Due Given old new r

-- a text is due that does not fit into the buffer
pub record TooLarge (Due : List ℕ → Type 0) (old : List ℕ) : Type 0 where
  pub text : List ℕ
  pub due : Due text
  pub large : length old < length text

-- all that such a call promises
pub record CallPromise (Due : List ℕ → Type 0) (Given : Reason → ℕ → ℕ → Type 0) (old new : List ℕ) (r : Answer) : Type 0 where
  -- one of the three is the case:
  pub cases : CallSays Due Given old new r
  -- it succeeds with a text exactly when that text is due and the buffer has room for it;
  pub succeeds : (text : List ℕ) → Success text old new r ↔ (Due text × (length text ≤ length old))
  -- 15 is given exactly when a text is due that does not fit;
  pub no_room : Refused NoRoom 0 0 old new r ↔ TooLarge Due old
  -- every other reason, with its line and its byte, exactly when it is given to the text
  pub refuses : (reason : Reason) (line byte : ℕ) → (reason ≡ NoRoom → ⊥) → Refused reason line byte old new r ↔ Given reason line byte

-- and no other buffer or answer keeps such a promise: the promise leaves the call no choice
pub record Only {A : Type 0} (Promise : List ℕ → A → Type 0) (new : List ℕ) (r : A) : Type 0 where
  pub buffer : (other : List ℕ) (answer : A) → Promise other answer → other ≡ new
  pub answer : (other : List ℕ) (answer : A) → Promise other answer → answer ≡ r
