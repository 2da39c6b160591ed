-- Internal: what a call that fills a lent buffer does: its outcome, its answer, and the buffer after it.
use Rattle.std.specs.Prelude.{ℕ, cond, List, ◌++◌, ◌≡◌, ltb, length, drop, Result, Ok, Err}
use Rattle.reasons.specs.declared.reason.Reason.TheVariants.{NoRoom}
use Rattle.reasons.specs.declared.reason.Refusal.{Refusal}
use Rattle.reasons.specs.AndThen.{and_then}
use Rattle.reasons.specs.Refusals.{refuse}
use Rattle.ringkit.specs.Says.{Answer}

-- a text to be written; or the refusal
abbrev pub Outcome : Type 0
Outcome = Result (List ℕ) Refusal

-- 15 is given exactly when the buffer is too short, with line and byte 0
unfoldable pub ask_room : ℕ → ℕ → Result Unit Refusal
ask_room room size = cond (ltb room size) (refuse NoRoom 0 0) (Ok tt)

-- and comes after all other reasons
unfoldable pub within : ℕ → Outcome → Outcome
unfolding ask_room
within room outcome = and_then outcome λ t. and_then (ask_room room (length t)) λ u. Ok t

-- success answers the text's length
unfoldable pub answer_of : Outcome → Answer
answer_of (Ok t) = Ok (length t)
answer_of (Err r) = Err r

-- success writes its text at the buffer's start and keeps the bytes after it; a refusal changes no byte
unfoldable pub buffer_after : Outcome → List ℕ → List ℕ
buffer_after (Ok t) old = t ++ drop (length t) old
buffer_after (Err r) old = old

-- the contract of such a call: what it answers, and what the buffer holds after it
pub record Fills (outcome : Outcome) (old new : List ℕ) (r : Answer) : Type 0 where
  pub answer : r ≡ answer_of (within (length old) outcome)
  pub buffer : new ≡ buffer_after (within (length old) outcome) old
