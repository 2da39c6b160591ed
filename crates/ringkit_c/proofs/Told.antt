-- What a call answers, told of the reply: by the answer's two cases, and since no reason's number is 0.
use Prim.Native.Nat.{ℕ, ◌≤◌}
use mathlib.Core.List.{List}
use mathlib.Core.Path.{◌≡◌, refl, ap, ◌∙◌, sym, subst}
use native.Mathlib.Omega.{arith}
use Rattle.std.specs.Prelude.{Ok, Err, IsOk, IfOk, IfErr, ◌≢◌}
use Rattle.reasons.specs.Reasons.{number_of}
use Rattle.reasons.specs.declared.reason.Reason.{Reason}
use Rattle.reasons.proofs.ReasonNumbers.{no-reason-0, same-reason}
use Rattle.ringkit.specs.Says.{Answer, Only}
use Rattle.ringkit.specs.Answers.{Checked, yes}
use Rattle.crossing.specs.declared.crossing.Crossing.TheVariants.{All, Parallel, Many}
use Rattle.ringkit.specs.Crossing.{CrossingAnswer, all_cross}
use Rattle.ringkit.specs.LeastPeak.{LeastAnswer}
use Rattle.ringkit_c.specs.Replies.{reply_of, checked_reply, crossing_reply, least_reply, Told}
use Rattle.ringkit_c.specs.declared.replies.LeastReply.{LeastReply}
use Rattle.ringkit_c.specs.declared.replies.Reply.{Reply}
use Rattle.ringkit_c.specs.declared.replies.CrossingReply.{CrossingReply}

-- no other buffer and no other reply is told
pub told-only : {A R : Type 0} {reply : A → R} {P : List ℕ → A → Type 0} {new : List ℕ} (a : A) (r : R) → r ≡ reply a → Only P new a → Only (λ buffer. Told reply (P buffer)) new r
told-only {reply = reply} a r is only =
    record {
      buffer = λ other q t. only.buffer other t.answer t.kept;
      answer = λ other q t. t.is ∙ ap reply (only.answer other t.answer t.kept) ∙ sym is;
    }

-- reason 0 is a success
pub told-success : (P : ℕ → Type 0) (a : Answer) (r : Reply) → r ≡ reply_of a → IfOk a P → r.reason ≡ 0 → P r.length
unfolding reply_of
told-success P (Ok n) r is h e = subst P (sym (ap (λ (r : Reply). r.length) is)) h
told-success P (Err x) r is h e = absurd (omega (arith, e, ap (λ (r : Reply). r.reason) is, no-reason-0 x.reason))

-- and a refusal has length 0
pub told-length : {most : ℕ} (a : Answer) (r : Reply) → r ≡ reply_of a → IfOk a (λ n. n ≤ most) → r.length ≤ most
unfolding reply_of
told-length (Ok n) r is h = omega (arith, ap (λ (r : Reply). r.length) is, h)
told-length (Err x) r is h = omega (arith, ap (λ (r : Reply). r.length) is)

-- a success has reason 0
pub told-reason : (a : Answer) (r : Reply) → r ≡ reply_of a → IsOk a → r.reason ≡ 0
unfolding reply_of
told-reason (Ok n) r is h = ap (λ (r : Reply). r.reason) is
told-reason (Err x) r is h = absurd (cc)

-- a refusal's number is that of its reason alone, and a success has none
pub told-not : (reason : Reason) (a : Answer) (r : Reply) → r ≡ reply_of a → IfErr a (λ why. why.reason ≢ reason) → r.reason ≢ number_of reason
unfolding reply_of
told-not reason (Ok n) r is h e = absurd (omega (arith, e, ap (λ (r : Reply). r.reason) is, no-reason-0 reason))
told-not reason (Err x) r is h e = h (same-reason x.reason reason (sym (ap (λ (r : Reply). r.reason) is) ∙ e))

-- of checking, reason 0 is yes
pub told-yes : (a : Checked) (r : Reply) → r ≡ checked_reply a → r.reason ≡ 0 → a ≡ yes
unfolding checked_reply reply_of
told-yes (Ok tt) r is e = λ i. yes
told-yes (Err x) r is e = absurd (omega (arith, e, ap (λ (r : Reply). r.reason) is, no-reason-0 x.reason))

-- of whether all rows cross, kind 1 is a bound
pub told-bound : {P : ℕ → Type 0} (a : CrossingAnswer) (r : CrossingReply) → r ≡ crossing_reply a → ((bound : ℕ) → a ≡ all_cross bound → P bound) → r.kind ≡ 1 → P r.bound
unfolding crossing_reply
told-bound {P} (Ok (All bound)) r is h e = subst P (sym (ap (λ (r : CrossingReply). r.bound) is)) (h bound refl)
told-bound (Ok (Parallel p q)) r is h e = absurd (omega (arith, e, ap (λ (r : CrossingReply). r.kind) is))
told-bound (Ok Many) r is h e = absurd (omega (arith, e, ap (λ (r : CrossingReply). r.kind) is))
told-bound (Err x) r is h e = absurd (omega (arith, e, ap (λ (r : CrossingReply). r.kind) is))

-- of the least of five rules, what holds of its figures holds of those that C gets, where the reason is 0
pub told-least : (P : ℕ → ℕ → ℕ → Type 0) (a : LeastAnswer) (r : LeastReply) → r ≡ least_reply a → IfOk a (λ x. P x.least.peak x.least.floor x.rows) → r.reason ≡ 0 → P r.peak r.floor r.rows
unfolding least_reply
told-least P (Ok x) r is h e = subst (λ (r : LeastReply). P r.peak r.floor r.rows) (sym is) h
told-least P (Err x) r is h e = absurd (omega (arith, e, ap (λ (r : LeastReply). r.reason) is, no-reason-0 x.reason))

-- and a success has reason 0
pub told-given : (a : LeastAnswer) (r : LeastReply) → r ≡ least_reply a → IsOk a → r.reason ≡ 0
unfolding least_reply
told-given (Ok x) r is h = ap (λ (r : LeastReply). r.reason) is
told-given (Err x) r is h = absurd (cc)
