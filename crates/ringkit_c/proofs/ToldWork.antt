-- What a call of the working table answers, told of the reply: by the answer's two cases, and since no reason's number is 0.
use mathlib.Core.Path.{◌≡◌, sym, ◌∙◌, ap}
use native.Mathlib.Omega.{arith}
use Rattle.std.specs.Prelude.{Ok, Err, IfOk}
use Rattle.reasons.proofs.ReasonNumbers.{no-reason-0}
use Rattle.work.specs.Calls.{Call, WorkAnswer}
use Rattle.work.specs.Answered.{Answered, OnlyBytes}
use Rattle.work.specs.declared.Work.{Work}
use Rattle.ringkit_c.specs.Working.{work_reply, ToldAnswered}
use Rattle.ringkit_c.specs.declared.replies.WorkReply.{WorkReply}

-- reason 0 is a success
pub told-accepted : {P : Type 0} (a : WorkAnswer) {r : WorkReply} → r ≡ work_reply a → IfOk a (λ _. P) → r.reason ≡ 0 → P
unfolding work_reply
told-accepted (Ok placed) is p e = p
told-accepted (Err reason) is p e = absurd (omega (arith, e, ap (λ (r : WorkReply). r.reason) is, no-reason-0 reason))

-- where one answer and one struct are so, one reply and that struct are
pub told-bytes : {w : Work} {c : Call} {a : WorkAnswer} {x : Work} {r : WorkReply} → OnlyBytes (Answered w c) a x → r ≡ work_reply a → OnlyBytes (ToldAnswered w c) r x
told-bytes p is = record { answer = λ b y t. t.is ∙ ap work_reply (p.answer t.answer y t.kept) ∙ sym is; bytes = λ b y t. p.bytes t.answer y t.kept }
