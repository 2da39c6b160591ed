-- To believe: what C's structs say of the answers of the working table's calls: reason 0 is success; else the reason's number, and every other field is 0. The
-- line is always 0.
use Rattle.std.specs.Prelude.{Result, Ok, Err}
use Rattle.ring.specs.declared.types.Demand.{Demand}
use Rattle.reasons.specs.Reasons.{number_of}
use Rattle.reasons.specs.declared.reason.Reason.{Reason}
use Rattle.work.specs.Calls.{Call, WorkAnswer}
use Rattle.work.specs.Promises.{WorkPromise}
use Rattle.work.specs.Answered.{Answered}
use Rattle.work.specs.declared.Work.{Work}
use Rattle.ringkit_c.specs.Replies.{Told}
use Rattle.ringkit_c.specs.declared.replies.WorkReply.{WorkReply}
use Rattle.ringkit_c.specs.declared.replies.RowReply.{RowReply}

-- of a call that alters a table
unfoldable pub work_reply : WorkAnswer → WorkReply
work_reply (Ok p) = record { reason = 0; line = 0; place = p.place; g = p.cut.g; h = p.cut.h; across = p.cut.across }
work_reply (Err reason) = record { reason = number_of reason; line = 0; place = 0; g = 0; h = 0; across = 0 }

-- of the row at a place
unfoldable pub row_reply : Result Demand Reason → RowReply
row_reply (Ok r) = record { reason = 0; line = 0; first = r.first; second = r.second; amount = r.amount }
row_reply (Err reason) = record { reason = number_of reason; line = 0; first = 0; second = 0; amount = 0 }

-- C is told of an answer that keeps the promise of a call
abbrev pub ToldWork : Work → Call → WorkReply → Work → Type 0
ToldWork w c r x = Told work_reply (λ a. WorkPromise w c a x) r

-- and of one that is what a call answers of every struct, whatever its bytes
abbrev pub ToldAnswered : Work → Call → WorkReply → Work → Type 0
ToldAnswered w c r x = Told work_reply (λ a. Answered w c a x) r
