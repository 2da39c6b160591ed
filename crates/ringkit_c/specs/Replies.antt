-- To believe: what C's structs say of the answers of the calls: reason 0 is success; else the reason's number, with its line and byte or its place, and every
-- other field is 0.
use Rattle.std.specs.Prelude.{ℕ, List, ◌≡◌, Ok, Err}
use Rattle.family.specs.Sizes.{family_of}
use Rattle.ring.specs.Ring.{ring_of}
use Rattle.ring.specs.declared.types.Ring.{Ring}
use Rattle.ring.specs.Sheet.{Sheet}
use Rattle.ring.specs.declared.types.Link.{Link}
use Rattle.rows.specs.declared.sheet_row.SheetRow.{SheetRow}
use Rattle.reasons.specs.Reasons.{number_of}
use Rattle.crossing.specs.declared.pair.Pair.TheVariants.{Are, None}
use Rattle.crossing.specs.declared.crossing.Crossing.TheVariants.{All, Parallel, Many}
use Rattle.ringkit.specs.Says.{Answer}
use Rattle.ringkit.specs.Answers.{Checked, Asked}
use Rattle.ringkit.specs.Judging.{Judged, sheet_given}
use Rattle.ringkit.specs.Turning.{TurnAnswer}
use Rattle.ringkit.specs.Crossing.{CrossingAnswer}
use Rattle.least.specs.Rule.{rule_number}
use Rattle.ringkit.specs.LeastPeak.{LeastAnswer}
use Rattle.ringkit_c.specs.declared.replies.Reply.{Reply}
use Rattle.ringkit_c.specs.declared.replies.PairReply.{PairReply}
use Rattle.ringkit_c.specs.declared.replies.JudgeReply.{JudgeReply}
use Rattle.ringkit_c.specs.declared.replies.TurnReply.{TurnReply}
use Rattle.ringkit_c.specs.declared.replies.CrossingReply.{CrossingReply}
use Rattle.ringkit_c.specs.declared.replies.LeastReply.{LeastReply}

-- of a call that fills a buffer
unfoldable pub reply_of : Answer → Reply
reply_of (Ok size) = record { reason = 0; line = 0; byte = 0; length = size }
reply_of (Err r) = record { reason = number_of r.reason; line = r.line; byte = r.byte; length = 0 }

-- of checking, which writes nothing
unfoldable pub checked_reply : Checked → Reply
unfolding reply_of
checked_reply (Ok tt) = reply_of (Ok 0)
checked_reply (Err r) = reply_of (Err r)

-- of the question: the two places, which are counted from 1; 0 and 0 where there is no pair
unfoldable pub pair_reply : Asked → PairReply
pair_reply (Ok (Are p q)) = record { reason = 0; line = 0; byte = 0; first = p; second = q }
pair_reply (Ok None) = record { reason = 0; line = 0; byte = 0; first = 0; second = 0 }
pair_reply (Err r) = record { reason = number_of r.reason; line = r.line; byte = r.byte; first = 0; second = 0 }

-- of judging
unfoldable pub judge_reply : Judged → JudgeReply
judge_reply (Ok tt) = record { reason = 0; place = 0 }
judge_reply (Err f) = record { reason = number_of f.reason; place = f.place }

-- of turning a table's rows
unfoldable pub turn_reply : TurnAnswer → TurnReply
turn_reply (Ok x) = record { reason = 0; line = 0; byte = 0; peak = x.turned.peak; link = x.turned.link; turns = x.turned.turns; rows = x.rows }
turn_reply (Err r) = record { reason = number_of r.reason; line = r.line; byte = r.byte; peak = 0; link = 0; turns = 0; rows = 0 }

-- of whether all rows with amounts cross: kind 1 has the bound, kind 2 the two places, which are counted from 1, and kind 3 neither
unfoldable pub crossing_reply : CrossingAnswer → CrossingReply
crossing_reply (Ok (All bound)) = record { reason = 0; line = 0; byte = 0; kind = 1; bound = bound; first = 0; second = 0 }
crossing_reply (Ok (Parallel p q)) = record { reason = 0; line = 0; byte = 0; kind = 2; bound = 0; first = p; second = q }
crossing_reply (Ok Many) = record { reason = 0; line = 0; byte = 0; kind = 3; bound = 0; first = 0; second = 0 }
crossing_reply (Err r) = record { reason = number_of r.reason; line = r.line; byte = r.byte; kind = 0; bound = 0; first = 0; second = 0 }

-- of the least of five rules
unfoldable pub least_reply : LeastAnswer → LeastReply
least_reply (Ok x) = record { reason = 0; line = 0; byte = 0; peak = x.least.peak; floor = x.least.floor; rule = rule_number x.least.rule; rows = x.rows }
least_reply (Err r) = record { reason = number_of r.reason; line = r.line; byte = r.byte; peak = 0; floor = 0; rule = 0; rows = 0 }

-- the ring that C tells in numbers: family 0 is SONET, any other number SDH
abbrev pub ring_told : ℕ → ℕ → ℕ → Ring
ring_told n fibres family = ring_of n fibres (family_of family)

-- the values that C lends to be judged, as a sheet: its ring, its rows, C g h across, its links, Z peak size
abbrev pub sheet_lent : List SheetRow → Ring → ℕ → ℕ → ℕ → List Link → ℕ → ℕ → Sheet
sheet_lent rows ring g h across links peak size =
    sheet_given (record { ring = ring; cut = record { g = g; h = h; across = across }; unsplit_peak = peak; size = size }) rows links

-- C is told of an answer: there is one that keeps the promise, and this reply says it
pub record Told {A R : Type 0} (reply : A → R) (Promise : A → Type 0) (r : R) : Type 0 where
  pub answer : A
  pub kept : Promise answer
  pub is : r ≡ reply answer

-- the same, of an answer and a buffer
abbrev pub Replies : (List ℕ → Answer → Type 0) → List ℕ → Reply → Type 0
Replies Promise new = Told reply_of (Promise new)
