-- To believe: a refusal, which answers a reason in place of what was asked for; and the line that the programs print of one (Rules, the programs).
use Rattle.std.specs.Prelude.{ℕ, List, ◌++◌, decimal, codes, Result, Err}
use Rattle.reasons.specs.declared.reason.Reason.{Reason}
use Rattle.reasons.specs.declared.reason.Refusal.{Refusal}

-- a reason, with its line and its byte
abbrev pub refusal : Reason → ℕ → ℕ → Refusal
refusal reason line byte = record { reason = reason; line = line; byte = byte }

-- it is what is answered
abbrev pub refuse : {A : Type 0} → Reason → ℕ → ℕ → Result A Refusal
refuse reason line byte = Err (refusal reason line byte)

-- the letter E, then the reason's number, the line and the byte, each behind a tab
abbrev pub refusal_line : ℕ → ℕ → ℕ → List ℕ
refusal_line reason line byte = codes "E" ++ codes "\t" ++ decimal reason ++ codes "\t" ++ decimal line ++ codes "\t" ++ decimal byte
