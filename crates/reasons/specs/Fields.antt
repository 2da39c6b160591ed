-- Internal: which field of its line a reason is about; its byte is where that field starts.
use Rattle.std.specs.Prelude.{ℕ, cond}
use Rattle.reasons.specs.Judge.{outside}
use Rattle.reasons.specs.declared.reason.Reason.{Reason}
use Rattle.reasons.specs.declared.reason.Reason.TheVariants.{RingSize, Fibres, NoSuchNode, TooMuch}

-- where `node` is the field of the node that is outside; a reason that judges the line as a whole starts where the letter does, which is field 0
abbrev pub field_of : Reason → ℕ → ℕ
-- n
field_of RingSize node = 1
-- fibres
field_of Fibres node = 2
-- a node
field_of NoSuchNode node = node
-- the amount
field_of TooMuch node = 3
field_of _ node = 0

-- the first of the two nodes that is outside
unfoldable pub node_field : ℕ → ℕ → ℕ
node_field n i = cond (outside n i) 1 2
