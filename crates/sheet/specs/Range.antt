-- To believe: the values that a sheet's lines can hold: the numbers of a table, every other figure of at most as many digits as a number may have, and an L
-- line for each link.
use Rattle.std.specs.Prelude.{ℕ, ◌+◌, ◌*◌, ◌≤◌, ◌<◌, ◌≡◌, length}
use Rattle.ring.specs.Limits.{Limits}
use Rattle.ring.specs.Lists.{Each}
use Rattle.ring.specs.WithinLimits.{WithinLimits}
use Rattle.ring.specs.declared.types.Routed.{Routed}
use Rattle.ring.specs.Sheet.{Sheet, sents, demands}
use Rattle.ring.specs.declared.types.Link.{Link}
use Rattle.text.specs.Number.{limit}
use Rattle.sheet.specs.WriteSheet.{write_sheet}

-- the halves of a row can be spelled
pub record RowSpelled (limits : Limits) (r : Routed) : Type 0 where
  pub front : r.sent.front < limit limits.digits
  pub back : r.sent.back < limit limits.digits

-- an L line's numbers can be
pub record LinkSpelled (limits : Limits) (l : Link) : Type 0 where
  pub link : l.link < limit limits.digits
  pub split : l.split < limit limits.digits
  pub unsplit : l.unsplit < limit limits.digits

-- every figure that no other limit bounds can be spelled too
pub record Spelled (limits : Limits) (x : Sheet) : Type 0 where
  pub halves : Each (RowSpelled limits) x.rows
  pub cut : (x.cut.g < limit limits.digits) × ((x.cut.h < limit limits.digits) × (x.cut.across < limit limits.digits))
  pub loads : Each (LinkSpelled limits) x.links
  pub last : (x.unsplit_peak < limit limits.digits) × (x.size < limit limits.digits)

-- what a sheet can hold, within limits
pub record InRange (limits : Limits) (x : Sheet) : Type 0 where
  -- as in a table
  pub within : WithinLimits limits x.ring (demands (sents x.rows))
  pub spelled : Spelled limits x
  -- as many L lines as the ring has links
  pub links : length x.links ≡ x.ring.nodes
  pub short : length (write_sheet x) ≤ limits.bytes

-- no true sheet of so many rows and nodes is longer, within limits of at most 2 digits for a node, 4 for an amount and 8 for any number: halves have 5 digits
-- and loads 8, and each field has the byte behind it, so the R line has at most 9 bytes, the C line 17, the Z line 20, a D line 27 and an L line 23
abbrev pub longest : Limits → ℕ
longest limits = 46 + 27 * limits.rows + 23 * limits.nodes
