-- To believe: how many digits the figures of a sheet have whose values judging accepts, and so of every sheet that routing writes; and that each such sheet
-- fits a text.
use Rattle.std.specs.Prelude.{ℕ, ◌≤◌, length}
use Rattle.ring.specs.Limits.{desk}
use Rattle.ring.specs.Lists.{Each}
use Rattle.ring.specs.declared.types.Link.{Link}
use Rattle.ring.specs.declared.types.Routed.{Routed}
use Rattle.ring.specs.Sheet.{Sheet}
use Rattle.ring.specs.True.{TrueSheet}
use Rattle.text.specs.Number.{digits}
use Rattle.judge.specs.Findings.{Fits}
use Rattle.sheet.specs.Range.{longest}
use Rattle.sheet.specs.WriteSheet.{write_sheet}
use Rattle.checker.specs.Says.{Accepted}
use Rattle.table.specs.Table.{table_room}
use Rattle.matrix.specs.Room.{matrix_room}

-- a number of at most so many digits
abbrev pub Digits : ℕ → ℕ → Type 0
Digits most v = length (digits v) ≤ most

-- n, the fibres, the nodes of rows, the links of the cut and of L lines have at most 2 digits
pub record ShortNodes (x : Sheet) : Type 0 where
  pub ring : Digits 2 x.ring.nodes
  pub fibres : Digits 2 x.ring.fibres
  pub first : Each (λ (r : Routed). Digits 2 r.sent.demand.first) x.rows
  pub second : Each (λ (r : Routed). Digits 2 r.sent.demand.second) x.rows
  pub cut : (Digits 2 x.cut.g) × (Digits 2 x.cut.h)
  pub links : Each (λ (l : Link). Digits 2 l.link) x.links

-- amounts at most 4
abbrev pub ShortAmounts : Sheet → Type 0
ShortAmounts x = Each (λ (r : Routed). Digits 4 r.sent.demand.amount) x.rows

-- fronts and backs at most 5
abbrev pub ShortHalves : Sheet → Type 0
ShortHalves x = Each (λ (r : Routed). (Digits 5 r.sent.front) × (Digits 5 r.sent.back)) x.rows

-- the across number, loads, the peak and the size as many as a number may have
pub record ShortLoads (x : Sheet) : Type 0 where
  pub across : Digits desk.digits x.cut.across
  pub links : Each (λ (l : Link). (Digits desk.digits l.split) × (Digits desk.digits l.unsplit)) x.links
  pub unsplit_peak : Digits desk.digits x.unsplit_peak
  pub size : Digits desk.digits x.size

-- so it is for every sheet whose values judging accepts
abbrev pub OfJudged : (Sheet → Type 0) → Type 0
OfJudged Short = (x : Sheet) → Fits desk x → TrueSheet x → Short x

-- such a sheet is no longer than the longest, and this no longer than a text can be
pub record FitsText (x : Sheet) : Type 0 where
  pub sheet : length (write_sheet x) ≤ longest desk
  pub text : longest desk ≤ desk.bytes

-- written, it is an accepted text
abbrev pub WrittenAccepted : Sheet → Type 0
WrittenAccepted x = Accepted desk (write_sheet x)

-- a table and a matrix of as many bytes as always suffice are no longer than a text can be
pub record RoomsFit : Type 0 where
  pub table : table_room desk ≤ desk.bytes
  pub matrix : matrix_room desk ≤ desk.bytes
