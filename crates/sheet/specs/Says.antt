-- To believe: what each reason for which no sheet is read says of a text (Rules, reasons), by its lines and the writer alone, and which byte of the line goes with
-- it; which reason is given; and what a well-formed sheet is.
use Rattle.std.specs.Prelude.{ℕ, ◌+◌, ◌≤◌, ◌<◌, List, [], ◌∷◌, ◌++◌, ◌⊎◌, ◌≡◌, length}
use Rattle.ring.specs.declared.types.Cut.{Cut}
use Rattle.ring.specs.Limits.{Limits}
use Rattle.ring.specs.declared.types.Ring.{Ring}
use Rattle.ring.specs.declared.types.Demand.{Demand}
use Rattle.ring.specs.declared.types.Routed.{Routed}
use Rattle.ring.specs.Sheet.{Sheet}
use Rattle.ring.specs.declared.types.Link.{Link}
use Rattle.text.specs.Number.{limit}
use Rattle.text.specs.FirstFault.{Agrees}
use Rattle.text.specs.RingLine.{RingFault}
use Rattle.text.specs.Shapes.{sheet_row_shape, cut_shape, link_shape, last_shape, cut_line, last_line}
use Rattle.lines.specs.Lines.{lines, LineIs}
use Rattle.reasons.specs.Reasons.{FirstReason, NoReason, Earlier}
use Rattle.table.specs.RowReasons.{RingIs, RowsSay, RowsByte}
use Rattle.lines.specs.DueBytes.{DueByte, ShapeByte}
use Rattle.reasons.specs.declared.reason.Reason.{Reason}
use Rattle.sheet.specs.WriteSheet.{routed_line, load_line}

-- ---- lines

-- this line is D i j amount front back F-or-B
pub record RoutedIs (limits : Limits) (t : List ℕ) (line : ℕ) (r : Routed) : Type 0 where
  pub text : LineIs (lines t) line (routed_line r)
  pub nodes : (r.sent.demand.first < limit limits.digits) × (r.sent.demand.second < limit limits.digits)
  pub amount : r.sent.demand.amount < limit limits.digits
  pub halves : (r.sent.front < limit limits.digits) × (r.sent.back < limit limits.digits)

-- this line is C g h across
pub record CutIs (limits : Limits) (t : List ℕ) (line : ℕ) (c : Cut) : Type 0 where
  pub text : LineIs (lines t) line (cut_line c.g c.h c.across)
  pub pair : (c.g < limit limits.digits) × (c.h < limit limits.digits)
  pub number : c.across < limit limits.digits

-- this line is L link split-load unsplit-load
pub record LinkIs (limits : Limits) (t : List ℕ) (line : ℕ) (l : Link) : Type 0 where
  pub text : LineIs (lines t) line (load_line l)
  pub link : l.link < limit limits.digits
  pub loads : (l.split < limit limits.digits) × (l.unsplit < limit limits.digits)

-- this line is Z unsplit-peak size
pub record LastIs (limits : Limits) (t : List ℕ) (line p z : ℕ) : Type 0 where
  pub text : LineIs (lines t) line (last_line p z)
  pub spelled : (p < limit limits.digits) × (z < limit limits.digits)

-- what lines have said, and so what is due behind them: the R line; a D line or the C line; behind the C line an L line for each link, and then the Z line;
-- behind that nothing
pub data State : Type 0 where
  start : State
  -- behind the R line and rows
  rows : Ring → List Routed → State
  -- behind the cut and links
  links : Ring → List Routed → Cut → List Link → State
  end : Sheet → State

-- what the lines before this one have said
pub data At (limits : Limits) (t : List ℕ) : ℕ → State → Type 0 where
  at_start : At limits t 1 start
  behind_ring : {ring : Ring} → RingIs limits t ring → At limits t 2 (rows ring [])
  behind_row : {line : ℕ} {ring : Ring} {rs : List Routed} {r : Routed} → At limits t line (rows ring rs) → RoutedIs limits t line r → At limits t (line + 1) (rows ring (rs ++ r ∷ []))
  behind_cut : {line : ℕ} {ring : Ring} {rs : List Routed} {c : Cut} → At limits t line (rows ring rs) → CutIs limits t line c → At limits t (line + 1) (links ring rs c [])
  behind_link : {line : ℕ} {ring : Ring} {rs : List Routed} {c : Cut} {ks : List Link} {l : Link} → At limits t line (links ring rs c ks) → length ks < ring.nodes → LinkIs limits t line l
      → At limits t (line + 1) (links ring rs c (ks ++ l ∷ []))
  behind_last : {line : ℕ} {ring : Ring} {rs : List Routed} {c : Cut} {ks : List Link} {p z : ℕ} → At limits t line (links ring rs c ks) → ring.nodes ≤ length ks → LastIs limits t line p z
      → At limits t (line + 1) (end (record { ring = ring; rows = rs; cut = c; links = ks; unsplit_peak = p; size = z }))

-- the D line that is due here has this demand
pub data RowIs (limits : Limits) (t : List ℕ) (line : ℕ) : Demand → Type 0 where
  row_is : {ring : Ring} {rs : List Routed} {r : Routed} → At limits t line (rows ring rs) → RoutedIs limits t line r → RowIs limits t line r.sent.demand

-- ---- the reasons

-- 2: line of the wrong shape, missing, or left over
pub data WrongLine (limits : Limits) (t : List ℕ) (line : ℕ) : Type 0 where
  no_ring : At limits t line start → ((ring : Ring) → RingIs limits t ring → ⊥) → WrongLine limits t line
  no_row_no_cut : {ring : Ring} {rs : List Routed} → At limits t line (rows ring rs) → ((r : Routed) → RoutedIs limits t line r → ⊥) → ((c : Cut) → CutIs limits t line c → ⊥)
      → WrongLine limits t line
  no_link : {ring : Ring} {rs : List Routed} {c : Cut} {ks : List Link} → At limits t line (links ring rs c ks) → length ks < ring.nodes → ((l : Link) → LinkIs limits t line l → ⊥)
      → WrongLine limits t line
  no_last : {ring : Ring} {rs : List Routed} {c : Cut} {ks : List Link} → At limits t line (links ring rs c ks) → ring.nodes ≤ length ks → ((p z : ℕ) → LastIs limits t line p z → ⊥)
      → WrongLine limits t line
  left_over : {x : Sheet} {l : List ℕ} → At limits t line (end x) → LineIs (lines t) line l → WrongLine limits t line

-- what a reason says, with its line; a sheet that is read is judged by its values
abbrev pub Says : Limits → List ℕ → Reason → ℕ → Type 0
Says limits t r line = RowsSay limits t (RowIs limits t) (WrongLine limits t) line r

-- ---- the byte of the line that is given with a reason, counted from 1

-- where a D line or the C line is due, both shapes count: p is the place of the first byte at which neither goes on
pub record NeitherGoesOn (limits : Limits) (l : List ℕ) (p : ℕ) : Type 0 where
  pub before : Agrees limits.digits sheet_row_shape l p ⊎ Agrees limits.digits cut_shape l p
  pub no_row : Agrees limits.digits sheet_row_shape l (p + 1) → ⊥
  pub no_cut : Agrees limits.digits cut_shape l (p + 1) → ⊥

-- 2: by the shape that is due, of an R line by the shapes of both families; 1 where the line is left over
pub data LineByte (limits : Limits) (t : List ℕ) (line byte : ℕ) : Type 0 where
  ring_due : At limits t line start → DueByte t line (RingFault limits.marks limits.digits) byte → LineByte limits t line byte
  row_or_cut_due : {ring : Ring} {rs : List Routed} → At limits t line (rows ring rs) → DueByte t line (NeitherGoesOn limits) byte → LineByte limits t line byte
  link_due : {ring : Ring} {rs : List Routed} {c : Cut} {ks : List Link} → At limits t line (links ring rs c ks) → length ks < ring.nodes → ShapeByte limits t link_shape line byte → LineByte limits t line byte
  last_due : {ring : Ring} {rs : List Routed} {c : Cut} {ks : List Link} → At limits t line (links ring rs c ks) → ring.nodes ≤ length ks → ShapeByte limits t last_shape line byte → LineByte limits t line byte
  none_due : {x : Sheet} → At limits t line (end x) → byte ≡ 1 → LineByte limits t line byte

-- the byte of a reason that holds on a line
abbrev pub ByteIs : Limits → List ℕ → Reason → ℕ → ℕ → Type 0
ByteIs limits t r line byte = RowsByte limits t (RowIs limits t) (LineByte limits t) line byte r

-- ---- which is given

abbrev pub Given : Limits → List ℕ → Reason → ℕ → ℕ → Type 0
Given limits t = FirstReason (Says limits t) Earlier (ByteIs limits t)

-- a sheet is well-formed when no reason holds that judges its own length or lines; what its figures say is not asked
abbrev pub WellFormed : Limits → List ℕ → Type 0
WellFormed limits t = NoReason (Says limits t)
