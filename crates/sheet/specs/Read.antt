-- Internal: reading a sheet: reason 1 first, then lines in order, and in a line the reasons in their order; nothing is judged by its figures.
use Rattle.std.specs.Prelude.{ℕ, ◌+◌, max, cond, List, [], ◌∷◌, ◌++◌, length, get_or, ltb, Result, Option, Ok, Err}
use Rattle.ring.specs.Routing.{way_of, routed, sent}
use Rattle.ring.specs.declared.types.Routed.{Routed}
use Rattle.ring.specs.declared.types.Cut.{Cut}
use Rattle.ring.specs.Limits.{Limits}
use Rattle.ring.specs.declared.types.Ring.{Ring}
use Rattle.ring.specs.declared.types.Demand.{Demand}
use Rattle.ring.specs.Sheet.{Sheet, sents, demands}
use Rattle.ring.specs.declared.types.Link.{Link}
use Rattle.text.specs.ReadLine.{Reading, read_line}
use Rattle.text.specs.Shapes.{sheet_row_shape, cut_shape, link_shape, last_shape}
use Rattle.lines.specs.Lines.{lines}
use Rattle.reasons.specs.Faults.{row_found, last_demand}
use Rattle.reasons.specs.AndThen.{and_then}
use Rattle.lines.specs.OnLine.{values_on, passed}
use Rattle.table.specs.ReadTable.{ring_on}
use Rattle.reasons.specs.Refusals.{refuse}
use Rattle.reasons.specs.declared.reason.Reason.TheVariants.{TooLong, Misshapen}
use Rattle.reasons.specs.declared.reason.Refusal.{Refusal}
use Rattle.sheet.specs.Says.{State, start, rows, links, end}

-- ---- the values of a line; that of the letter is the first

-- D i j amount front back F-or-B
abbrev pub routed_in : List ℕ → Routed
routed_in vs = routed (sent (get_or vs 1 0) (get_or vs 2 0) (get_or vs 3 0) (get_or vs 4 0) (get_or vs 5 0)) (way_of (get_or vs 6 0))

-- C g h across
abbrev pub cut_in : List ℕ → Cut
cut_in vs = record { g = get_or vs 1 0; h = get_or vs 2 0; across = get_or vs 3 0 }

-- L link split-load unsplit-load
abbrev pub link_in : List ℕ → Link
link_in vs = record { link = get_or vs 1 0; split = get_or vs 2 0; unsplit = get_or vs 3 0 }

-- Z unsplit-peak size, behind everything else
abbrev pub sheet_with : Ring → List Routed → Cut → List Link → List ℕ → Sheet
sheet_with ring rs c ks vs = record { ring = ring; rows = rs; cut = c; links = ks; unsplit_peak = get_or vs 1 0; size = get_or vs 2 0 }

-- the demand of the last of some rows
abbrev pub last_demand_of : List Routed → Option Demand
last_demand_of rs = last_demand (demands (sents rs))

-- ---- one line, which has the number `line`: its shape, then what is found against its numbers

-- D i j amount front back F-or-B, behind the rows rs
unfoldable pub row_by : Limits → Ring → List Routed → ℕ → List ℕ → Result Routed Refusal
unfolding passed row_found
row_by limits ring rs line vs = passed line sheet_row_shape vs (row_found limits ring.nodes (length rs) (last_demand_of rs) (routed_in vs).sent.demand) (routed_in vs)

-- C g h across; the line is no D line, whose first faulty byte is at the place q: the first at which neither goes on is at the later place
unfoldable pub cut_by : ℕ → ℕ → Reading → Result Cut Refusal
cut_by line q (Ok vs) = Ok (cut_in vs)
cut_by line q (Err p) = refuse Misshapen line (max q p + 1)

-- ---- what is due behind it

-- a D line, else the C line
unfoldable pub row_step : Limits → Ring → List Routed → ℕ → Reading → Reading → Result State Refusal
unfolding row_by cut_by
row_step limits ring rs line (Ok vs) other = and_then (row_by limits ring rs line vs) λ r. Ok (rows ring (rs ++ r ∷ []))
row_step limits ring rs line (Err p) other = and_then (cut_by line p other) λ c. Ok (links ring rs c [])

-- L link split-load unsplit-load
unfoldable pub link_step : Ring → List Routed → Cut → List Link → ℕ → Reading → Result State Refusal
unfolding values_on
link_step ring rs c ks line x = and_then (values_on line x) λ vs. Ok (links ring rs c (ks ++ link_in vs ∷ []))

-- Z unsplit-peak size
unfoldable pub last_step : Ring → List Routed → Cut → List Link → ℕ → Reading → Result State Refusal
unfolding values_on
last_step ring rs c ks line x = and_then (values_on line x) λ vs. Ok (end (sheet_with ring rs c ks vs))

-- by what is due; the R line is the first, and a line behind the last is left over
unfoldable pub step : Limits → State → ℕ → List ℕ → Result State Refusal
unfolding ring_on row_step link_step last_step
step limits start line l = and_then (ring_on limits l) λ ring. Ok (rows ring [])
step limits (rows ring rs) line l = row_step limits ring rs line (read_line limits.digits sheet_row_shape l) (read_line limits.digits cut_shape l)
step limits (links ring rs c ks) line l =
    cond (ltb (length ks) ring.nodes) (link_step ring rs c ks line (read_line limits.digits link_shape l)) (last_step ring rs c ks line (read_line limits.digits last_shape l))
step limits (end x) line l = refuse Misshapen line 1

-- ---- the lines in order

-- no line is left: the one that is due is missing
unfoldable pub at_end : State → ℕ → Result Sheet Refusal
at_end (end x) line = Ok x
at_end start line = refuse Misshapen line 1
at_end (rows ring rs) line = refuse Misshapen line 1
at_end (links ring rs c ks) line = refuse Misshapen line 1

-- from a state, the lines ls, of which the first has the number `line`
unfoldable pub read_from : Limits → State → ℕ → List (List ℕ) → Result Sheet Refusal
unfolding step at_end
read_from limits state line [] = at_end state line
read_from limits state line (l ∷ ls) = and_then (step limits state line l) λ next. read_from limits next (line + 1) ls

unfoldable pub read_sheet : Limits → List ℕ → Result Sheet Refusal
unfolding read_from
read_sheet limits t = cond (ltb limits.bytes (length t)) (refuse TooLong 0 0) (read_from limits start 1 (lines t))
