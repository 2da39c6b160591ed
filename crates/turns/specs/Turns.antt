-- To believe: one turn at a time (Rules, one turn at a time): the starts, the row that is turned, and the answer over all starts. `settle` and `best_from` go as a
-- program would; what comes of them is said without that by `StartEnds` and `LeastOfStarts` (turns/Promised).
use Rattle.std.specs.Prelude.{ℕ, zero, suc, ◌*◌, ◌-◌, Bool, cond, not, ◌&&◌, ◌||◌, List, [], ◌∷◌, map, ltb, Option, Some, None, find, filter}
use Rattle.ring.specs.declared.types.Demand.{Demand}
use Rattle.ring.specs.Demand.{in_front}
use Rattle.ring.specs.declared.types.Routed.{Routed}
use Rattle.ring.specs.declared.types.Way.{Way}
use Rattle.ring.specs.declared.types.Way.TheVariants.{Front, Back}
use Rattle.ring.specs.Routing.{routed, by_way, unsplit_load, peak}
use Rattle.ring.specs.Sheet.{numbers_from}
use Rattle.turns.specs.InOrder.{in_order, falling, smaller}
-- the figures of an answer: its peak, the link that the start avoided, and the number of turns
pub use Rattle.turns.specs.declared.Turned.{Turned}

-- ---- rows that go whole

-- a demand that goes whole: all its halves go that way
abbrev pub whole : Demand → Way → Routed
whole r w = routed (record { demand = r; front = by_way w (2 * r.amount) 0; back = by_way w 0 (2 * r.amount) }) w

-- the ring's peak
unfoldable pub peak_of : ℕ → List Routed → ℕ
unfolding unsplit_load peak
peak_of n rs = peak (unsplit_load rs) n

-- a demand routed to avoid link a
unfoldable pub avoiding : ℕ → Demand → Routed
avoiding a r = whole r (cond (in_front r a) Back Front)

-- a start: every row routed to avoid link a
unfoldable pub start : ℕ → List Demand → List Routed
unfolding avoiding
start a rs = map (avoiding a) rs

-- a row turned: it goes the other way
abbrev pub other_way : Way → Way
other_way Front = Back
other_way Back = Front

-- all of it
abbrev pub turned : Routed → Routed
turned r = whole r.sent.demand (other_way r.way)

-- rows with the one at a place turned, places from 0 on
unfoldable pub turn_at : ℕ → List Routed → List Routed
turn_at p [] = []
turn_at zero (r ∷ rs) = turned r ∷ rs
turn_at (suc p) (r ∷ rs) = r ∷ turn_at p rs

-- ---- falling order

-- a row's present path: the links of its front where it goes that way, and else those of its back
abbrev pub on_way : Way → Bool → Bool
on_way Front front = front
on_way Back front = not front

-- a link is on a row's present path
abbrev pub on_path : Routed → ℕ → Bool
on_path r k = on_way r.way (in_front r.sent.demand k)

-- the loads on it, from largest to smallest
unfoldable pub path_loads : ℕ → (ℕ → ℕ) → Routed → List ℕ
unfolding falling numbers_from
path_loads n load r = falling (map load (filter (on_path r) (numbers_from 1 n)))

-- a row at its place
pub record PlacedRow : Type 0 where
  pub place : ℕ
  pub row : Routed

-- the row r at place k
abbrev pub placed_row : ℕ → Routed → PlacedRow
placed_row k r = record { place = k; row = r }

-- rows at the places from k on
unfoldable pub placed_from : ℕ → List Routed → List PlacedRow
placed_from k [] = []
placed_from k (r ∷ rs) = placed_row k r ∷ placed_from (suc k) rs

-- row a stands before row b: its list is the larger, or neither is the smaller and it is the earlier row
unfoldable pub stands_before : ℕ → (ℕ → ℕ) → PlacedRow → PlacedRow → Bool
unfolding path_loads smaller
stands_before n load a b =
    let one = path_loads n load a.row in
    let other = path_loads n load b.row in
    smaller other one || (not (smaller one other) && ltb a.place b.place)

-- the rows in falling order
unfoldable pub falling_rows : ℕ → List Routed → List PlacedRow
unfolding in_order stands_before placed_from unsplit_load
falling_rows n rs = in_order (stands_before n (unsplit_load rs)) (placed_from 0 rs)

-- ---- turns

-- the turn of a row lowers the ring's peak
unfoldable pub lowers : ℕ → List Routed → PlacedRow → Bool
unfolding peak_of turn_at
lowers n rs p = ltb (peak_of n (turn_at p.place rs)) (peak_of n rs)

-- in falling order, the first row whose turn lowers the ring's peak
unfoldable pub choice : ℕ → List Routed → Option PlacedRow
unfolding lowers falling_rows
choice n rs = find (lowers n rs) (falling_rows n rs)

-- the rows where no turn lowers the peak any more, and the number of turns that led there
pub record Settled : Type 0 where
  pub rows : List Routed
  pub turns : ℕ

-- that row is turned, and it is begun again; each turn lowers the peak, so that no more of them than `most`, the peak at the start, are ever taken
unfoldable pub settle : ℕ → ℕ → ℕ → List Routed → Settled
unfolding choice turn_at
settle n zero turns rs = record { rows = rs; turns = turns }
settle n (suc most) turns rs = elim (choice n rs) [ None ↦ record { rows = rs; turns = turns } | Some p ↦ settle n most (suc turns) (turn_at p.place rs) ]

-- ---- the answer

-- rows as they go, and their figures
pub record TurnedRows : Type 0 where
  pub rows : List Routed
  pub figures : Turned

-- what the start that avoids link a leads to
unfoldable pub from_start : ℕ → List Demand → ℕ → TurnedRows
unfolding start settle peak_of
from_start n rs a =
    let first = start a rs in
    let s = settle n (peak_of n first) 0 first in
    record { rows = s.rows; figures = record { peak = peak_of n s.rows; link = a; turns = s.turns } }

-- a later start takes the place of an earlier one only where its peak is less
unfoldable pub lower : TurnedRows → TurnedRows → TurnedRows
lower earlier later = cond (ltb later.figures.peak earlier.figures.peak) later earlier

-- the best so far, after the m starts from a on
unfoldable pub best_from : ℕ → List Demand → ℕ → ℕ → TurnedRows → TurnedRows
unfolding lower from_start
best_from n rs a zero best = best
best_from n rs a (suc m) best = best_from n rs (suc a) m (lower best (from_start n rs a))

-- the directions of least peak over all starts, the smallest link winning ties
unfoldable pub least_start : ℕ → List Demand → TurnedRows
unfolding best_from from_start
least_start n rs = best_from n rs 2 (n - 1) (from_start n rs 1)
