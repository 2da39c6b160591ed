-- To believe: a working table is a ring and a list of 1,024 places, each of which is empty or holds a row; and which of them a struct is.
use Rattle.std.specs.Prelude.{ℕ, zero, suc, ◌-◌, ◌≤◌, ◌<◌, List, [], ◌∷◌, ◌≡◌, length, get_or}
use Rattle.ring.specs.declared.types.Ring.{Ring}
use Rattle.ring.specs.Demand.{demand}
use Rattle.ring.specs.declared.types.Demand.{Demand}
use Rattle.work.specs.HeldRing.{ring_held}
use Rattle.work.specs.declared.Work.{Work}

-- a place is empty, or holds a row
pub data Place : Type 0 where
  empty : Place
  holds : Demand → Place

-- a table as a planner sees it
pub record PlaceTable : Type 0 where
  pub ring : Ring
  pub places : List Place

-- the rows held, by place
unfoldable pub rows_held : List Place → List Demand
rows_held [] = []
rows_held (empty ∷ ps) = rows_held ps
rows_held (holds r ∷ ps) = r ∷ rows_held ps

-- the place behind k others holds the row r
abbrev pub HoldsAt : List Place → ℕ → Demand → Type 0
HoldsAt ps k r = get_or ps k empty ≡ holds r

-- ---- places, counted from 1

-- the place p holds the row r; 0 holds none, nor does a place that the list has not got
pub record PlaceHolds (ps : List Place) (p : ℕ) (r : Demand) : Type 0 where
  pub from_1 : 1 ≤ p
  pub is : HoldsAt ps (p - 1) r

-- it holds some row
pub record Taken (ps : List Place) (p : ℕ) : Type 0 where
  pub r : Demand
  pub there : PlaceHolds ps p r

-- it holds none
abbrev pub HoldsNone : List Place → ℕ → Type 0
HoldsNone ps p = Taken ps p → ⊥

-- each place of the list is taken
abbrev pub AllTaken : List Place → Type 0
AllTaken ps = (p : ℕ) → 1 ≤ p → p ≤ length ps → Taken ps p

-- it is free, and all places below it are taken
pub record LowestFree (ps : List Place) (p : ℕ) : Type 0 where
  pub from_1 : 1 ≤ p
  pub to_last : p ≤ length ps
  pub free : HoldsNone ps p
  pub below : (q : ℕ) → 1 ≤ q → q < p → Taken ps q

-- ---- the table that a struct is

-- a place as it stands in the columns: a first node of 0 says that it is empty
abbrev pub place_in : ℕ → ℕ → ℕ → Place
place_in zero j d = empty
place_in (suc i) j d = holds (demand (suc i) j d)

-- all places, by the columns
unfoldable pub places_in : List ℕ → List ℕ → List ℕ → List Place
places_in [] js ds = []
places_in (i ∷ is) [] ds = []
places_in (i ∷ is) (j ∷ js) [] = []
places_in (i ∷ is) (j ∷ js) (d ∷ ds) = place_in i j d ∷ places_in is js ds

-- its ring and its places
abbrev pub table_held : Work → PlaceTable
table_held w = record { ring = ring_held w.ring; places = places_in w.first w.second w.amount }
