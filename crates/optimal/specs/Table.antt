-- To believe: what is answered of a table: whether its circuits can be sent whole with a peak of at
-- most `top`, and by the optimal rule the least peak. What holds of the answers does not speak of
-- the search.
use Rattle.std.specs.Prelude.{ℕ, ◌≤◌, false, List, ◌≡◌}
use Rattle.ring.specs.declared.types.Routed.{Routed}
use Rattle.ring.specs.Sheet.{sents}
use Rattle.turns.specs.Turns.{peak_of}
use Rattle.optimal.specs.Search.{Next, the_first, Answer, fits, cannot, unknown, Searched, search}
use Rattle.optimal.specs.Optimal.{Found, optimal_ways}
use Rattle.optimal.specs.Order.{search_order, rows_at, table_ways, AreWays, AreFirst}
use Rattle.optimal.specs.Laws.{floor_of}

-- ---- whether circuits fit

-- what was found in search order, as ways of the table
abbrev pub in_table : List Routed → Answer → Answer
in_table plan (fits found) = fits (table_ways plan found)
in_table plan cannot = cannot
in_table plan unknown = unknown

-- the answer for a table with preferred ways
unfoldable pub table_fits : ℕ → Next → ℕ → ℕ → List Routed → Searched
unfolding search search_order table_ways
table_fits n next top most plan =
    let s = search n next top most (rows_at (search_order plan) plan) in
    record { answer = in_table plan s.answer; left = s.left }

-- ways that keep to the peak
pub record AreWithin (n top : ℕ) (plan ways : List Routed) : Type 0 where
  pub are : AreWays plan ways
  pub low : peak_of n ways ≤ top

-- no ways keep to it
abbrev pub NoneFit : ℕ → ℕ → List Routed → Type 0
NoneFit n top plan =
    (other : List Routed) → sents other ≡ sents plan → peak_of n other ≤ top → ⊥

-- what holds of the answer
abbrev pub FitsRight : ℕ → Next → ℕ → List Routed → Answer → Type 0
FitsRight n next top plan (fits ways) =
    AreWithin n top plan ways × (next ≡ the_first → AreFirst n top plan ways)
FitsRight n next top plan cannot = NoneFit n top plan
FitsRight n next top plan unknown = Unit {0}

-- ---- the optimal rule

-- the answer for a table with preferred ways
unfoldable pub table_optimal : ℕ → ℕ → List Routed → Found
unfolding optimal_ways search_order table_ways
table_optimal n most plan =
    let x = optimal_ways n most (rows_at (search_order plan) plan) (floor_of n plan) in
    record {
      ways = table_ways plan x.ways;
      peak = x.peak;
      bound = x.bound;
      left_open = x.left_open;
      again = x.again;
      sent = x.sent;
    }

-- what holds of it
pub record OptimalRight (n : ℕ) (plan : List Routed) (x : Found) : Type 0 where
  -- ways of the rows, with their peak, which is no higher than that of the preferred ways
  pub ways : AreWays plan x.ways
  pub is : x.peak ≡ peak_of n x.ways
  pub no_higher : x.peak ≤ peak_of n plan
  -- no ways have a peak below the bound
  pub none_below : (other : List Routed) → sents other ≡ sents plan → x.bound ≤ peak_of n other
  pub above_floor : floor_of n plan ≤ x.bound
  -- of all ways with as low a peak they are the first
  pub first : x.again ≡ false → AreFirst n x.peak plan x.ways
  -- where no question was left open, no ways have a lower peak
  pub closed : x.left_open ≡ 0 → x.bound ≡ x.peak
