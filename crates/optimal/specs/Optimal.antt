-- To believe: the optimal rule: the least peak of circuits that go whole, by questions between a
-- floor and the peak of the preferred ways. What holds of every answer (`OptimalIs`) does not speak
-- of the search; how it goes fixes the answer where a question is left open.
use Rattle.std.specs.Prelude.{ℕ, zero, suc, ◌+◌, ◌*◌, ◌-◌, ◌/◌, ◌^◌, ◌≤◌, max, min, ltb}
use Rattle.std.specs.Prelude.{Bool, true, false, List, ◌⊎◌, ◌≡◌}
use Rattle.ring.specs.declared.types.Routed.{Routed}
use Rattle.ring.specs.Sheet.{sents}
use Rattle.turns.specs.Turns.{peak_of}
use Rattle.optimal.specs.Ways.{ComesBefore}
use Rattle.optimal.specs.Seats.{divisor, start}
use Rattle.optimal.specs.Search.{Next, the_first, the_heaviest, Answer, fits, cannot, unknown}
use Rattle.optimal.specs.Search.{Searched, search}

-- ways, their peak, and a number that no peak is below; how many questions were left open, whether
-- the ways came of a question that was asked once more, and how many rows were sent in all
pub record Found : Type 0 where
  pub ways : List Routed
  pub peak : ℕ
  pub bound : ℕ
  pub left_open : ℕ
  pub again : Bool
  pub sent : ℕ

-- what holds of every answer, from preferred ways and a floor
pub record OptimalIs (n floor : ℕ) (plan : List Routed) (x : Found) : Type 0 where
  -- ways of the rows, with their peak, which is no higher than that of the preferred ways
  pub same : sents x.ways ≡ sents plan
  pub is : x.peak ≡ peak_of n x.ways
  pub no_higher : x.peak ≤ peak_of n plan
  -- no ways have a peak below the bound
  pub none_below : (other : List Routed) → sents other ≡ sents plan → x.bound ≤ peak_of n other
  pub above_floor : floor ≤ x.bound
  -- of all ways with as low a peak they are the first
  pub first : x.again ≡ false → (other : List Routed) → sents other ≡ sents plan
      → peak_of n other ≤ x.peak → (other ≡ x.ways) ⊎ ComesBefore plan x.ways other
  -- where no question was left open, no ways have a lower peak
  pub closed : x.left_open ≡ 0 → x.bound ≡ x.peak

-- ---- how it goes

-- the first peak that may be asked, how far above it the next may lie, and what is found so far
pub record Between : Type 0 where
  pub low : ℕ
  pub leap : ℕ
  pub found : Found

-- a number rounded up to a multiple of a unit
abbrev pub up_to : ℕ → ℕ → ℕ
up_to unit x = (x + (unit - 1)) / unit * unit

-- every peak is a multiple of the divisor of all amounts
abbrev pub unit_of : List Routed → ℕ
unit_of plan = max 1 (divisor (start plan))

module _ (n most : ℕ) (plan : List Routed) where
  -- the peak that is asked next: the middle of what lies between, or one that is nearer
  abbrev pub asked : Between → ℕ
  asked x =
      let unit = unit_of plan in
      min (x.low + (x.found.peak - 1 - x.low) / 2 / unit * unit) (x.low + x.leap)

  -- what the answer to a question makes of it
  abbrev pub answered : ℕ → Bool → ℕ → Between → Answer → Between
  answered top again sent x (fits ways) =
      record {
        low = x.low;
        leap = x.leap;
        found = record {
          ways = ways;
          peak = peak_of n ways;
          bound = x.found.bound;
          left_open = x.found.left_open;
          again = again;
          sent = x.found.sent + sent;
        };
      }
  answered top again sent x cannot =
      record {
        low = top + unit_of plan;
        leap = 2 * x.leap + unit_of plan;
        found = record {
          ways = x.found.ways;
          peak = x.found.peak;
          bound = top + unit_of plan;
          left_open = x.found.left_open;
          again = x.found.again;
          sent = x.found.sent + sent;
        };
      }
  answered top again sent x unknown =
      record {
        low = top + unit_of plan;
        leap = 2 * x.leap + unit_of plan;
        found = record {
          ways = x.found.ways;
          peak = x.found.peak;
          bound = x.found.bound;
          left_open = suc x.found.left_open;
          again = x.found.again;
          sent = x.found.sent + sent;
        };
      }

  -- a question that is left open is asked once more
  unfoldable pub told : ℕ → ℕ → Between → Answer → Between
  unfolding search peak_of divisor start
  told top sent x (fits ways) = answered top false sent x (fits ways)
  told top sent x cannot = answered top false sent x cannot
  told top sent x unknown =
      let s = search n the_heaviest top most plan in
      answered top true (sent + (most - s.left)) x s.answer

  -- so many questions at most; none where nothing lies between
  unfoldable pub ask : ℕ → Between → Found
  unfolding told search peak_of divisor start
  ask zero x = x.found
  ask (suc questions) x =
      elim (ltb x.low x.found.peak) [
        | true ↦
            let s = search n the_first (asked x) most plan in
            ask questions (told (asked x) (most - s.left) x s.answer)
        | false ↦ x.found
      ]

  -- from a floor and the preferred ways. Peaks are below 2^24, so 48 questions are enough: 24 halve
  -- what lies between, and 24 leap twice as far as the one before
  unfoldable pub optimal_ways : ℕ → Found
  unfolding ask peak_of divisor start
  optimal_ways floor =
      ask 48 (record {
        low = up_to (unit_of plan) floor;
        leap = 0;
        found = record {
          ways = plan;
          peak = peak_of n plan;
          bound = up_to (unit_of plan) floor;
          left_open = 0;
          again = false;
          sent = 0;
        };
      })
