-- To believe: the search for ways with a peak of at most `top`. It holds a partial routing, which
-- it looks at, and others to which it goes back; each row that it sends counts. The answers yes and
-- no are right whatever the search does (`IsRight`): what is said here fixes when it gives up.
use Rattle.std.specs.Prelude.{ℕ, zero, suc, ◌+◌, ◌-◌, ◌*◌, ◌≡◌, max, eqb, leb}
use Rattle.std.specs.Prelude.{Bool, true, false, cond, ◌&&◌, ◌||◌, List, [], ◌∷◌}
use Rattle.ring.specs.declared.types.Demand.{Demand}
use Rattle.ring.specs.declared.types.Routed.{Routed}
use Rattle.ring.specs.declared.types.Way.{Way}
use Rattle.ring.specs.declared.types.Way.TheVariants.{Front, Back}
use Rattle.turns.specs.Turns.{other_way}
use Rattle.optimal.specs.Ways.{IsWithin, IsFirst, CannotFit}
use Rattle.optimal.specs.Seats.{Seat, waits, goes, weight, full, over, shut, start, ways_of}
use Rattle.optimal.specs.Seats.{sent_count}

-- ---- what is done to the rows

-- a row goes the way that is left, or waits, by which of its ways are shut
abbrev pub left_over : Routed → Bool → Bool → Seat
left_over p true back = goes p Back
left_over p false true = goes p Front
left_over p false false = waits p

module _ (shuts : Demand → Way → Bool) where
  -- a row that waits has both ways shut
  unfoldable pub stuck : List Seat → Bool
  stuck [] = false
  stuck (waits p ∷ l) =
      (shuts p.sent.demand Front && shuts p.sent.demand Back) || stuck l
  stuck (goes p w ∷ l) = stuck l

  -- a row that waits has a way shut
  unfoldable pub moves : List Seat → Bool
  moves [] = false
  moves (waits p ∷ l) =
      (shuts p.sent.demand Front || shuts p.sent.demand Back) || moves l
  moves (goes p w ∷ l) = moves l

  -- each row that waits and has one way left is sent that way
  unfoldable pub forced : List Seat → List Seat
  forced [] = []
  forced (waits p ∷ l) =
      left_over p (shuts p.sent.demand Front) (shuts p.sent.demand Back) ∷ forced l
  forced (goes p w ∷ l) = goes p w ∷ forced l

-- no row waits
unfoldable pub all_sent : List Seat → Bool
all_sent [] = true
all_sent (waits p ∷ l) = false
all_sent (goes p w ∷ l) = all_sent l

-- two rows of the same nodes and the same amount
abbrev pub same_row : Demand → Demand → Bool
same_row r q = eqb r.first q.first && eqb r.second q.second && eqb r.amount q.amount

-- those that wait are sent one way
unfoldable pub send_same : Demand → Way → List Seat → List Seat
send_same r w [] = []
send_same r w (waits p ∷ l) =
    cond (same_row r p.sent.demand) (goes p w) (waits p) ∷ send_same r w l
send_same r w (goes p v ∷ l) = goes p v ∷ send_same r w l

-- the row that is tried is the first that waits and passes a test
module _ (test : Demand → Bool) where
  -- it is sent its preferred way
  unfoldable pub send_tried : List Seat → List Seat
  send_tried [] = []
  send_tried (waits p ∷ l) =
      cond (test p.sent.demand) (goes p p.way ∷ l) (waits p ∷ send_tried l)
  send_tried (goes p w ∷ l) = goes p w ∷ send_tried l

  -- it is sent the other way, and so is each row like it that stands behind it and waits: were one
  -- of them to go the preferred way, the two could change places
  unfoldable pub send_other : List Seat → List Seat
  unfolding send_same
  send_other [] = []
  send_other (waits p ∷ l) =
      cond (test p.sent.demand)
      (goes p (other_way p.way) ∷ send_same p.sent.demand (other_way p.way) l)
      (waits p ∷ send_other l)
  send_other (goes p w ∷ l) = goes p w ∷ send_other l

-- ---- which row is tried

-- a question is asked by trying the first row that waits, and, where that gives up, once more by
-- trying the row that is heaviest at its ends
pub data Next : Type 0 where
  the_first : Next
  the_heaviest : Next

-- the link before a node
abbrev pub link_before : ℕ → ℕ → ℕ
link_before n i = cond (eqb i 1) n (i - 1)

-- what a row weighs at its ends: the first and the last link of its front, and those of its back,
-- each pair with the row on it
unfoldable pub ends : ℕ → List Seat → Demand → ℕ
unfolding weight
ends n P r =
    weight P r.first (r.second - 1) + weight P (link_before n r.first) r.second + 4 * r.amount

-- the most that a row that waits weighs there
unfoldable pub most_ends : (Demand → ℕ) → List Seat → ℕ
most_ends weighs [] = 0
most_ends weighs (waits p ∷ l) = max (weighs p.sent.demand) (most_ends weighs l)
most_ends weighs (goes p w ∷ l) = most_ends weighs l

-- the test
unfoldable pub is_next : ℕ → Next → List Seat → Demand → Bool
unfolding ends most_ends
is_next n the_first P r = true
is_next n the_heaviest P r = eqb (ends n P r) (most_ends (ends n P) P)

-- ---- the search

-- the ways that were found; there are none; or it is not found out
pub data Answer : Type 0 where
  fits : List Routed → Answer
  cannot : Answer
  unknown : Answer

-- what holds of an answer to whether rows can be sent with a peak of at most `top`
abbrev pub IsRight : ℕ → Next → ℕ → List Routed → Answer → Type 0
IsRight n next top plan (fits ways) =
    IsWithin n top plan ways × (next ≡ the_first → IsFirst n top plan ways)
IsRight n next top plan cannot = CannotFit n top plan
IsRight n next top plan unknown = Unit {0}

-- a look ends the search; or rows are sent, from one partial routing to another, and it goes on
pub data Looked : Type 0 where
  ends_with : Answer → Looked
  goes_on : List Seat → List Seat → List (List Seat) → Looked

-- an answer, and how many more rows might have been sent
pub record Searched : Type 0 where
  pub answer : Answer
  pub left : ℕ

module _ (n : ℕ) (next : Next) (top : ℕ) where
  -- what is known of each pair of links, of every way to send the rows that wait
  abbrev pub numbers : List Seat → ℕ → ℕ → ℕ
  numbers P = full top P

  -- which ways are shut
  abbrev pub shuts_of : List Seat → Demand → Way → Bool
  shuts_of P = shut n top (numbers P)

  -- nothing can come of it: some pair is too heavy, or some row has no way left
  unfoldable pub dead : List Seat → Bool
  unfolding over shut stuck
  dead P = over n top (numbers P) || stuck (shuts_of P) P

  -- from a dead one the search goes back to the last before which a row was tried, if there is one,
  -- and sends that row the other way; one where a row has one way left is gone on with; one where
  -- no row waits is the answer; else a row is tried
  unfoldable pub look_at : Bool → Bool → Bool → List Seat → List (List Seat) → Looked
  unfolding shut forced send_tried send_other is_next ways_of
  look_at true move sent P [] = ends_with cannot
  look_at true move sent P (Q ∷ rest) = goes_on Q (send_other (is_next n next Q) Q) rest
  look_at false true sent P rest = goes_on P (forced (shuts_of P) P) rest
  look_at false false true P rest = ends_with (fits (ways_of P))
  look_at false false false P rest = goes_on P (send_tried (is_next n next P) P) (P ∷ rest)

  unfoldable pub look : List Seat → List (List Seat) → Looked
  unfolding look_at dead moves all_sent
  look P rest = look_at (dead P) (moves (shuts_of P) P) (all_sent P) P rest

  -- at most `most` rows are sent. Each look sends a row, so one look more than that is enough
  unfoldable pub search_from : ℕ → ℕ → List Seat → List (List Seat) → Searched
  unfolding look sent_count
  search_from zero most P rest = record { answer = unknown; left = 0 }
  search_from (suc looks) most P rest =
      elim (look P rest) [
        | ends_with a ↦ record { answer = a; left = most }
        | goes_on Q R kept ↦
            let sent = sent_count R - sent_count Q in
            cond (leb sent most) (search_from looks (most - sent) R kept)
            (record { answer = unknown; left = 0 })
      ]

  -- from all rows waiting
  unfoldable pub search : ℕ → List Routed → Searched
  unfolding search_from start
  search most plan = search_from (suc most) most (start plan) []
