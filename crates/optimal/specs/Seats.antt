-- To believe: rows of which some are sent and the others wait, and what is known then of the loads
-- of every way to send the others.
use Rattle.std.specs.Prelude.{ℕ, zero, suc, ◌+◌, ◌*◌, ◌-◌, ◌%◌, max, eqb, ltb}
use Rattle.std.specs.Prelude.{Bool, cond, not, ◌&&◌, List, [], ◌∷◌, map}
use Rattle.ring.specs.declared.types.Demand.{Demand}
use Rattle.ring.specs.Demand.{in_front}
use Rattle.ring.specs.declared.types.Routed.{Routed}
use Rattle.ring.specs.declared.types.Way.{Way}
use Rattle.ring.specs.declared.types.Way.TheVariants.{Front, Back}
use Rattle.ring.specs.Routing.{routed, whole_over, peak}
use Rattle.ring.specs.Cut.{part}
use Rattle.turns.specs.Turns.{other_way, on_way}

-- a row, with its preferred way: it waits, or is sent one way
pub data Seat : Type 0 where
  waits : Routed → Seat
  goes : Routed → Way → Seat

-- a way of a row holds both links
abbrev pub holds_both : Way → Demand → ℕ → ℕ → Bool
holds_both w r g h = on_way w (in_front r g) && on_way w (in_front r h)

-- the weight of two links: what lies across them, and twice what is sent over both of them; of one
-- link it is twice what is sent over it
unfoldable pub weight : List Seat → ℕ → ℕ → ℕ
unfolding part
weight [] g h = 0
weight (waits p ∷ l) g h = part p.sent.demand g h + weight l g h
weight (goes p w ∷ l) g h =
    part p.sent.demand g h
    + cond (holds_both w p.sent.demand g h) (2 * p.sent.demand.amount) 0
    + weight l g h

-- ---- what of a link's room cannot be filled

-- the greatest common divisor, by Euclid; of a and b at most b + 1 steps
unfoldable pub gcd_in : ℕ → ℕ → ℕ → ℕ
gcd_in zero a b = a
gcd_in (suc steps) a b = let on = gcd_in steps b (a % b) in cond (eqb b 0) a on

abbrev pub gcd : ℕ → ℕ → ℕ
gcd a b = gcd_in (suc b) a b

-- the row of a seat
abbrev pub row_of : Seat → Routed
row_of (waits p) = p
row_of (goes p w) = p

-- that of the amounts of all rows; 0 where there are none
unfoldable pub divisor : List Seat → ℕ
unfolding gcd_in
divisor [] = 0
divisor (s ∷ l) = gcd (divisor l) (row_of s).sent.demand.amount

-- that of the first row that waits and of all behind it; 0 where none waits
unfoldable pub open_divisor : List Seat → ℕ
unfolding divisor gcd_in
open_divisor [] = 0
open_divisor (waits p ∷ l) = gcd (divisor l) p.sent.demand.amount
open_divisor (goes p w ∷ l) = open_divisor l

-- the load of a link by the rows that are sent
unfoldable pub load_sent : List Seat → ℕ → ℕ
unfolding whole_over
load_sent [] k = 0
load_sent (waits p ∷ l) k = load_sent l k
load_sent (goes p w ∷ l) k = whole_over (routed p.sent w) k + load_sent l k

-- what is left of the link's room when it is filled with multiples of the divisor
unfoldable pub waste : ℕ → List Seat → ℕ → ℕ
unfolding open_divisor load_sent
waste top l k = (top - load_sent l k) % max 1 (open_divisor l)

-- the weight of two links with the waste of both
abbrev pub full : ℕ → List Seat → ℕ → ℕ → ℕ
full top l g h = weight l g h + waste top l g + waste top l h

-- ---- what can be told of numbers of pairs

-- the largest of the numbers of all pairs of links 1 to n
unfoldable pub largest : ℕ → (ℕ → ℕ → ℕ) → ℕ
unfolding peak
largest n number = peak (λ g. peak (number g) n) n

-- some pair is above twice the peak
unfoldable pub over : ℕ → ℕ → (ℕ → ℕ → ℕ) → Bool
unfolding largest
over n top number = ltb (2 * top) (largest n number)

-- a way of a row is shut: to send it so would put some pair of links that the way holds above twice
-- the peak
unfoldable pub shut : ℕ → ℕ → (ℕ → ℕ → ℕ) → Demand → Way → Bool
unfolding over
shut n top number r w =
    over n top (λ g h. cond (holds_both w r g h) (number g h + 2 * r.amount) 0)

-- ---- rows and ways

-- all rows wait
unfoldable pub start : List Routed → List Seat
start plan = map waits plan

-- the rows with their preferred ways
unfoldable pub rows_of : List Seat → List Routed
rows_of [] = []
rows_of (s ∷ l) = row_of s ∷ rows_of l

-- the ways where each row that waits goes its preferred way
unfoldable pub ways_of : List Seat → List Routed
ways_of [] = []
ways_of (waits p ∷ l) = p ∷ ways_of l
ways_of (goes p w ∷ l) = routed p.sent w ∷ ways_of l

-- how many rows are sent
unfoldable pub sent_count : List Seat → ℕ
sent_count [] = 0
sent_count (waits p ∷ l) = sent_count l
sent_count (goes p w ∷ l) = suc (sent_count l)
