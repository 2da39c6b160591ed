-- To believe: what holds of the search and of the optimal rule, each the contract of a function
-- that does nothing.
use Rattle.std.specs.Prelude.{ℕ, suc, ◌+◌, ◌^◌, ◌≤◌, ◌<◌, List, [], ◌≡◌, false}
use Rattle.std.specs.Int.{div_ceil}
use Rattle.ring.specs.declared.types.Routed.{Routed}
use Rattle.ring.specs.RuleA.{largest_across}
use Rattle.ring.specs.Sheet.{demands_of}
use Rattle.turns.specs.Turns.{peak_of}
use Rattle.optimal.specs.Seats.{start}
use Rattle.optimal.specs.Search.{Next, IsRight, search_from, search}
use Rattle.optimal.specs.Optimal.{Found, OptimalIs, optimal_ways}

-- the search's answer is right, of whatever rows, whichever ways are preferred, whichever row is
-- tried next, and however many rows it may send
abbrev pub SearchIsRight : Type 0
SearchIsRight =
    (n : ℕ) (next : Next) (top most : ℕ) (plan : List Routed)
    → IsRight n next top plan (search n next top most plan).answer

-- the count of rows alone decides when the search gives up: each look sends a row, so that with one
-- look more than rows it never ends for want of looks, and with as many more the answer is the same
abbrev pub CountDecides : Type 0
CountDecides =
    (n : ℕ) (next : Next) (top most more : ℕ) (plan : List Routed)
    → search_from n next top (suc most + more) most (start plan) []
    ≡ search n next top most plan

-- half of the largest across number, rounded up
abbrev pub floor_of : ℕ → List Routed → ℕ
floor_of n plan = div_ceil (largest_across n (demands_of plan)) 2

-- what is found from there is right
abbrev pub OptimalIsRight : Type 0
OptimalIsRight =
    (n most : ℕ) (plan : List Routed) → 2 ≤ n → peak_of n plan < 2 ^ 24
    → OptimalIs n (floor_of n plan) plan (optimal_ways n most plan (floor_of n plan))

-- two answers without an open question, of which none was asked once more, are the same, however
-- many rows each question might send: which ways are the answer does not depend on the search
abbrev pub OneAnswer : Type 0
OneAnswer =
    (n f g : ℕ) (plan : List Routed) (x y : Found)
    → OptimalIs n f plan x → OptimalIs n g plan y
    → x.left_open ≡ 0 → y.left_open ≡ 0 → x.again ≡ false → y.again ≡ false
    → (x.ways ≡ y.ways) × (x.peak ≡ y.peak)
