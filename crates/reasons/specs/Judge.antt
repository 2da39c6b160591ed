-- Internal: what is found against a ring and against a row, over any numbers: nothing, or the first reason that holds, in their order.
use Rattle.std.specs.Prelude.{ℕ, Bool, false, cond, not, ◌&&◌, ◌||◌, ltb, leb, eqb, Option, Some, None, Ok, Err}
use Rattle.ring.specs.Limits.{Limits}
use Rattle.ring.specs.declared.types.Ring.{Ring}
use Rattle.ring.specs.declared.types.Demand.{Demand}
use Rattle.ring.specs.LineSize.{two_fibres, four_fibres}
use Rattle.reasons.specs.declared.reason.Reason.TheVariants.{RingSize, Fibres, NoSuchNode, NotBelow, OutOfOrder, TooMany, TooMuch}
use Rattle.reasons.specs.Verdict.{Verdict}

-- n outside 2..64
unfoldable pub wrong_size : Limits → ℕ → Bool
wrong_size limits n = ltb n limits.fewest || ltb limits.nodes n

-- 3 alone, of a matrix, which says no fibres
unfoldable pub check_size : Limits → ℕ → Verdict
unfolding wrong_size
check_size limits n = cond (wrong_size limits n) (Err RingSize) (Ok tt)

-- fibres neither 2 nor 4
unfoldable pub other_fibres : ℕ → Bool
other_fibres fibres = not (eqb fibres two_fibres) && not (eqb fibres four_fibres)

-- 20 alone, of the fibres that are said beside a matrix
unfoldable pub check_fibres : ℕ → Verdict
unfolding other_fibres
check_fibres fibres = cond (other_fibres fibres) (Err Fibres) (Ok tt)

-- 3 and 20
unfoldable pub ring_verdict : Limits → Ring → Verdict
unfolding wrong_size other_fibres
ring_verdict limits ring = cond (wrong_size limits ring.nodes) (Err RingSize) (cond (other_fibres ring.fibres) (Err Fibres) (Ok tt))

-- a node outside 1..n
unfoldable pub outside : ℕ → ℕ → Bool
outside n i = ltb i 1 || ltb n i

-- a row whose nodes are below those of the row above it, by first node, then second; behind none it does not fall
unfoldable pub falls : Option Demand → Demand → Bool
falls None r = false
falls (Some q) r = ltb r.first q.first || eqb r.first q.first && ltb r.second q.second

-- 4, 5, 6, 16 and 7, of a row on a ring of n nodes, behind k rows of which the last is `above`
unfoldable pub row_verdict : Limits → ℕ → ℕ → Option Demand → Demand → Verdict
row_verdict limits n k above r =
    cond (outside n r.first || outside n r.second) (Err NoSuchNode)
    (cond (leb r.second r.first) (Err NotBelow)
    (cond (falls above r) (Err OutOfOrder)
    (cond (leb limits.rows k) (Err TooMany)
    (cond (ltb limits.amount r.amount) (Err TooMuch)
    (Ok tt)))))
