-- With at most one row for a pair no sum passes: it is the amount of one row, or 0.
use Prim.Native.Nat.{ℕ, zero, suc, ◌+◌, ◌-◌, ◌≤◌, ◌<◌}
use mathlib.Core.List.{List, [], ◌∷◌}
use mathlib.Core.Path.{◌≡◌}
use native.Mathlib.Omega.{arith}
use native.Mathlib.Decide.{ℕ_discrete}
use lib.ListN.{get_or, take}
use Rattle.ring.specs.Limits.{desk}
use Rattle.ring.specs.declared.types.Ring.{Ring}
use Rattle.ring.specs.Lists.{Each, none, more}
use Rattle.ring.specs.Demand.{demand, OnRing}
use Rattle.ring.specs.declared.types.Demand.{Demand}
use Rattle.table.specs.Table.{InRange as TableInRange}
use Rattle.matrix.specs.Demands.{sum_of, OneEach, Passes}
use Rattle.matrix.proofs.LinesText.{each_at}
use Rattle.matrix.proofs.SumLaws.{part_of, part-own, part-other, Rising, no_row, next_row, sum-none}
use Rattle.matrix.proofs.RoundTrip.{rising-rows}

-- ---- one row for a pair: each sum is an amount

take-small : (k : ℕ) (rs : List Demand) (i j : ℕ) → sum_of (take k rs) i j ≤ sum_of rs i j
unfolding sum_of
take-small zero rs i j = omega arith
take-small (suc k) [] i j = omega arith
take-small (suc k) (r ∷ rs) i j = omega (arith, take-small k rs i j)

rising-small : {n a b : ℕ} {rs : List Demand} (most : ℕ) → Each (OnRing n) rs → Each (λ r. r.amount ≤ most) rs → Rising a b rs → (i j : ℕ) → i < j → sum_of rs i j ≤ most
unfolding sum_of
rising-small most none none no_row i j l = omega arith
rising-small most (more {a = r} {l = rs} o os) (more d ds) (next_row p rest) i j l =
    elim (ℕ_discrete r.first i) [
      | yes e ↦ elim (ℕ_discrete r.second j) [ yes f ↦ own e f | no f ↦ other (λ z. f z.1) (rising-small most os ds rest i j l) ]
      | no e ↦ other (λ z. e z.0) (rising-small most os ds rest i j l)
    ]
  where
    own : r.first ≡ i → r.second ≡ j → part_of r i j + sum_of rs i j ≤ most
    own e f = omega (arith, part-own r i j e f, rw (e, f) at (sum-none o.order os rest))

    other : ((r.first ≡ i) × (r.second ≡ j) → ⊥) → sum_of rs i j ≤ most → part_of r i j + sum_of rs i j ≤ most
    other h small = omega (arith, part-other r i j h (λ z. omega (arith, z.0, z.1, o.order)))

pub one-each-fit : (ring : Ring) (rs : List Demand) → TableInRange desk ring rs → OneEach rs → (k : ℕ) → Passes desk rs k → ⊥
one-each-fit ring rs table each k p =
    let r : Demand = get_or rs (k - 1) (demand 0 0 0) in
    let o : OnRing ring.nodes r = each_at table.within.rows.nodes (demand 0 0 0) (k - 1) (omega (arith, p.low, p.high)) in
    omega (
      arith,
      p.wrong,
      take-small k rs r.first r.second,
      rising-small desk.amount table.within.rows.nodes table.within.amounts (rising-rows table.within.rows.nodes table.within.rows.order each.one) r.first r.second o.order,
    )
