-- What each reason says against a ring's and a row's numbers; and a verdict is the first reason against them, by the cases of the judging.
use Prim.Native.Nat.{ℕ, ◌≤◌, ◌<◌}
use mathlib.Core.Logic.{◌⊎◌, inl, inr, ⊎_elim}
use mathlib.Core.Path.{◌≡◌, refl}
use native.Mathlib.Omega.{arith}
use Rattle.ring.specs.Demand.{OnRing}
use Rattle.ring.specs.Limits.{Limits}
use Rattle.ring.specs.declared.types.Ring.{Ring}
use Rattle.ring.specs.declared.types.Demand.{Demand}
use Rattle.ring.specs.LineSize.{IsFibres}
use Rattle.reasons.specs.Reasons.{rank_of}
use Rattle.reasons.specs.RowFindings.{NoNode, Falls}
use Rattle.reasons.specs.Judge.{ring_verdict, row_verdict}
use Rattle.reasons.specs.declared.reason.Reason.{Reason}
use Rattle.reasons.specs.declared.reason.Reason.TheVariants.{RingSize, Fibres, NoSuchNode, NotBelow, OutOfOrder, TooMany, TooMuch}
use Rattle.reasons.specs.Verdict.{Verdict}
use Rattle.std.specs.Prelude.{Option, Ok, Err}
use Rattle.reasons.proofs.Judged.{RingJudged, size_wrong, wrong_fibres, right_ring, ring-judged, HasNode, InOrder, behind_none, behind_row, RowJudged, no_such_node, not_below, out_of_order, too_many, too_much, row_fine, row-judged}

-- the verdict comes no later than the reason s, and where it is Ok there is no such reason
abbrev pub NoLater : Verdict → Reason → Type 0
NoLater (Ok tt) s = ⊥
NoLater (Err r) s = rank_of r ≤ rank_of s

-- ---- a row, behind k rows

pub data AgainstRow (limits : Limits) (n k : ℕ) (above : Option Demand) (r : Demand) : Reason → Type 0 where
  by_nodes : NoNode n r.first ⊎ NoNode n r.second → AgainstRow limits n k above r NoSuchNode
  by_pair : r.second ≤ r.first → AgainstRow limits n k above r NotBelow
  by_order : Falls above r → AgainstRow limits n k above r OutOfOrder
  by_count : limits.rows ≤ k → AgainstRow limits n k above r TooMany
  by_amount : limits.amount < r.amount → AgainstRow limits n k above r TooMuch

pub no-node-there : {n i : ℕ} → HasNode n i → NoNode n i → ⊥
no-node-there h (inl l) = omega (arith, h.0)
no-node-there h (inr l) = omega (arith, h.1)

pub has-nodes : {n i j : ℕ} → HasNode n i → HasNode n j → NoNode n i ⊎ NoNode n j → ⊥
has-nodes h k = ⊎_elim (no-node-there h) (no-node-there k)

pub in_order : {above : Option Demand} {r : Demand} → InOrder above r → Falls above r → ⊥
in_order behind_none m = m
in_order (behind_row (inl l)) (inl m) = omega arith
in_order (behind_row (inl l)) (inr m) = omega (arith, m.0)
in_order (behind_row (inr l)) (inl m) = omega (arith, l.0)
in_order (behind_row (inr l)) (inr m) = omega (arith, l.1, m.1)

module _ {limits : Limits} {n k : ℕ} {above : Option Demand} {r : Demand} where
  pub row-least : {v : Verdict} {s : Reason} → RowJudged limits n k above r v → AgainstRow limits n k above r s → NoLater v s
  row-least (no_such_node u) (by_nodes w) = omega arith
  row-least (no_such_node u) (by_pair w) = omega arith
  row-least (no_such_node u) (by_order w) = omega arith
  row-least (no_such_node u) (by_count w) = omega arith
  row-least (no_such_node u) (by_amount w) = omega arith
  row-least (not_below h p l) (by_nodes w) = absurd (has-nodes h p w)
  row-least (not_below h p l) (by_pair w) = omega arith
  row-least (not_below h p l) (by_order w) = omega arith
  row-least (not_below h p l) (by_count w) = omega arith
  row-least (not_below h p l) (by_amount w) = omega arith
  row-least (out_of_order h p l o) (by_nodes w) = absurd (has-nodes h p w)
  row-least (out_of_order h p l o) (by_pair w) = absurd (omega arith)
  row-least (out_of_order h p l o) (by_order w) = omega arith
  row-least (out_of_order h p l o) (by_count w) = omega arith
  row-least (out_of_order h p l o) (by_amount w) = omega arith
  row-least (too_many h p l o c) (by_nodes w) = absurd (has-nodes h p w)
  row-least (too_many h p l o c) (by_pair w) = absurd (omega arith)
  row-least (too_many h p l o c) (by_order w) = absurd (in_order o w)
  row-least (too_many h p l o c) (by_count w) = omega arith
  row-least (too_many h p l o c) (by_amount w) = omega arith
  row-least (too_much h p l o c m) (by_nodes w) = absurd (has-nodes h p w)
  row-least (too_much h p l o c m) (by_pair w) = absurd (omega arith)
  row-least (too_much h p l o c m) (by_order w) = absurd (in_order o w)
  row-least (too_much h p l o c m) (by_count w) = absurd (omega arith)
  row-least (too_much h p l o c m) (by_amount w) = omega arith
  row-least (row_fine on o c m) (by_nodes w) = has-nodes (on.low, omega (arith, on.order, on.high)) (omega (arith, on.order), on.high) w
  row-least (row_fine on o c m) (by_pair w) = omega (arith, on.order)
  row-least (row_fine on o c m) (by_order w) = in_order o w
  row-least (row_fine on o c m) (by_count w) = omega arith
  row-least (row_fine on o c m) (by_amount w) = omega arith

pub fine-row-judged : (limits : Limits) (n k : ℕ) (above : Option Demand) (r : Demand) → OnRing n r → InOrder above r → k < limits.rows → r.amount ≤ limits.amount
    → row_verdict limits n k above r ≡ Ok tt
fine-row-judged limits n k above r on o c m = go (row-judged limits n k above r)
  where
    none : {s : Reason} → AgainstRow limits n k above r s → ⊥
    none = row-least (row_fine on o c m)

    go : {v : Verdict} → RowJudged limits n k above r v → v ≡ Ok tt
    go (no_such_node u) = absurd (none (by_nodes u))
    go (not_below h p l) = absurd (none (by_pair l))
    go (out_of_order h p l u) = absurd (none (by_order u))
    go (too_many h p l u x) = absurd (none (by_count x))
    go (too_much h p l u c x) = absurd (none (by_amount x))
    go (row_fine on o c m) = refl

-- where there is no room for it, a row of a table is one too many
pub full-row-judged : (limits : Limits) (n k : ℕ) (above : Option Demand) (r : Demand) → OnRing n r → InOrder above r → limits.rows ≤ k → row_verdict limits n k above r ≡ Err TooMany
full-row-judged limits n k above r on o c = go (row-judged limits n k above r)
  where
    first : RowJudged limits n k above r (Err TooMany)
    first = too_many (on.low, omega (arith, on.order, on.high)) (omega (arith, on.order), on.high) on.order o c

    go : {v : Verdict} → RowJudged limits n k above r v → v ≡ Err TooMany
    go (no_such_node u) = absurd (omega (arith, row-least first (by_nodes u)))
    go (not_below h p l) = absurd (omega (arith, row-least first (by_pair l)))
    go (out_of_order h p l u) = absurd (omega (arith, row-least first (by_order u)))
    go (too_many h p l u x) = refl
    go (too_much h p l u x m) = absurd (omega arith)
    go (row_fine q u x m) = absurd (omega arith)

-- ---- a ring

pub data AgainstRing (limits : Limits) (ring : Ring) : Reason → Type 0 where
  by_size : (ring.nodes < limits.fewest) ⊎ (limits.nodes < ring.nodes) → AgainstRing limits ring RingSize
  by_fibres : (IsFibres ring.fibres → ⊥) → AgainstRing limits ring Fibres

pub has-size : {least most n : ℕ} → least ≤ n → n ≤ most → (n < least) ⊎ (most < n) → ⊥
has-size few many (inl l) = omega arith
has-size few many (inr l) = omega arith

module _ {limits : Limits} {ring : Ring} where
  pub ring-least : {v : Verdict} {s : Reason} → RingJudged limits ring v → AgainstRing limits ring s → NoLater v s
  ring-least (size_wrong u) (by_size w) = omega arith
  ring-least (size_wrong u) (by_fibres w) = omega arith
  ring-least (wrong_fibres l m u) (by_size w) = absurd (has-size l m w)
  ring-least (wrong_fibres l m u) (by_fibres w) = omega arith
  ring-least (right_ring l m f) (by_size w) = has-size l m w
  ring-least (right_ring l m f) (by_fibres w) = w f

pub fine-ring-judged : (limits : Limits) (ring : Ring) → limits.fewest ≤ ring.nodes → ring.nodes ≤ limits.nodes → IsFibres ring.fibres → ring_verdict limits ring ≡ Ok tt
fine-ring-judged limits ring few many fibres = go (ring-judged limits ring)
  where
    go : {v : Verdict} → RingJudged limits ring v → v ≡ Ok tt
    go (size_wrong w) = absurd (has-size few many w)
    go (wrong_fibres l m w) = absurd (w fibres)
    go (right_ring l m f) = refl

-- a ring of too many nodes
pub big-ring-judged : (limits : Limits) (ring : Ring) → limits.nodes < ring.nodes → ring_verdict limits ring ≡ Err RingSize
big-ring-judged limits ring big = go (ring-judged limits ring)
  where
    go : {v : Verdict} → RingJudged limits ring v → v ≡ Err RingSize
    go (size_wrong w) = refl
    go (wrong_fibres l m w) = absurd (omega arith)
    go (right_ring l m f) = absurd (omega arith)
