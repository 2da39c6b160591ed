-- What each verdict on a ring or a row means: the tests taken apart once, in their order.
use Prim.Native.Nat.{ℕ, ◌≤◌, ◌<◌}
use mathlib.Core.Bool.{Bool, true, false}
use mathlib.Core.Logic.{◌⊎◌, inl, inr, ⊎_elim}
use mathlib.Core.Path.{◌≡◌, refl}
use native.Mathlib.Omega.{arith}
use native.Mathlib.Decide.{dec_lt, dec_le, ℕ_discrete}
use lib.Dec.{ltb}
use borrow.Author.Tests.{lt-ltb, le-ltb, le-leb, lt-leb, eq-eqb, ne_eqb}
use Rattle.ring.specs.Demand.{OnRing}
use Rattle.ring.specs.TableRows.{InTableOrder}
use Rattle.ring.specs.Limits.{Limits}
use Rattle.ring.specs.declared.types.Ring.{Ring}
use Rattle.ring.specs.declared.types.Demand.{Demand}
use Rattle.ring.specs.LineSize.{two_fibres, four_fibres, IsFibres}
use Rattle.reasons.specs.RowFindings.{NoNode, Falls}
use Rattle.reasons.specs.Judge.{wrong_size, check_size, other_fibres, ring_verdict, outside, falls, row_verdict}
use Rattle.reasons.specs.declared.reason.Reason.TheVariants.{RingSize, Fibres, NoSuchNode, NotBelow, OutOfOrder, TooMany, TooMuch}
use Rattle.reasons.specs.Verdict.{Verdict}
use Rattle.std.specs.Prelude.{Option, Some, None, Ok, Err}

-- ---- a ring

data Size (limits : Limits) (n : ℕ) : Type 0 where
  wrong : (n < limits.fewest) ⊎ (limits.nodes < n) → wrong_size limits n ≡ true → Size limits n
  right : limits.fewest ≤ n → n ≤ limits.nodes → wrong_size limits n ≡ false → Size limits n

size : (limits : Limits) (n : ℕ) → Size limits n
unfolding wrong_size
size limits n =
    elim (dec_lt n limits.fewest) [
      | yes l ↦ wrong (inl l) (rw (lt-ltb n limits.fewest l))
      | no l ↦ elim (dec_lt limits.nodes n) [
        | yes m ↦ wrong (inr m) (let k : limits.fewest ≤ n = omega arith in rw (le-ltb n limits.fewest k, lt-ltb limits.nodes n m))
        | no m ↦ right (omega arith) (omega arith) (let k : limits.fewest ≤ n = omega arith in let h : n ≤ limits.nodes = omega arith in rw (le-ltb n limits.fewest k, le-ltb limits.nodes n h))
      ]
    ]

pub data SizeJudged (limits : Limits) (n : ℕ) : Verdict → Type 0 where
  not_so_many : (n < limits.fewest) ⊎ (limits.nodes < n) → SizeJudged limits n (Err RingSize)
  right_size : limits.fewest ≤ n → n ≤ limits.nodes → SizeJudged limits n (Ok tt)

pub size-judged : (limits : Limits) (n : ℕ) → SizeJudged limits n (check_size limits n)
unfolding check_size
size-judged limits n = go (size limits n)
  where
    go : Size limits n → SizeJudged limits n (check_size limits n)
    go (wrong w e) = rw e (not_so_many w)
    go (right few many e) = rw e (right_size few many)

pub fine-size : (limits : Limits) (n : ℕ) → limits.fewest ≤ n → n ≤ limits.nodes → check_size limits n ≡ Ok tt
fine-size limits n few many = go (size-judged limits n)
  where
    go : {v : Verdict} → SizeJudged limits n v → v ≡ Ok tt
    go (not_so_many w) = absurd (⊎_elim (λ l. omega arith) (λ l. omega arith) w)
    go (right_size a b) = refl

-- fibres, by their test
pub data Fibred (fibres : ℕ) : Type 0 where
  other : (IsFibres fibres → ⊥) → other_fibres fibres ≡ true → Fibred fibres
  known : IsFibres fibres → other_fibres fibres ≡ false → Fibred fibres

pub fibred : (fibres : ℕ) → Fibred fibres
unfolding other_fibres
fibred fibres =
    elim (ℕ_discrete fibres two_fibres) [
      | yes e ↦ known (inl e) (rw (eq-eqb fibres two_fibres e))
      | no e ↦ elim (ℕ_discrete fibres four_fibres) [
        | yes f ↦ known (inr f) (rw (ne_eqb fibres two_fibres e, eq-eqb fibres four_fibres f))
        | no f ↦ other (⊎_elim e f) (rw (ne_eqb fibres two_fibres e, ne_eqb fibres four_fibres f))
      ]
    ]

pub data RingJudged (limits : Limits) (ring : Ring) : Verdict → Type 0 where
  size_wrong : (ring.nodes < limits.fewest) ⊎ (limits.nodes < ring.nodes) → RingJudged limits ring (Err RingSize)
  wrong_fibres : limits.fewest ≤ ring.nodes → ring.nodes ≤ limits.nodes → (IsFibres ring.fibres → ⊥) → RingJudged limits ring (Err Fibres)
  right_ring : limits.fewest ≤ ring.nodes → ring.nodes ≤ limits.nodes → IsFibres ring.fibres → RingJudged limits ring (Ok tt)

pub ring-judged : (limits : Limits) (ring : Ring) → RingJudged limits ring (ring_verdict limits ring)
unfolding ring_verdict
ring-judged limits ring = go (size limits ring.nodes) (fibred ring.fibres)
  where
    go : Size limits ring.nodes → Fibred ring.fibres → RingJudged limits ring (ring_verdict limits ring)
    go (wrong w e) f = rw e (size_wrong w)
    go (right l m e) (other o f) = rw (e, f) (wrong_fibres l m o)
    go (right l m e) (known o f) = rw (e, f) (right_ring l m o)

-- ---- a node

-- within 1..n
abbrev pub HasNode : ℕ → ℕ → Type 0
HasNode n i = (1 ≤ i) × (i ≤ n)

pub data Node (n i : ℕ) : Type 0 where
  no_node : NoNode n i → outside n i ≡ true → Node n i
  has_node : HasNode n i → outside n i ≡ false → Node n i

pub node : (n i : ℕ) → Node n i
unfolding outside
node n i =
    elim (dec_lt i 1) [
      | yes l ↦ no_node (inl l) (rw (lt-ltb i 1 l))
      | no l ↦ elim (dec_lt n i) [
        | yes m ↦ no_node (inr m) (let k : 1 ≤ i = omega arith in rw (le-ltb i 1 k, lt-ltb n i m))
        | no m ↦ has_node (omega arith, omega arith) (let k : 1 ≤ i = omega arith in let h : i ≤ n = omega arith in rw (le-ltb i 1 k, le-ltb n i h))
      ]
    ]

-- ---- two rows' nodes

-- a row that does not fall
pub data InOrder : Option Demand → Demand → Type 0 where
  behind_none : {r : Demand} → InOrder None r
  behind_row : {q r : Demand} → InTableOrder q r → InOrder (Some q) r

data Order (above : Option Demand) (r : Demand) : Type 0 where
  does_fall : Falls above r → falls above r ≡ true → Order above r
  keeps : InOrder above r → falls above r ≡ false → Order above r

order : (above : Option Demand) (r : Demand) → Order above r
unfolding falls
order None r = keeps behind_none refl
order (Some q) r =
    elim (dec_lt r.first q.first) [
      | yes l ↦ does_fall (inl l) (rw (lt-ltb r.first q.first l))
      | no l ↦ elim (ℕ_discrete r.first q.first) [
        | yes e ↦ elim (dec_lt r.second q.second) [
          | yes m ↦ does_fall (inr (e, m)) (same (omega arith) e (lt-ltb r.second q.second m))
          | no m ↦ keeps (behind_row (inr (omega arith, omega arith))) (same (omega arith) e (le-ltb r.second q.second (omega arith)))
        ]
        | no n ↦ keeps (behind_row (inl (omega arith))) (let k : q.first ≤ r.first = omega arith in rw (le-ltb r.first q.first k, ne_eqb r.first q.first n))
      ]
    ]
  where
    same : {t : Bool} → q.first ≤ r.first → r.first ≡ q.first → ltb r.second q.second ≡ t → falls (Some q) r ≡ t
    same l e f = rw (le-ltb r.first q.first l, eq-eqb r.first q.first e) f

-- ---- a row, behind k rows

pub data RowJudged (limits : Limits) (n k : ℕ) (above : Option Demand) (r : Demand) : Verdict → Type 0 where
  no_such_node : NoNode n r.first ⊎ NoNode n r.second → RowJudged limits n k above r (Err NoSuchNode)
  not_below : HasNode n r.first → HasNode n r.second → r.second ≤ r.first → RowJudged limits n k above r (Err NotBelow)
  out_of_order : HasNode n r.first → HasNode n r.second → r.first < r.second → Falls above r → RowJudged limits n k above r (Err OutOfOrder)
  too_many : HasNode n r.first → HasNode n r.second → r.first < r.second → InOrder above r → limits.rows ≤ k → RowJudged limits n k above r (Err TooMany)
  too_much : HasNode n r.first → HasNode n r.second → r.first < r.second → InOrder above r → k < limits.rows → limits.amount < r.amount → RowJudged limits n k above r (Err TooMuch)
  row_fine : OnRing n r → InOrder above r → k < limits.rows → r.amount ≤ limits.amount → RowJudged limits n k above r (Ok tt)

pub row-judged : (limits : Limits) (n k : ℕ) (above : Option Demand) (r : Demand) → RowJudged limits n k above r (row_verdict limits n k above r)
unfolding row_verdict
row-judged limits n k above r = go (node n r.first) (node n r.second) (dec_le r.second r.first) (order above r) (dec_le limits.rows k) (dec_lt limits.amount r.amount)
  where
    go : Node n r.first → Node n r.second → Dec (r.second ≤ r.first) → Order above r → Dec (limits.rows ≤ k) → Dec (limits.amount < r.amount)
        → RowJudged limits n k above r (row_verdict limits n k above r)
    go (no_node u e) s t o c m = rw e (no_such_node (inl u))
    go (has_node u e) (no_node v f) t o c m = rw (e, f) (no_such_node (inr v))
    go (has_node u e) (has_node v f) (yes l) o c m = rw (e, f, le-leb r.second r.first l) (not_below u v l)
    go (has_node u e) (has_node v f) (no l) (does_fall w g) c m = let q : r.first < r.second = omega arith in rw (e, f, lt-leb r.second r.first q, g) (out_of_order u v q w)
    go (has_node u e) (has_node v f) (no l) (keeps w g) (yes c) m =
        let q : r.first < r.second = omega arith in rw (e, f, lt-leb r.second r.first q, g, le-leb limits.rows k c) (too_many u v q w c)
    go (has_node u e) (has_node v f) (no l) (keeps w g) (no c) (yes m) =
        let q : r.first < r.second = omega arith in
        let room : k < limits.rows = omega arith in
        rw (e, f, lt-leb r.second r.first q, g, lt-leb limits.rows k room, lt-ltb limits.amount r.amount m) (too_much u v q w room m)
    go (has_node u e) (has_node v f) (no l) (keeps w g) (no c) (no m) =
        let q : r.first < r.second = omega arith in
        let room : k < limits.rows = omega arith in
        let h : r.amount ≤ limits.amount = omega arith in
        rw (e, f, lt-leb r.second r.first q, g, lt-leb limits.rows k room, le-ltb limits.amount r.amount h) (row_fine (record { low = u.0; order = q; high = v.1 }) w room h)
