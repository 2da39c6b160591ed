-- Rows that are fine one behind the other are a table's rows, as many as there may be and with amounts in range, and the other way round.
use Prim.Native.Nat.{ℕ, ◌+◌, ◌≤◌, ◌<◌}
use mathlib.Core.List.{List, [], ◌∷◌}
use mathlib.Core.Path.{◌≡◌, refl}
use native.Mathlib.Omega.{arith}
use lib.ListN.{length}
use Rattle.ring.specs.Lists.{Each, none, more, Steps, no_member, one_member, step}
use Rattle.std.specs.Prelude.{Option, Some, None}
use Rattle.ring.specs.Demand.{OnRing}
use Rattle.ring.specs.TableRows.{InTableOrder, TableRows}
use Rattle.ring.specs.declared.types.Demand.{Demand}
use Rattle.ring.specs.Limits.{Limits}
use Rattle.reasons.proofs.Judged.{InOrder, behind_none, behind_row}

-- behind k rows, of which the last is `above`, each row is fine
pub data FineRows (limits : Limits) (n : ℕ) : ℕ → Option Demand → List Demand → Type 0 where
  no_row : {k : ℕ} {above : Option Demand} → FineRows limits n k above []
  fine_row : {k : ℕ} {above : Option Demand} {r : Demand} {rs : List Demand} → OnRing n r → InOrder above r → k < limits.rows → r.amount ≤ limits.amount
      → FineRows limits n (k + 1) (Some r) rs → FineRows limits n k above (r ∷ rs)

behind : {above : Option Demand} {r : Demand} → InOrder above r → (a : Demand) → above ≡ Some a → InTableOrder a r
behind behind_none a e = absurd (cc)
behind (behind_row {q} up) a e = let same : q ≡ a = cc in rw same at up

module _ {limits : Limits} {n : ℕ} where
  fine-behind : (k : ℕ) {a : Demand} {rs : List Demand} → Each (OnRing n) rs → Steps InTableOrder (a ∷ rs) → k + length rs ≤ limits.rows
      → Each (λ r. r.amount ≤ limits.amount) rs → FineRows limits n k (Some a) rs
  fine-behind k none one_member c none = no_row
  fine-behind k (more o os) (step up ups) c (more m ms) = fine_row {k = k} o (behind_row up) (omega arith) m (fine-behind (k + 1) os ups (omega arith) ms)

  pub fine-rows : {rs : List Demand} → TableRows n rs → length rs ≤ limits.rows → Each (λ r. r.amount ≤ limits.amount) rs → FineRows limits n 0 None rs
  fine-rows t c ms = go t.nodes t.order c ms
    where
      go : {rs : List Demand} → Each (OnRing n) rs → Steps InTableOrder rs → length rs ≤ limits.rows → Each (λ r. r.amount ≤ limits.amount) rs
          → FineRows limits n 0 None rs
      go none ups c none = no_row
      go (more o os) ups c (more m ms) = fine_row {k = 0} o behind_none (omega arith) m (fine-behind 1 os ups (omega arith) ms)

  order-behind : {k : ℕ} {above : Option Demand} {rs : List Demand} → FineRows limits n k above rs → (a : Demand) → above ≡ Some a → Steps InTableOrder (a ∷ rs)
  order-behind no_row a e = one_member
  order-behind (fine_row {r = r} o up c m f) a e = step (behind up a e) (order-behind f r refl)

  in_order : {k : ℕ} {above : Option Demand} {rs : List Demand} → FineRows limits n k above rs → Steps InTableOrder rs
  in_order no_row = no_member
  in_order (fine_row {r = r} o up c m f) = order-behind f r refl

  on-ring : {k : ℕ} {above : Option Demand} {rs : List Demand} → FineRows limits n k above rs → Each (OnRing n) rs
  on-ring no_row = none
  on-ring (fine_row o up c m f) = more o (on-ring f)

  pub table-rows : {k : ℕ} {above : Option Demand} {rs : List Demand} → FineRows limits n k above rs → TableRows n rs
  table-rows f = record { nodes = on-ring f; order = in_order f }

  pub amounts-fine : {k : ℕ} {above : Option Demand} {rs : List Demand} → FineRows limits n k above rs → Each (λ r. r.amount ≤ limits.amount) rs
  amounts-fine no_row = none
  amounts-fine (fine_row o up c m f) = more m (amounts-fine f)

  pub count-fine : {k : ℕ} {above : Option Demand} {rs : List Demand} → FineRows limits n k above rs → k ≤ limits.rows → k + length rs ≤ limits.rows
  count-fine no_row c = omega arith
  count-fine (fine_row o up c m f) l = omega (arith, count-fine f (omega arith))
