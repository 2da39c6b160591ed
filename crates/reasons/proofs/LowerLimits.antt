-- A desk of lower limits beside one of higher limits: what it finds against a ring or a row, the other finds too, but for 2, 3 and 16.
use Prim.Native.Nat.{ℕ, ◌≤◌, ◌<◌}
use mathlib.Core.Path.{◌≡◌, refl}
use native.Mathlib.Omega.{arith}
use native.Mathlib.Decide.{dec_lt, dec_le}
use borrow.Author.Tests.{lt-ltb, le-ltb, lt-leb, le-leb}
use Rattle.std.specs.Prelude.{Bool, true, false, cond, ◌||◌, leb, ltb, Option, Ok, Err, ◌^◌}
use Rattle.ring.specs.Limits.{Limits, desk, old}
use Rattle.ring.specs.declared.types.Ring.{Ring}
use Rattle.ring.specs.declared.types.Demand.{Demand}
use Rattle.reasons.specs.Judge.{wrong_size, ring_verdict, outside, falls, row_verdict}
use Rattle.reasons.specs.Verdict.{Verdict}
use Rattle.reasons.specs.declared.reason.Reason.{Reason}
use Rattle.reasons.specs.declared.reason.Reason.TheVariants.{Misshapen, RingSize, NoSuchNode, NotBelow, OutOfOrder, TooMany, TooMuch}

-- limits of which none is above the other's, and no M may stand but where one may there; texts, the least ring and amounts have the same, and a node or an amount of the higher ones is no number too long for the lower
pub record Lower (low high : Limits) : Type 0 where
  pub bytes : low.bytes ≡ high.bytes
  pub fewest : low.fewest ≡ high.fewest
  pub amount : low.amount ≡ high.amount
  pub nodes : low.nodes ≤ high.nodes
  pub rows : low.rows ≤ high.rows
  pub digits : low.digits ≤ high.digits
  pub marks : low.marks ≡ true → high.marks ≡ true
  pub spelled : (high.nodes < 10 ^ low.digits) × (high.amount < 10 ^ low.digits)

pub old-lower : Lower old desk
old-lower = record { bytes = refl; fewest = refl; amount = refl; nodes = omega arith; rows = omega arith; digits = omega arith; marks = λ e. refl; spelled = (omega arith, omega arith) }

-- ---- what is found against a ring or a row

-- 2, 3 and 16: what a desk of lower limits may refuse where one of higher limits does not
pub data Lost : Reason → Type 0 where
  lost_shape : Lost Misshapen
  lost_size : Lost RingSize
  lost_count : Lost TooMany

-- the same verdict, or one of these
pub data VerdictAlike : Verdict → Verdict → Type 0 where
  same_verdict : {v : Verdict} → VerdictAlike v v
  lost_verdict : {r : Reason} {v : Verdict} → Lost r → VerdictAlike (Err r) v

module _ {low high : Limits} (lower : Lower low high) where
  pub ring-alike : (ring : Ring) → VerdictAlike (ring_verdict low ring) (ring_verdict high ring)
  unfolding ring_verdict wrong_size
  ring-alike ring =
      elim (dec_lt ring.nodes low.fewest) [
        | yes a ↦ rw (lt-ltb ring.nodes low.fewest a) (lost_verdict lost_size)
        | no a ↦ elim (dec_lt low.nodes ring.nodes) [
          | yes b ↦ rw (le-ltb ring.nodes low.fewest (omega arith), lt-ltb low.nodes ring.nodes b) (lost_verdict lost_size)
          | no b ↦
              let few : high.fewest ≤ ring.nodes = omega (arith, lower.fewest) in
              let many : ring.nodes ≤ high.nodes = omega (arith, lower.nodes) in
              rw (le-ltb ring.nodes low.fewest (omega arith), le-ltb low.nodes ring.nodes (omega arith), le-ltb ring.nodes high.fewest few, le-ltb high.nodes ring.nodes many) same_verdict
        ]
      ]

  pub row-alike : (n k : ℕ) (above : Option Demand) (r : Demand) → VerdictAlike (row_verdict low n k above r) (row_verdict high n k above r)
  unfolding row_verdict
  row-alike n k above r = go (outside n r.first || outside n r.second) (leb r.second r.first) (falls above r)
    where
      go : (a b c : Bool) → VerdictAlike
          (cond a (Err NoSuchNode) (cond b (Err NotBelow) (cond c (Err OutOfOrder) (cond (leb low.rows k) (Err TooMany) (cond (ltb low.amount r.amount) (Err TooMuch) (Ok tt))))))
          (cond a (Err NoSuchNode) (cond b (Err NotBelow) (cond c (Err OutOfOrder) (cond (leb high.rows k) (Err TooMany) (cond (ltb high.amount r.amount) (Err TooMuch) (Ok tt))))))
      go true b c = same_verdict
      go false true c = same_verdict
      go false false true = same_verdict
      go false false false =
          elim (dec_le low.rows k) [
            | yes h ↦ rw (le-leb low.rows k h) (lost_verdict lost_count)
            | no h ↦
                let room : k < high.rows = omega (arith, lower.rows) in
                let e = lower.amount in
                rw (lt-leb low.rows k (omega arith), lt-leb high.rows k room, e) same_verdict
          ]

  -- within the lower limits both find the same
  pub ring-same : (ring : Ring) → low.fewest ≤ ring.nodes → ring.nodes ≤ low.nodes → ring_verdict low ring ≡ ring_verdict high ring
  unfolding ring_verdict wrong_size
  ring-same ring few many =
      let f : high.fewest ≤ ring.nodes = omega (arith, lower.fewest) in
      let m : ring.nodes ≤ high.nodes = omega (arith, lower.nodes) in
      rw (le-ltb ring.nodes low.fewest few, le-ltb low.nodes ring.nodes many, le-ltb ring.nodes high.fewest f, le-ltb high.nodes ring.nodes m)

  pub row-same : (n k : ℕ) (above : Option Demand) (r : Demand) → k < low.rows → row_verdict low n k above r ≡ row_verdict high n k above r
  unfolding row_verdict
  row-same n k above r room =
      let m : k < high.rows = omega (arith, lower.rows) in
      let e = lower.amount in
      rw (lt-leb low.rows k room, lt-leb high.rows k m, e)
