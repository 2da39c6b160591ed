-- A row that is fine fits into the columns, so small are its numbers.
use Prim.Native.Nat.{ℕ, ◌<◌}
use mathlib.Core.Path.{◌≡◌, sym}
use native.Mathlib.Omega.{arith}
use Rattle.ring.specs.Limits.{desk}
use Rattle.ring.specs.declared.types.Demand.{Demand}
use Rattle.reasons.specs.declared.reason.Reason.{Reason}
use Rattle.reasons.specs.Verdict.{Verdict}
use Rattle.std.specs.Prelude.{Ok, Err, None}
use Rattle.reasons.proofs.Judged.{RowJudged, no_such_node, not_below, out_of_order, too_many, too_much, row_fine, row-judged}
use Rattle.work.specs.Bytes.{ring_size}
use Rattle.work.specs.Changes.{Fitting, verdict_in}
use Rattle.work.specs.declared.Work.{Work}

never : {reason : Reason} → ◌≡◌ {A = Verdict} (Err reason) (Ok tt) → ⊥
never q = absurd (cc)

pub fitting : (w : Work) (r : Demand) (k : ℕ) → Ok tt ≡ verdict_in w r → k < desk.rows → Fitting k r
fitting w r k f l = go (verdict_in w r) (sym f) (row-judged desk (ring_size w.ring.nodes) 0 None r)
  where
    go : (u : Verdict) → u ≡ Ok tt → RowJudged desk (ring_size w.ring.nodes) 0 None r u → Fitting k r
    go u q (row_fine on up c m) = record { place = l; low = on.low; first = omega (arith, on.order, on.high); second = omega (arith, on.high); amount = omega arith }
    go u q (no_such_node x) = absurd (never q)
    go u q (not_below x y z) = absurd (never q)
    go u q (out_of_order x y z o) = absurd (never q)
    go u q (too_many x y z o c) = absurd (never q)
    go u q (too_much x y z o c m) = absurd (never q)
