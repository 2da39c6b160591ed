-- What a fault says of its verdict, and which row is the last.
use Prim.Native.Nat.{ℕ, zero, suc, ◌+◌, ◌≤◌}
use mathlib.Core.List.{List, [], ◌∷◌, ◌++◌}
use mathlib.Core.Logic.{inl, inr}
use mathlib.Core.Path.{◌≡◌, refl, sym, ◌∙◌}
use native.Mathlib.Omega.{arith}
use lib.ListN.{length}
use Rattle.std.specs.Prelude.{Result, Option, Some, Ok, Err, slice_get}
use Rattle.ring.specs.Limits.{Limits, desk}
use Rattle.ring.specs.declared.types.Ring.{Ring}
use Rattle.ring.specs.declared.types.Demand.{Demand}
use Rattle.reasons.specs.Judge.{ring_verdict, row_verdict}
use Rattle.reasons.specs.Faults.{verdict_found, ring_found, row_found, found_at, last_demand}
use Rattle.reasons.specs.Findings.{First}
use Rattle.reasons.specs.RowFindings.{ring_findings, demand_findings}
use Rattle.reasons.specs.Verdict.{Verdict}
use Rattle.reasons.specs.declared.reason.Reason.{Reason}
use Rattle.reasons.specs.declared.fault.Fault.{Fault}
use Rattle.reasons.proofs.Judged.{RingJudged, size_wrong, wrong_fibres, right_ring, ring-judged, RowJudged, no_such_node, not_below, out_of_order, too_many, too_much, row_fine, row-judged}
use Rattle.reasons.proofs.Against.{has-nodes, in_order, has-size}

module _ (field : Reason → ℕ) where
  pub found-none : (v : Verdict) → verdict_found v field ≡ Ok tt → v ≡ Ok tt
  unfolding verdict_found
  found-none (Ok tt) e = refl
  found-none (Err r) e = absurd (cc)

module _ (ring : Ring) (o : Result Unit Fault) (is : o ≡ ring_found desk ring) where
  pub ring-none : o ≡ Ok tt → Ok tt ≡ ring_verdict desk ring
  unfolding ring_found
  ring-none e = sym (found-none _ _ (sym is ∙ e))

-- where nothing is found against a ring, it has few enough nodes
pub ring_fits : (ring : Ring) (o : Result Unit Fault) → o ≡ ring_found desk ring → o ≡ Ok tt → ring.nodes ≤ desk.nodes
ring_fits ring o e f = let q = ring-none ring o e f in go (rw (← q) at (ring-judged desk ring))
  where
    go : RingJudged desk ring (Ok tt) → ring.nodes ≤ desk.nodes
    go (right_ring few many fibres) = many

module _ (n k : ℕ) (above : Option Demand) (r : Demand) (o : Result Unit Fault) (is : o ≡ row_found desk n k above r) where
  pub row-none : o ≡ Ok tt → Ok tt ≡ row_verdict desk n k above r
  unfolding row_found
  row-none e = sym (found-none _ _ (sym is ∙ e))

-- ---- the last row

pub last-at : (rs : List Demand) (k : ℕ) (r : Demand) → length rs ≡ suc k → slice_get rs k ≡ Some r → Some r ≡ last_demand rs
last-at [] k r e h = absurd (cc)
last-at (x ∷ []) zero r e h = sym h
last-at (x ∷ []) (suc k) r e h = absurd (omega arith)
last-at (x ∷ y ∷ rs) zero r e h = absurd (omega arith)
last-at (x ∷ y ∷ rs) (suc k) r e h = last-at (y ∷ rs) k r (omega arith) h

pub last-more : (rs : List Demand) (r : Demand) → last_demand (rs ++ r ∷ []) ≡ Some r
last-more [] r = refl
last-more (x ∷ []) r = refl
last-more (x ∷ y ∷ rs) r = last-more (y ∷ rs) r

-- ---- a verdict is the first of the findings

fits-ring : (limits : Limits) (ring : Ring) {v : Verdict} (field : Reason → ℕ) → RingJudged limits ring v → First (ring_findings limits ring) (found_at 0 (verdict_found v field))
unfolding verdict_found
fits-ring limits ring field (size_wrong w) = inl (w, refl)
fits-ring limits ring field (wrong_fibres l m w) = inr (has-size l m, inl (w, refl))
fits-ring limits ring field (right_ring l m f) = inr (has-size l m, inr (λ w. w f, refl))

pub ring-first : (limits : Limits) (ring : Ring) → First (ring_findings limits ring) (found_at 0 (ring_found limits ring))
unfolding ring_found
ring-first limits ring = fits-ring limits ring _ (ring-judged limits ring)

pub ring_given : (ring : Ring) (o : Result Unit Fault) → o ≡ ring_found desk ring → First (ring_findings desk ring) (found_at 0 o)
ring_given ring o is = rw is (ring-first desk ring)

fits-row : (limits : Limits) (n k : ℕ) (above : Option Demand) (r : Demand) {v : Verdict} (field : Reason → ℕ) → RowJudged limits n k above r v
    → First (demand_findings limits n (k + 1) above r) (found_at (k + 1) (verdict_found v field))
unfolding verdict_found
fits-row limits n k above r field (no_such_node w) = inl (w, refl)
fits-row limits n k above r field (not_below h p w) = inr (has-nodes h p, inl (w, refl))
fits-row limits n k above r field (out_of_order h p l w) = inr (has-nodes h p, inr (λ m. omega arith, inl (w, refl)))
fits-row limits n k above r field (too_many h p l o w) = inr (has-nodes h p, inr (λ m. omega arith, inr (in_order o, inl (omega arith, refl))))
fits-row limits n k above r field (too_much h p l o c w) =
    inr (has-nodes h p, inr (λ m. omega arith, inr (in_order o, inr (λ m. omega arith, inl (w, refl)))))
fits-row limits n k above r field (row_fine on o c w) =
    inr (
      has-nodes (on.low, omega (arith, on.order, on.high)) (omega (arith, on.order), on.high),
      inr (λ m. omega (arith, on.order), inr (in_order o, inr (λ m. omega arith, inr (λ m. omega arith, refl)))),
    )

pub row-first : (limits : Limits) (n k : ℕ) (above : Option Demand) (r : Demand) → First (demand_findings limits n (k + 1) above r) (found_at (k + 1) (row_found limits n k above r))
unfolding row_found
row-first limits n k above r = fits-row limits n k above r _ (row-judged limits n k above r)

pub row_given : (n k : ℕ) (above : Option Demand) (r : Demand) (o : Result Unit Fault) → o ≡ row_found desk n k above r → First (demand_findings desk n (k + 1) above r) (found_at (k + 1) o)
row_given n k above r o is = rw is (row-first desk n k above r)
