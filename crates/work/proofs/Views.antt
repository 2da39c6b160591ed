-- What the code finds is what the list of places says: a row's verdict by the findings against it, the place named, the lowest free place.
use Prim.Native.Nat.{ℕ, ◌+◌, ◌-◌, ◌≤◌, ◌<◌}
use mathlib.Core.Bool.{true, false, not, and-false}
use mathlib.Core.List.{List}
use mathlib.Core.Logic.{◌⊎◌, inl, inr}
use mathlib.Core.Path.{◌≡◌, refl, ◌∙◌}
use native.Mathlib.Omega.{arith}
use native.Mathlib.Decide.{dec_lt}
use lib.Dec.{ltb, eqb}
use lib.ListN.{length, get_or, get_or-eq_default}
use borrow.Author.Tests.{lt-ltb, le-ltb, eqb-true, eq-eqb}
use Rattle.std.specs.Prelude.{Option, Some, None, Result, Ok, Err}
use Rattle.std.specs.List.{position_or_len}
use Rattle.std.proofs.lemmas.List.Sums.{prefix_len_passes, prefix_len_stops}
use Rattle.ring.specs.Limits.{desk}
use Rattle.ring.specs.Demand.{demand}
use Rattle.ring.specs.declared.types.Demand.{Demand}
use Rattle.reasons.specs.Findings.{Given, NoneHolds}
use Rattle.reasons.specs.RowFindings.{demand_findings, NoNode}
use Rattle.reasons.specs.Judge.{row_verdict}
use Rattle.reasons.specs.declared.reason.Reason.{Reason}
use Rattle.reasons.specs.declared.reason.Reason.TheVariants.{NoRow}
use Rattle.reasons.specs.Verdict.{Verdict}
use Rattle.reasons.proofs.Judged.{RowJudged, no_such_node, not_below, out_of_order, too_many, too_much, row_fine, row-judged}
use Rattle.work.specs.Places.{Place, empty, HoldsAt, Taken, HoldsNone, AllTaken, LowestFree, table_held}
use Rattle.work.specs.Changes.{free_in, holds_in, index_in, Sized}
use Rattle.work.specs.declared.Work.{Work}
use Rattle.work.proofs.Right.{Good, count, place_is, place-holds}

-- ---- a row

pub data Judged (n : ℕ) (r : Demand) : Verdict → Type 1 where
  bad : {reason : Reason} → Given (demand_findings desk n 0 None r) reason 0 → Judged n r (Err reason)
  good : Good n r → NoneHolds (demand_findings desk n 0 None r) → Judged n r (Ok tt)

on-ring : {n i j : ℕ} → (1 ≤ i) × (i ≤ n) → (1 ≤ j) × (j ≤ n) → NoNode n i ⊎ NoNode n j → ⊥
on-ring a b (inl (inl l)) = omega (arith, a.0)
on-ring a b (inl (inr l)) = omega (arith, a.1)
on-ring a b (inr (inl l)) = omega (arith, b.0)
on-ring a b (inr (inr l)) = omega (arith, b.1)

pub judged_demand : (n : ℕ) (r : Demand) → Judged n r (row_verdict desk n 0 None r)
judged_demand n r = go (row-judged desk n 0 None r)
  where
    go : {v : Verdict} → RowJudged desk n 0 None r v → Judged n r v
    go (no_such_node x) = bad (inl (x, refl))
    go (not_below a b l) = bad (inr (on-ring a b, inl (l, refl)))
    go (out_of_order a b l o) = absurd o
    go (too_many a b l o c) = absurd (omega arith)
    go (too_much a b l o c m) = bad (inr (on-ring a b, inr ((λ k. omega (arith, l)), inr ((λ z. z), inr ((λ k. omega arith), inl (m, refl))))))
    go (row_fine on o c m) =
        let a : (1 ≤ r.first) × (r.first ≤ n) = (on.low, omega (arith, on.order, on.high)) in
        let b : (1 ≤ r.second) × (r.second ≤ n) = (omega (arith, on.order), on.high) in
        good (record { on = on; small = m }) (inr (on-ring a b, inr ((λ k. omega (arith, on.order)), inr ((λ z. z), inr ((λ k. omega arith), inr ((λ k. omega (arith, m)), refl))))))

-- ---- the place named

module _ (w : Work) (s : Sized w) where
  abbrev ps : List Place
  ps = (table_held w).places

  -- a place of the columns with a first node holds the row that stands there, and one without holds none
  pub held-at : (k : ℕ) → 1 ≤ get_or w.first k 0 → HoldsAt ps k (demand (get_or w.first k 0) (get_or w.second k 0) (get_or w.amount k 0))
  held-at k l = place_is w s k ∙ place-holds _ _ _ l

  pub none-at : (k : ℕ) (r : Demand) → get_or w.first k 0 ≡ 0 → HoldsAt ps k r → ⊥
  none-at k r e h = let is : get_or ps k empty ≡ empty = place_is w s k ∙ (rw e) in absurd (cc)

  pub in-table : (k : ℕ) → 1 ≤ get_or w.first k 0 → k < desk.rows
  in-table k l =
      elim (dec_lt k desk.rows) [
        | yes m ↦ m
        | no m ↦ let none : get_or w.first k 0 ≡ 0 = get_or-eq_default w.first 0 (omega (arith, s.firsts)) in absurd (omega arith)
      ]

  pub taken-at : (q : ℕ) → 1 ≤ q → 1 ≤ get_or w.first (q - 1) 0 → Taken ps q
  taken-at q a l = record { r = _; there = record { from_1 = a; is = held-at (q - 1) l } }

  pub data Indexed (p : ℕ) : Result ℕ Reason → Type 0 where
    none_there : HoldsNone ps p → Indexed p (Err NoRow)
    row_there : 1 ≤ p → p - 1 < desk.rows → 1 ≤ get_or w.first (p - 1) 0 → Indexed p (Ok (p - 1))

  pub indexed : (p : ℕ) → Indexed p (index_in w.first p)
  unfolding index_in holds_in
  indexed p =
      elim (dec_lt 0 p) [
        | yes l ↦ elim (dec_lt 0 (get_or w.first (p - 1) 0)) [
          | yes m ↦
              let k = in-table (p - 1) m in
              rw (lt-ltb 0 p l, lt-ltb (p - 1) desk.rows k, lt-ltb 0 (get_or w.first (p - 1) 0) m) (row_there l k m)
          | no m ↦
              rw (lt-ltb 0 p l, le-ltb 0 (get_or w.first (p - 1) 0) (omega arith), and-false (ltb (p - 1) desk.rows))
              (none_there (λ t. none-at (p - 1) t.r (omega arith) t.there.is))
        ]
        | no l ↦ rw (le-ltb 0 p (omega arith)) (none_there (λ t. omega (arith, t.there.from_1)))
      ]

  -- ---- the lowest free place

  abbrev lowest : ℕ
  lowest = position_or_len (λ node. eqb node 0) w.first

  -- a place before it has a row
  before-it : (k : ℕ) → k < lowest → 1 ≤ get_or w.first k 0
  before-it k l =
      elim (dec_lt 0 (get_or w.first k 0)) [
        | yes m ↦ m
        | no m ↦
            let e : not (eqb (get_or w.first k 0) 0) ≡ true = prefix_len_passes (λ node. not (eqb node 0)) w.first k 0 l in
            let f : eqb (get_or w.first k 0) 0 ≡ true = eq-eqb (get_or w.first k 0) 0 (omega arith) in
            absurd (cc (rw f at e))
      ]

  pub data Freed : Option ℕ → Type 0 where
    all_taken : AllTaken ps → Freed None
    lowest_free : {k : ℕ} → k < desk.rows → get_or w.first k 0 ≡ 0 → LowestFree ps (k + 1) → Freed (Some k)

  free-there : lowest < desk.rows → get_or w.first lowest 0 ≡ 0
  free-there l =
      let e : not (eqb (get_or w.first lowest 0) 0) ≡ false = prefix_len_stops (λ node. not (eqb node 0)) w.first 0 (omega (arith, s.firsts)) in
      go (eqb (get_or w.first lowest 0) 0) refl e
    where
      go : (b : _) → eqb (get_or w.first lowest 0) 0 ≡ b → not b ≡ false → get_or w.first lowest 0 ≡ 0
      go true q e = eqb-true (get_or w.first lowest 0) 0 q
      go false q e = absurd (cc)

  pub freed : Freed (free_in w.first)
  freed =
      elim (dec_lt lowest (length w.first)) [
        | yes l ↦
            rw (lt-ltb lowest (length w.first) l)
            (let free = free-there (omega (arith, s.firsts)) in
            let back : lowest + 1 - 1 ≡ lowest = omega arith in
            lowest_free {k = lowest} (omega (arith, s.firsts)) free
            (record {
              from_1 = omega arith;
              to_last = omega (arith, count w s, s.firsts);
              free = λ t. none-at lowest t.r free (rw back at t.there.is);
              below = λ q a b. taken-at q a (before-it (q - 1) (omega arith));
            }))
        | no l ↦ rw (le-ltb lowest (length w.first) (omega arith)) (all_taken (λ q a b. taken-at q a (before-it (q - 1) (omega (arith, count w s, s.firsts)))))
      ]
