-- One reason is given, none where none holds, and an accepted call makes one table: what a call does
-- with a list of places is one thing, and each call does it.
use Prim.Native.Nat.{ℕ, zero, suc, ◌+◌, ◌-◌, ◌≤◌, ◌<◌}
use mathlib.Core.List.{List, [], ◌∷◌}
use mathlib.Core.Logic.{◌⊎◌, inl, inr}
use mathlib.Core.Path.{◌≡◌, refl, sym, ◌∙◌, ap}
use native.Mathlib.Omega.{arith}
use native.Mathlib.Decide.{dec_lt}
use lib.ListN.{length, get_or}
use Rattle.std.specs.Prelude.{None, Err}
use Rattle.ring.specs.Limits.{desk}
use Rattle.ring.specs.declared.types.Cut.{Cut}
use Rattle.ring.specs.declared.types.Demand.{Demand}
use Rattle.ring.specs.declared.types.Ring.{Ring}
use Rattle.reasons.specs.Findings.{Findings, nothing, finding, found, Given, NoneHolds}
use Rattle.reasons.specs.RowFindings.{demand_findings}
use Rattle.reasons.specs.Verdict.{Verdict}
use Rattle.reasons.specs.declared.finding.Finding.{Finding}
use Rattle.reasons.specs.declared.reason.Reason.{Reason}
use Rattle.reasons.specs.declared.reason.Reason.TheVariants.{RingSize, Fibres, NoRow, Full}
use Rattle.reasons.proofs.Findings.{fine, one-answer, then-on, then-stop}
use Rattle.reasons.proofs.Judged.{RingJudged, size_wrong, wrong_fibres, right_ring, ring-judged}
use Rattle.work.specs.Places.{Place, empty, holds, PlaceTable, Taken, HoldsNone, AllTaken, LowestFree}
use Rattle.work.specs.Calls.{
  Call,
  start,
  add,
  change,
  remove,
  WorkAnswer,
  with_place,
  fresh_table,
  acceptance,
  Makes,
  starts,
  adds,
  changes,
  removes,
  Does,
  refused,
  accepted,
  findings,
}
use Rattle.work.specs.Played.{Played, at_first, then}
use Rattle.work.proofs.Views.{Judged, bad, good, judged_demand}

pub one-given : (fs : Findings) {a b : Reason} → Given fs a 0 → Given fs b 0 → a ≡ b
one-given fs {a} {b} g h =
    let same : found a 0 ≡ found b 0 = cc (one-answer fs (Err (found a 0)) (Err (found b 0)) g h) in
    ap (λ (f : Finding). f.reason) same

pub none-given : (fs : Findings) (a : Reason) → Given fs a 0 → NoneHolds fs → ⊥
none-given fs a g n = absurd (cc (one-answer fs (Err (found a 0)) fine g n))

pub one-lowest : (ps : List Place) (p q : ℕ) → LowestFree ps p → LowestFree ps q → p ≡ q
one-lowest ps p q a b =
    elim (dec_lt p q) [
      | yes l ↦ absurd (a.free (b.below p a.from_1 l))
      | no l ↦ elim (dec_lt q p) [ yes m ↦ absurd (b.free (a.below q b.from_1 m)) | no m ↦ omega arith ]
    ]

pub one-made : {t : PlaceTable} {c : Call} {p q : ℕ} {u v : PlaceTable} → Makes t c p u → Makes t c q v → (p ≡ q) × (u ≡ v)
one-made starts starts = (refl, refl)
one-made {t} (adds {p = p} a) (adds {p = q} b) = let e = one-lowest t.places p q a b in rw e (refl, refl)
one-made changes changes = (refl, refl)
one-made removes removes = (refl, refl)

pub does-one : {t : PlaceTable} {c : Call} {a b : WorkAnswer} {u v : PlaceTable} → Does t c a u → Does t c b v → (b ≡ a) × (v ≡ u)
does-one {t} {c} (refused j g ea eu) (refused k h eb ev) = let e = one-given (findings t c) h g in (eb ∙ ap Err e ∙ sym ea, ev ∙ sym eu)
does-one {t} {c} (refused k g ea eu) (accepted n m eb) = absurd (none-given (findings t c) k g n)
does-one {t} {c} (accepted n m ea) (refused k h eb ev) = absurd (none-given (findings t c) k h n)
does-one {u = u} {v = v} (accepted {p = p} n m ea) (accepted {p = q} o l eb) =
    let e = one-made l m in
    let f : acceptance q v ≡ acceptance p u = rw (e.0, e.1) in
    (eb ∙ f ∙ sym ea, e.1)

-- ---- each call on each table has an answer

pub not-outside : (ring : Ring) → {A : Type 0} → desk.fewest ≤ ring.nodes → ring.nodes ≤ desk.nodes
    → (ring.nodes < desk.fewest) ⊎ (desk.nodes < ring.nodes) → A
not-outside ring l h (inl m) = absurd (omega arith)
not-outside ring l h (inr m) = absurd (omega arith)

-- a place holds none or a row
data Looked (ps : List Place) (p : ℕ) : Type 0 where
  has_none : HoldsNone ps p → Looked ps p
  has_row : Taken ps p → Looked ps p

looked : (ps : List Place) (p : ℕ) → Looked ps p
looked ps zero = has_none (λ t. omega (arith, t.there.from_1))
looked ps (suc k) = go (get_or ps (suc k - 1) empty) refl
  where
    go : (x : Place) → get_or ps (suc k - 1) empty ≡ x → Looked ps (suc k)
    go empty e = has_none (λ t. let h = t.there.is in absurd (cc))
    go (holds r) e = has_row (record { r = r; there = record { from_1 = omega arith; is = e } })

-- all are taken, or one is the lowest free
data Searched (ps : List Place) : Type 0 where
  all_taken : AllTaken ps → Searched ps
  lowest_free : (p : ℕ) → LowestFree ps p → Searched ps

-- where the first k are taken and n are left
searched-from : (ps : List Place) (n k : ℕ) → k + n ≡ length ps
    → ((q : ℕ) → 1 ≤ q → q ≤ k → Taken ps q) → Searched ps
searched-from ps zero k e taken = all_taken (λ p a b. taken p a (omega arith))
searched-from ps (suc n) k e taken =
    go (looked ps (k + 1)) (λ t. searched-from ps n (k + 1) (omega arith) (with_it t))
  where
    with_it : Taken ps (k + 1) → (q : ℕ) → 1 ≤ q → q ≤ k + 1 → Taken ps q
    with_it t q a b =
        elim (dec_lt k q) [
          | yes l ↦ (let e : q ≡ k + 1 = omega arith in rw e t)
          | no l ↦ taken q a (omega arith)
        ]

    go : Looked ps (k + 1) → (Taken ps (k + 1) → Searched ps) → Searched ps
    go (has_none free) on =
        lowest_free (k + 1)
        (record {
          from_1 = omega arith;
          to_last = omega arith;
          free = free;
          below = λ q a b. taken q a (omega arith);
        })
    go (has_row t) on = on t

pub record Answer (t : PlaceTable) (c : Call) : Type 0 where
  pub a : WorkAnswer
  pub u : PlaceTable
  pub does : Does t c a u

module _ (t : PlaceTable) where
  abbrev of_row : Demand → Findings
  of_row r = demand_findings desk t.ring.nodes 0 None r

  abbrev full : Findings
  full = finding (AllTaken t.places) Full 0 nothing

  refuse : {c : Call} (reason : Reason) → Given (findings t c) reason 0 → Answer t c
  refuse reason g = record { a = Err reason; u = t; does = refused reason g refl refl }

  make : {c : Call} (p : ℕ) (u : PlaceTable) → NoneHolds (findings t c) → Makes t c p u
      → Answer t c
  make p u n m = record { a = acceptance p u; u = u; does = accepted n m refl }

  start-some : (ring : Ring) → Answer t (start ring)
  unfolding findings
  start-some ring = go (ring-judged desk ring)
    where
      go : {v : Verdict} → RingJudged desk ring v → Answer t (start ring)
      go (right_ring l h o) =
          make 0 (fresh_table ring) (inr (not-outside ring l h, inr ((λ f. f o), refl))) starts
      go (wrong_fibres l h o) = refuse Fibres (inr (not-outside ring l h, inl (o, refl)))
      go (size_wrong o) = refuse RingSize (inl (o, refl))

  add-some : (r : Demand) → Answer t (add r)
  unfolding findings
  add-some r =
      let searched = searched-from t.places (length t.places) 0 (omega arith) in
      go (judged_demand t.ring.nodes r) (searched (λ q a b. absurd (omega arith)))
    where
      go : {v : Verdict} → Judged t.ring.nodes r v → Searched t.places → Answer t (add r)
      go (bad {reason = k} given) s = refuse k (then-stop (of_row r) full (found k 0) given)
      go (good g first) (all_taken all) =
          refuse Full (then-on (of_row r) full (Err (found Full 0)) first (inl (all, refl)))
      go (good g first) (lowest_free p low) =
          let not_full = λ (all : AllTaken t.places). low.free (all p low.from_1 low.to_last) in
          let none = then-on (of_row r) full fine first (inr (not_full, refl)) in
          make p (with_place t (p - 1) (holds r)) none (adds low)

  change-some : (p : ℕ) (r : Demand) → Answer t (change p r)
  unfolding findings
  change-some p r = go (looked t.places p) (judged_demand t.ring.nodes r)
    where
      go : {v : Verdict} → Looked t.places p → Judged t.ring.nodes r v → Answer t (change p r)
      go (has_none a) j = refuse NoRow (inl (a, refl))
      go (has_row x) (bad {reason = k} given) = refuse k (inr ((λ a. a x), given))
      go (has_row x) (good g first) =
          make p (with_place t (p - 1) (holds r)) (inr ((λ a. a x), first)) changes

  remove-some : (p : ℕ) → Answer t (remove p)
  unfolding findings
  remove-some p = go (looked t.places p)
    where
      go : Looked t.places p → Answer t (remove p)
      go (has_none a) = refuse NoRow (inl (a, refl))
      go (has_row x) = make p (with_place t (p - 1) empty) (inr ((λ a. a x), refl)) removes

  pub does-some : (c : Call) → Answer t c
  does-some (start ring) = start-some ring
  does-some (add r) = add-some r
  does-some (change p r) = change-some p r
  does-some (remove p) = remove-some p

-- each list of calls leads to a table and a cut
pub record Leads (cs : List Call) : Type 0 where
  pub t : PlaceTable
  pub d : Cut
  pub played : Played cs t d

pub played-some : (cs : List Call) → Leads cs
played-some [] = record { t = _; d = _; played = at_first }
played-some (c ∷ cs) =
    let before = played-some cs in
    let next = does-some before.t c in
    record { t = next.u; d = _; played = then before.played next.does }
