-- On every struct, whatever its bytes, a call is refused for the first reason that holds and changes nothing, or makes one struct of it: by the ways out of each call.
use Prim.Native.Nat.{ℕ, ◌+◌, ◌-◌, ◌≤◌, ◌<◌}
use mathlib.Core.Logic.{inl, inr}
use mathlib.Core.Path.{◌≡◌, refl, sym, ◌∙◌, ap}
use native.Mathlib.Omega.{arith}
use lib.ListN.{get_or}
use Rattle.std.specs.Prelude.{Option, None, Result, Ok, Err}
use Rattle.ring.specs.Limits.{desk}
use Rattle.ring.specs.LineSize.{IsFibres}
use Rattle.ring.specs.declared.types.Ring.{Ring}
use Rattle.ring.specs.declared.types.Demand.{Demand}
use Rattle.reasons.specs.Findings.{Findings, nothing, finding, found, Given, NoneHolds}
use Rattle.reasons.specs.RowFindings.{demand_findings}
use Rattle.reasons.specs.Judge.{ring_verdict, row_verdict}
use Rattle.reasons.specs.Verdict.{Verdict}
use Rattle.reasons.specs.declared.reason.Reason.{Reason}
use Rattle.reasons.specs.declared.reason.Reason.TheVariants.{RingSize, Fibres, NoRow, Full}
use Rattle.reasons.proofs.Findings.{fine, then-on, then-stop}
use Rattle.reasons.proofs.Judged.{RingJudged, size_wrong, wrong_fibres, right_ring, ring-judged}
use Rattle.work.specs.Places.{AllTaken, LowestFree, table_held}
use Rattle.work.specs.Calls.{Call, start, add, change, remove, WorkAnswer, findings}
use Rattle.work.specs.Bytes.{ring_size, fresh_in, put_in, cleared_in}
use Rattle.work.specs.Answered.{table_within, Becomes, starts, adds, changes, removes, Answered, refused, accepted, OnlyBytes}
use Rattle.work.specs.Changes.{placed_of, work_after, recut_in, free_in, index_in, started_in, put_free, added_in, changed_in, removed_in, called_in, Sized}
use Rattle.work.specs.declared.Work.{Work}
use Rattle.work.specs.declared.answer.Changed.{Changed}
use Rattle.work.proofs.Right.{Good}
use Rattle.work.proofs.Reasons.{not-outside, one-given, none-given, one-lowest}
use Rattle.work.proofs.Views.{Judged, bad, good, judged_demand, Indexed, none_there, row_there, indexed, taken-at, Freed, all_taken, lowest_free, freed}

-- the struct that a call makes where no reason holds, with what is then known of the ring, the place and the row
pub data Goes (w : Work) : Call → ℕ → Work → Type 0 where
  begins : {ring : Ring} → desk.fewest ≤ ring.nodes → ring.nodes ≤ desk.nodes → IsFibres ring.fibres → Goes w (start ring) 0 (fresh_in ring)
  puts : {r : Demand} {k : ℕ} → k < desk.rows → get_or w.first k 0 ≡ 0 → Good (ring_size w.ring.nodes) r → LowestFree (table_held w).places (k + 1) → Goes w (add r) (k + 1) (put_in w k r)
  swaps : {p : ℕ} {r : Demand} → p - 1 < desk.rows → 1 ≤ get_or w.first (p - 1) 0 → Good (ring_size w.ring.nodes) r
      → Goes w (change p r) p (put_in (cleared_in w (p - 1)) (p - 1) r)
  clears : {p : ℕ} → p - 1 < desk.rows → 1 ≤ get_or w.first (p - 1) 0 → Goes w (remove p) p (cleared_in w (p - 1))

-- what a call is, in the struct and by the findings: refused by both for one reason, or made by both
pub data Ends (w : Work) (c : Call) : Type 0 where
  refuses : (reason : Reason) → called_in w c ≡ Err reason → Given (findings (table_within w) c) reason 0 → Ends w c
  makes : (p : ℕ) (x : Work) → called_in w c ≡ Ok (recut_in x p) → NoneHolds (findings (table_within w) c) → Goes w c p x → Ends w c

-- ---- a start, whatever the table was

module _ (w : Work) (ring : Ring) where
  pub start-ends : Ends w (start ring)
  unfolding started_in findings
  start-ends = go (ring_verdict desk ring) refl (ring-judged desk ring)
    where
      go : (v : Verdict) → ring_verdict desk ring ≡ v → RingJudged desk ring v → Ends w (start ring)
      go v e (right_ring l h o) = makes 0 (fresh_in ring) (rw e) (inr (not-outside ring l h, inr ((λ f. f o), refl))) (begins l h o)
      go v e (wrong_fibres l h o) = refuses Fibres (rw e) (inr (not-outside ring l h, inl (o, refl)))
      go v e (size_wrong o) = refuses RingSize (rw e) (inl (o, refl))

-- ---- a row added, changed, removed

module _ (w : Work) (s : Sized w) where
  abbrev n : ℕ
  n = ring_size w.ring.nodes

  abbrev of_row : Demand → Findings
  of_row r = demand_findings desk n 0 None r

  abbrev full : Findings
  full = finding (AllTaken (table_held w).places) Full 0 nothing

  module _ (r : Demand) where
    add_ends : Ends w (add r)
    unfolding added_in put_free findings
    add_ends = go (row_verdict desk n 0 None r) refl (judged_demand n r) (free_in w.first) refl (freed w s)
      where
        go : (v : Verdict) → row_verdict desk n 0 None r ≡ v → Judged n r v → (o : Option ℕ) → free_in w.first ≡ o → Freed w s o → Ends w (add r)
        go v e (bad {reason = k} given) o f free = refuses k (rw e) (then-stop (of_row r) full (found k 0) given)
        go v e (good g first) o f (all_taken all) = refuses Full (rw (e, f)) (then-on (of_row r) full (Err (found Full 0)) first (inl (all, refl)))
        go v e (good g first) o f (lowest_free {k = k} l z low) =
            makes (k + 1) (put_in w k r) (rw (e, f)) (then-on (of_row r) full fine first (inr ((λ all. low.free (all (k + 1) low.from_1 low.to_last)), refl))) (puts l z g low)

  module _ (p : ℕ) where
    change-ends : (r : Demand) → Ends w (change p r)
    unfolding changed_in findings
    change-ends r = go (index_in w.first p) refl (indexed w s p) (row_verdict desk n 0 None r) refl (judged_demand n r)
      where
        go : (i : Result ℕ Reason) → index_in w.first p ≡ i → Indexed w s p i → (v : Verdict) → row_verdict desk n 0 None r ≡ v → Judged n r v → Ends w (change p r)
        go i ei (none_there a) v e j = refuses NoRow (rw ei) (inl (a, refl))
        go i ei (row_there a l taken) v e (bad {reason = k} given) = refuses k (rw (ei, e)) (inr ((λ a'. a' (taken-at w s p a taken)), given))
        go i ei (row_there a l taken) v e (good g first) =
            makes p (put_in (cleared_in w (p - 1)) (p - 1) r) (rw (ei, e)) (inr ((λ a'. a' (taken-at w s p a taken)), first)) (swaps l taken g)

    remove-ends : Ends w (remove p)
    unfolding removed_in findings
    remove-ends = go (index_in w.first p) refl (indexed w s p)
      where
        go : (i : Result ℕ Reason) → index_in w.first p ≡ i → Indexed w s p i → Ends w (remove p)
        go i ei (none_there a) = refuses NoRow (rw ei) (inl (a, refl))
        go i ei (row_there a l taken) = makes p (cleared_in w (p - 1)) (rw ei) (inr ((λ a'. a' (taken-at w s p a taken)), refl)) (clears l taken)

  pub call_ends : (c : Call) → Ends w c
  call_ends (start ring) = start-ends w ring
  call_ends (add r) = add_ends r
  call_ends (change p r) = change-ends p r
  call_ends (remove p) = remove-ends p

-- ---- what is said of every struct

module _ {w : Work} where
  becomes-of : {c : Call} {p : ℕ} {x : Work} → Goes w c p x → Becomes w c p x
  becomes-of (begins a b c) = starts
  becomes-of (puts {r = r} {k = k} l z g low) =
      let back : k + 1 - 1 ≡ k = omega arith in
      let made : Becomes w (add r) (k + 1) (put_in w (k + 1 - 1) r) = adds low in
      rw back at made
  becomes-of (swaps l t g) = changes
  becomes-of (clears l t) = removes

  answered-by : {c : Call} {done : Result Changed Reason} {a : WorkAnswer} {x : Work} → Ends w c → done ≡ called_in w c → a ≡ placed_of done → x ≡ work_after w done → Answered w c a x
  unfolding placed_of work_after recut_in
  answered-by (refuses reason e g) is ea ex = refused reason g (rw (is ∙ e) at ea) (rw (is ∙ e) at ex)
  answered-by (makes p y e k go) is ea ex = accepted k (becomes-of go) (rw (is ∙ e) at ea) (rw (is ∙ e) at ex)

  one-struct : {c : Call} {p q : ℕ} {x y : Work} → Becomes w c p x → Becomes w c q y → (p ≡ q) × (x ≡ y)
  one-struct starts starts = (refl, refl)
  one-struct (adds {p = p} a) (adds {p = q} b) = let e = one-lowest (table_held w).places p q a b in rw e (refl, refl)
  one-struct changes changes = (refl, refl)
  one-struct removes removes = (refl, refl)

  one-answered : {c : Call} {a b : WorkAnswer} {x y : Work} → Answered w c a x → Answered w c b y → (b ≡ a) × (y ≡ x)
  one-answered {c} (refused j g ea ex) (refused k h eb ey) = let e = one-given (findings (table_within w) c) h g in (eb ∙ ap Err e ∙ sym ea, ey ∙ sym ex)
  one-answered {c} (refused j g ea ex) (accepted k m eb ey) = absurd (none-given (findings (table_within w) c) j g k)
  one-answered {c} (accepted k m ea ex) (refused j h eb ey) = absurd (none-given (findings (table_within w) c) j h k)
  one-answered (accepted k m ea ex) (accepted h l eb ey) = let e = one-struct l m in ((rw (e.0, e.1) at eb) ∙ sym ea, (rw e.1 at ey) ∙ sym ex)

  one-of : {c : Call} {a : WorkAnswer} {x : Work} → Answered w c a x → OnlyBytes (Answered w c) a x
  one-of p = record { answer = λ b y q. (one-answered p q).0; bytes = λ b y q. (one-answered p q).1 }

pub answered-start : (w : Work) (ring : Ring) {done : Result Changed Reason} {a : WorkAnswer} {x : Work} → done ≡ started_in ring → a ≡ placed_of done → x ≡ work_after w done
    → Answered w (start ring) a x
answered-start w ring = answered-by (start-ends w ring)

pub answered : (w : Work) → Sized w → (c : Call) {done : Result Changed Reason} {a : WorkAnswer} {x : Work} → done ≡ called_in w c → a ≡ placed_of done → x ≡ work_after w done
    → Answered w c a x
answered w s c = answered-by (call_ends w s c)

pub only-start : (w : Work) (ring : Ring) {done : Result Changed Reason} {a : WorkAnswer} {x : Work} → done ≡ started_in ring → a ≡ placed_of done → x ≡ work_after w done
    → OnlyBytes (Answered w (start ring)) a x
only-start w ring is ea ex = one-of (answered-start w ring is ea ex)

pub only-answered : (w : Work) → Sized w → (c : Call) {done : Result Changed Reason} {a : WorkAnswer} {x : Work} → done ≡ called_in w c → a ≡ placed_of done → x ≡ work_after w done
    → OnlyBytes (Answered w c) a x
only-answered w s c is ea ex = one-of (answered w s c is ea ex)
