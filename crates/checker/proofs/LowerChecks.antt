-- A desk of lower limits, asked to check a text: what it accepts, one of higher limits accepts, and what it refuses but by 2, 3 or 16, the other refuses alike; and of
-- a sheet that the desk accepts, the old desk refuses one with an M by 2, else one of more than 32 nodes by 3, else one of more than 496 rows by 16, and accepts any
-- other. By what each reads (`LowerSheets`) and finds (`LowerJudged`).
use Prim.Native.Nat.{ℕ, ◌+◌, ◌≤◌, ◌<◌}
use mathlib.Core.List.{List}
use mathlib.Core.Path.{◌≡◌, refl, ap, sym, subst}
use native.Mathlib.Omega.{arith}
use lib.ListN.{length}
use Rattle.std.specs.Prelude.{false, Result, Ok, Err}
use Rattle.family.specs.declared.family.Family.{Family}
use Rattle.family.specs.declared.family.Family.TheVariants.{Sonet, Sdh}
use Rattle.family.specs.Sizes.{Known}
use Rattle.ring.specs.Ring.{ring_of}
use Rattle.text.specs.RingLine.{ring_line}
use Rattle.ring.specs.Limits.{Limits, desk, old}
use Rattle.ring.specs.Sheet.{Sheet}
use Rattle.ring.specs.True.{TrueSheet}
use Rattle.reasons.specs.declared.finding.Finding.{Finding}
use Rattle.reasons.specs.declared.reason.Reason.{Reason}
use Rattle.reasons.specs.declared.reason.Reason.TheVariants.{Misshapen, RingSize, TooMany}
use Rattle.reasons.proofs.LowerLimits.{Lower, old-lower, Lost, lost_shape, lost_size, lost_count}
use Rattle.table.proofs.TableText.{desk-spelled}
use Rattle.judge.proofs.Tests.{judged-is}
use Rattle.judge.proofs.LowerJudged.{FindingAlike, same_finding, lost_finding, judged-alike, judged-same}
use Rattle.sheet.specs.Range.{InRange}
use Rattle.sheet.specs.WriteSheet.{write_sheet}
use Rattle.reasons.specs.Refusals.{refuse}
use Rattle.reasons.specs.declared.reason.Refusal.{Refusal}
use Rattle.sheet.proofs.Short.{old-fits}
use Rattle.sheet.proofs.SheetText.{sheet-text}
use Rattle.sheet.proofs.LowerSheets.{Alike, same_result, lost_result, sheet-alike, LowerSheet, marked, more-nodes, more-rows, same, lower-sheet}
use Rattle.checker.specs.Check.{judged_on, check_read, check}
use Rattle.checker.proofs.Reasons.{accepted-as, check-text}

-- ---- any text

module _ {low high : Limits} (lower : Lower low high) where
  on-alike : (x : Sheet) {v u : Result Unit Finding} → FindingAlike v u → Alike (judged_on x v) (judged_on x u)
  unfolding judged_on
  on-alike x same_finding = same_result
  on-alike x (lost_finding l) = lost_result l

  read-alike : {y z : Result Sheet Refusal} → Alike y z → Alike (check_read low y) (check_read high z)
  read-alike (same_result {x = Ok x}) = on-alike x (judged-alike lower x)
  read-alike (same_result {x = Err r}) = same_result
  read-alike (lost_result l) = lost_result l

  pub check-alike : (t : List ℕ) → Alike (check low t) (check high t)
  unfolding check
  check-alike t = read-alike (sheet-alike lower t)

not-lost : {r : Reason} → Lost r → (r ≡ Misshapen → ⊥) → (r ≡ RingSize → ⊥) → (r ≡ TooMany → ⊥) → ⊥
not-lost lost_shape a b c = a refl
not-lost lost_size a b c = b refl
not-lost lost_count a b c = c refl

-- what the old desk refuses by another reason than 2, 3 and 16, the desk refuses alike
pub old-refused : (t : List ℕ) (r : Refusal) → check old t ≡ Err r → (r.reason ≡ Misshapen → ⊥) → (r.reason ≡ RingSize → ⊥) → (r.reason ≡ TooMany → ⊥) → check desk t ≡ Err r
old-refused t r e a b c = go (check-alike old-lower t) e
  where
    go : {y z : Result Sheet Refusal} → Alike y z → y ≡ Err r → z ≡ Err r
    go same_result f = f
    go (lost_result {r = s} l) f = let same : s ≡ r = cc in absurd (not-lost (subst (λ (x : Refusal). Lost x.reason) same l) a b c)

-- what it accepts is accepted
pub old-accepted : (t : List ℕ) (x : Sheet) → check old t ≡ Ok x → check desk t ≡ Ok x
old-accepted t x e = go (check-alike old-lower t) e
  where
    go : {y z : Result Sheet Refusal} → Alike y z → y ≡ Ok x → z ≡ Ok x
    go same_result f = f
    go (lost_result l) f = absurd (cc)

-- ---- an accepted sheet

one-family : {family : Family} → family ≡ Sonet → family ≡ Sdh → ⊥
one-family {family = Sonet} e f = absurd (cc)
one-family {family = Sdh} e f = absurd (cc)

-- where no M may stand no SDH ring is known
no-mark : {family : Family} → family ≡ Sdh → Known false family → ⊥
no-mark {family = Sonet} e k = absurd (cc)
no-mark {family = Sdh} e k = absurd (cc)

module _ (t : List ℕ) (x : Sheet) (e : check desk t ≡ Ok x) where
  old-check : LowerSheet old x (check old t)
  unfolding check judged_on
  old-check = go (lower-sheet old-lower old-fits t x ((sheet-text desk desk-spelled t x).1 (h.0, h.1.0)) h.1.1)
    where
      h : (t ≡ write_sheet x) × (InRange desk x × TrueSheet x)
      h = (check-text t x).0 e

      go : {y : Result Sheet Refusal} → LowerSheet old x y → LowerSheet old x (check_read old y)
      go (marked m f b) = marked m f b
      go (more-nodes k n) = more-nodes k n
      go (more-rows k n r) = more-rows k n r
      go (same k n r) = rw (judged-same old-lower x h.1.0.within.few n r, sym (judged-is x (Ok tt) ((accepted-as t x).0 e).1)) (same k n r)

  -- one byte behind the fibres, where LF should stand
  abbrev without_m : ℕ
  without_m = length (ring_line (ring_of x.ring.nodes x.ring.fibres Sonet))

  pub old-marked : x.ring.family ≡ Sdh → check old t ≡ refuse Misshapen 1 without_m
  old-marked sdh = go old-check
    where
      unknown : Known false x.ring.family → {A : Type 0} → A
      unknown k = absurd (no-mark sdh k)

      go : {r : Result Sheet Refusal} → LowerSheet old x r → r ≡ refuse Misshapen 1 without_m
      go (marked m f b) = ap (refuse Misshapen 1) b
      go (more-nodes k n) = unknown k
      go (more-rows k n r) = unknown k
      go (same k n r) = unknown k

  module _ (sonet : x.ring.family ≡ Sonet) where
    pub old-nodes : old.nodes < x.ring.nodes → check old t ≡ refuse RingSize 1 3
    old-nodes big = go old-check
      where
        go : {r : Result Sheet Refusal} → LowerSheet old x r → r ≡ refuse RingSize 1 3
        go (marked m f b) = absurd (one-family sonet f)
        go (more-nodes k n) = refl
        go (more-rows k n r) = absurd (omega arith)
        go (same k n r) = absurd (omega arith)

    pub old-rows : x.ring.nodes ≤ old.nodes → old.rows < length x.rows → check old t ≡ refuse TooMany (old.rows + 2) 1
    old-rows small many = go old-check
      where
        go : {r : Result Sheet Refusal} → LowerSheet old x r → r ≡ refuse TooMany (old.rows + 2) 1
        go (marked m f b) = absurd (one-family sonet f)
        go (more-nodes k n) = absurd (omega arith)
        go (more-rows k n r) = refl
        go (same k n r) = absurd (omega arith)

    pub old-same : x.ring.nodes ≤ old.nodes → length x.rows ≤ old.rows → check old t ≡ Ok x
    old-same small few = go old-check
      where
        go : {r : Result Sheet Refusal} → LowerSheet old x r → r ≡ Ok x
        go (marked m f b) = absurd (one-family sonet f)
        go (more-nodes k n) = absurd (omega arith)
        go (more-rows k n r) = absurd (omega arith)
        go (same k n r) = refl
