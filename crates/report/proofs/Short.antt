-- How long the lines of a report are, by how large its numbers are; and that these are small.
use Prim.Native.Nat.{ℕ, ◌+◌, ◌*◌, ◌^◌, ◌≤◌, ◌<◌}
use mathlib.Core.Bool.{Bool, true, false, cond}
use mathlib.Core.List.{List, [], ◌∷◌, ◌++◌, map, flatten}
use mathlib.Core.Path.{◌≡◌, refl, ap}
use native.Mathlib.Nat.{mul-add}
use native.Mathlib.Omega.{arith}
use lib.Dec.{eqb}
use lib.ListN.{length, length-append}
use Rattle.std.specs.Prelude.{Result as Either, Ok, Err}
use Rattle.ring.specs.Limits.{desk}
use Rattle.ring.specs.Lists.{Each, none, more}
use Rattle.ring.specs.Sheet.{Sheet}
use Rattle.reasons.specs.declared.reason.Refusal.{Refusal}
use Rattle.text.proofs.Widths.{wide-field, no-field, line-wide, letter-wide, number-wide}
use Rattle.checker.specs.Check.{check}
use Rattle.checker.proofs.Reasons.{check-text}
use Rattle.family.specs.declared.family.Family.{Family}
use Rattle.family.specs.declared.family.Family.TheVariants.{Sonet, Sdh}
use Rattle.report.specs.declared.outcome.Outcome.{Outcome}
use Rattle.report.specs.declared.outcome.Outcome.TheVariants.{Refused, Accepted}
use Rattle.report.specs.declared.totals.Ratio.{Ratio}
use Rattle.report.specs.declared.totals.Totals.{Totals}
use Rattle.report.specs.declared.totals.Report.{Report}
use Rattle.report.specs.Pieces.{pieces}
use Rattle.report.specs.PiecesAre.{OnePiece, IsEmpty}
use Rattle.report.specs.Totals.{accepts, refuses, peak_of, total, nothing, ratio, is_worse, worst_with, worst_from, totals, is_of, plans_of, report_of}
use Rattle.report.specs.Report.{letter_t, letter_x, totals_line, refused_line, report_text, outcomes, report}
use Rattle.report.specs.Checked.{ShortReport}
use Rattle.report.specs.ByCheck.{outcome_of, checked}
use Rattle.report.proofs.PieceLaws.{pieces-are, join-pieces}
use Rattle.report.proofs.CheckSteps.{piece-small}
use Rattle.report.proofs.CheckedLaws.{report-as}
use Rattle.report.proofs.TotalsLaws.{plans-most}
use Rattle.report.proofs.WalkSteps.{one-accepted, one-refused}

-- the three lines, each with its bound
report-wide : (r : Report) (m n : ℕ) → length (totals_line r.sonet) ≤ m → length (totals_line r.sdh) ≤ m → length (refused_line r.refused) ≤ n
    → length (report_text r) ≤ m + m + n
report-wide r m n a b c =
    omega (arith, a, b, c, length-append (totals_line r.sonet) (totals_line r.sdh ++ refused_line r.refused), length-append (totals_line r.sdh) (refused_line r.refused))

-- with numbers that are u32
pub totals-wide : (t : Totals) → t.accepted < 10 ^ 10 → t.peaks < 10 ^ 10 → t.worst.twice < 10 ^ 10 → t.worst.across < 10 ^ 10 → length (totals_line t) ≤ 46
totals-wide t a p w x =
    line-wide
    (wide-field (letter-wide letter_t 0)
    (wide-field (number-wide 9 _ (omega arith) a)
    (wide-field (number-wide 9 _ (omega arith) p) (wide-field (number-wide 9 _ (omega arith) w) (wide-field (number-wide 9 _ (omega arith) x) no-field)))))

refused-wide : (n : ℕ) → n < 10 ^ 10 → length (refused_line n) ≤ 13
refused-wide n r = line-wide (wide-field (letter-wide letter_x 0) (wide-field (number-wide 9 _ (omega arith) r) no-field))

pub report-measurable : (r : Report) → length (totals_line r.sonet) ≤ 46 → length (totals_line r.sdh) ≤ 46 → r.refused < 10 ^ 10
    → length (report_text r) ≤ 18446744073709551615
report-measurable r a b c = omega (arith, report-wide r 46 13 a b (refused-wide r.refused c))

-- with those of a text within the limit
abbrev SmallRatio : Ratio → Type 0
SmallRatio w = (w.twice < 1000000000) × (w.across < 100000000)

totals-narrow : (t : Totals) → t.accepted < 10 ^ 5 → t.peaks < 10 ^ 9 → SmallRatio t.worst → length (totals_line t) ≤ 37
totals-narrow t a p w =
    line-wide
    (wide-field (letter-wide letter_t 0)
    (wide-field (number-wide 4 _ (omega arith) a)
    (wide-field (number-wide 8 _ (omega arith) p) (wide-field (number-wide 8 _ (omega arith) w.0) (wide-field (number-wide 7 _ (omega arith) w.1) no-field)))))

refused-narrow : (n : ℕ) → n < 10 ^ 5 → length (refused_line n) ≤ 8
refused-narrow n r = line-wide (wide-field (letter-wide letter_x 0) (wide-field (number-wide 4 _ (omega arith) r) no-field))

-- ---- sums, by the bytes of the pieces

length-filled : (p : List ℕ) → (IsEmpty p → ⊥) → 0 < length p
unfolding IsEmpty
length-filled [] h = absurd (h refl)
length-filled (b ∷ p) h = omega arith

total-small : (share : Outcome → ℕ) (most : ℕ) → ((p : List ℕ) → 0 < length p → share (checked p) ≤ most * length p)
    → (ps : List (List ℕ)) → Each OnePiece ps → total share (map checked ps) ≤ most * length (flatten ps)
unfolding total flatten
total-small share most h [] none = omega arith
total-small share most h (p ∷ ps) (more o each) =
    let e : most * length (p ++ flatten ps) ≡ most * length p + most * length (flatten ps) = rw (length-append p (flatten ps)) (mul-add most (length p) (length (flatten ps))) in
    omega (arith, e, h p (length-filled p o.filled), total-small share most h ps each)

-- ---- the worst ratio

across_of : Outcome → ℕ
across_of Refused = 0
across_of (Accepted family peak across) = across

abbrev Small : Outcome → Type 0
Small o = (peak_of o < 100000000) × (across_of o < 100000000)

small-so : (p : List ℕ) (r : Either Sheet Refusal) → check desk p ≡ r → Small (outcome_of r)
unfolding outcome_of peak_of across_of
small-so p (Err r) e = (omega arith, omega arith)
small-so p (Ok x) e = let s = ((check-text p x).0 e).1.0.spelled in (omega (arith, s.last.0), omega (arith, s.cut.1.1))

worst-with-small : (w : Ratio) (p a : ℕ) → SmallRatio w → (p < 100000000) × (a < 100000000) → SmallRatio (worst_with w p a)
unfolding worst_with
worst-with-small w p a h s = go (eqb a 0) (is_worse (ratio p a) w)
  where
    go : (u v : Bool) → SmallRatio (cond u w (cond v (ratio p a) w))
    go true v = h
    go false true = (omega (arith, s.0), s.1)
    go false false = h

worst-small : (w : Ratio) (os : List Outcome) → SmallRatio w → Each Small os → SmallRatio (worst_from w os)
unfolding worst_from peak_of across_of
worst-small w [] h none = h
worst-small w (Refused ∷ os) h (more s each) = worst-small w os h each
worst-small w (Accepted f p a ∷ os) h (more s each) = worst-small (worst_with w p a) os (worst-with-small w p a h s) each

small-plans : (f : Family) (os : List Outcome) → Each Small os → Each Small (plans_of f os)
unfolding plans_of
small-plans f [] none = none
small-plans f (o ∷ os) (more s each) = go (is_of f o) (small-plans f os each)
  where
    go : (c : Bool) → Each Small (plans_of f os) → Each Small (cond c (o ∷ plans_of f os) (plans_of f os))
    go true h = more s h
    go false h = h

small-pieces : (ps : List (List ℕ)) → Each Small (map checked ps)
small-pieces [] = none
small-pieces (p ∷ ps) = more (small-so p (check desk p) refl) (small-pieces ps)

-- ---- the lines

module _ (t : List ℕ) (short : length t ≤ 65536) where
  abbrev os : List Outcome
  os = map checked (pieces t)

  sum-small : (share : Outcome → ℕ) (most : ℕ) → ((p : List ℕ) → 0 < length p → share (checked p) ≤ most * length p) → total share os ≤ most * length t
  sum-small share most h = rw (ap length (join-pieces t)) at (total-small share most h (pieces t) (pieces-are t).each)

  family-short : (f : Family) → length (totals_line (totals (plans_of f os))) ≤ 37
  unfolding totals
  family-short f =
      let a = sum-small accepts 1 (λ p some. omega (arith, one-accepted (checked p))) in
      let s = sum-small peak_of desk.amount (λ p some. piece-small p) in
      totals-narrow _ (omega (arith, plans-most accepts f os)) (omega (arith, plans-most peak_of f os))
      (worst-small nothing (plans_of f os) (omega arith, omega arith) (small-plans f os (small-pieces (pieces t))))

  checked-short : length (report_text (report checked t)) ≤ 82
  unfolding report outcomes report_of
  checked-short =
      let r = sum-small refuses 1 (λ p some. omega (arith, one-refused (checked p))) in
      report-wide _ 37 8 (family-short Sonet) (family-short Sdh) (refused-narrow _ (omega arith))

pub short-report : ShortReport
short-report t r short h = let e = (report-as t r).1 h in rw e (checked-short t short)
