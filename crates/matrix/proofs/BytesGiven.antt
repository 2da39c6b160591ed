-- A reason on a line has one byte, since a line has one reading, one first faulty byte and one first entry that is faulty; and where the first entry over the limit
-- starts is the byte of 7.
use Prim.Native.Nat.{ℕ, ◌+◌, ◌-◌, ◌≤◌, ◌<◌}
use mathlib.Core.List.{List}
use mathlib.Core.Logic.{inr}
use mathlib.Core.Path.{◌≡◌, refl, ap, ◌∙◌, sym, subst}
use native.Mathlib.Omega.{arith}
use lib.ListN.{length, get_or}
use Rattle.std.specs.Prelude.{Ok}
use Rattle.ring.specs.Limits.{Limits}
use Rattle.text.specs.ReadLine.{read_line}
use Rattle.text.specs.Shapes.{numbers, numbers_line}
use Rattle.text.specs.FirstFault.{FirstFault}
use Rattle.text.proofs.LineLaws.{one-fault}
use Rattle.reasons.specs.declared.reason.Reason.{Reason}
use Rattle.lines.specs.DueBytes.{DueByte}
use Rattle.lines.proofs.DueBytes.{one-due}
use Rattle.lines.proofs.LineNumbers.{line-one}
use Rattle.matrix.specs.Matrix.{entry_byte}
use Rattle.matrix.specs.Read.{fields_in}
use Rattle.matrix.specs.Says.{NumbersAre, EntryIs, LineByte, first_due, later_due, none_due, EntryStarts, AmountByte, FirstFaulty, FaultyByte, at_none, at_fault, at_size, at_amount, at_diagonal, at_mirror, at_rows, ByteIs}
use Rattle.matrix.proofs.LinesText.{numbers-line-read, FirstOver}
use Rattle.matrix.proofs.MatrixText.{fields-are}
use Rattle.matrix.proofs.AnyFields.{one-any-fault}

-- a line has one reading
pub numbers-one : {limits : Limits} {t : List ℕ} {line other : ℕ} {vs us : List ℕ} → NumbersAre limits t line vs → NumbersAre limits t other us → line ≡ other → vs ≡ us
numbers-one {limits} {vs = vs} {us = us} p q e =
    let same : numbers_line vs ≡ numbers_line us = line-one p.text q.text e in
    let k : length vs ≡ length us = sym (fields-are limits vs p.some p.spelled) ∙ ap fields_in same ∙ fields-are limits us q.some q.spelled in
    let r : Ok vs ≡ Ok us = sym (numbers-line-read limits (length us) vs k p.spelled) ∙ ap (read_line limits.digits (numbers (length us))) same ∙ numbers-line-read limits (length us) us refl q.spelled in
    cc

-- ---- 7: the first entry over the limit

pub amount-byte : {limits : Limits} {t : List ℕ} {line : ℕ} {vs : List ℕ} (x : ℕ) → NumbersAre limits t line vs → FirstOver limits vs x → AmountByte limits t line (entry_byte vs x)
amount-byte {limits} {t} {line} {vs} x here f =
    record {
      j = x + 1;
      v = get_or vs x 0;
      is = record { vs = vs; line = here; low = omega arith; high = omega (arith, f.within); is = ap (λ k. get_or vs k 0) e };
      wrong = f.over;
      first = before;
      starts = record { vs = vs; is = here; at = ap (entry_byte vs) e };
    }
  where
    e : x ≡ x + 1 - 1
    e = omega arith

    before : (y w : ℕ) → y < x + 1 → EntryIs limits t line y w → w ≤ limits.amount
    before y w l h =
        let q : w ≡ get_or vs (y - 1) 0 = h.is ∙ ap (λ us. get_or us (y - 1) 0) (numbers-one h.line here refl) in
        omega (arith, f.first (y - 1) (omega (arith, h.low)))

-- ---- one byte

one-line-byte : {limits : Limits} {t : List ℕ} {line b c : ℕ} → LineByte limits t line b → LineByte limits t line c → b ≡ c
one-line-byte {limits} (first_due e x) (first_due f y) = one-due (one-any-fault limits) x y
one-line-byte (first_due e x) (later_due l is m y) = absurd (omega arith)
one-line-byte (first_due e x) (none_due is l y) = absurd (omega (arith, is.some))
one-line-byte (later_due l is m x) (first_due f y) = absurd (omega arith)
one-line-byte {limits} {t} {line} {b} {c} (later_due {us} l is m x) (later_due {us = vs} k it o y) =
    let e : length vs ≡ length us = ap length (numbers-one it is refl) in
    one-due (λ s p q f g. one-fault limits.digits limits.countable f g) x (subst (λ n. DueByte t line (FirstFault limits.digits (numbers n)) c) e y)
one-line-byte (later_due l is m x) (none_due it k y) = absurd (omega (arith, ap length (numbers-one is it refl)))
one-line-byte (none_due is l x) (first_due f y) = absurd (omega (arith, is.some))
one-line-byte (none_due is l x) (later_due k it m y) = absurd (omega (arith, ap length (numbers-one is it refl)))
one-line-byte (none_due is l x) (none_due it k y) = x ∙ sym y

one-start : {limits : Limits} {t : List ℕ} {line j i b c : ℕ} → j ≡ i → EntryStarts limits t line j b → EntryStarts limits t line i c → b ≡ c
one-start {j = j} {i = i} e x y = x.at ∙ ap (λ vs. entry_byte vs (j - 1)) (numbers-one x.is y.is refl) ∙ ap (λ k. entry_byte y.vs (k - 1)) e ∙ sym y.at

amount-not-before : {limits : Limits} {t : List ℕ} {line b c : ℕ} (x : AmountByte limits t line b) (y : AmountByte limits t line c) → x.j < y.j → ⊥
amount-not-before x y l = omega (arith, x.wrong, y.first x.j x.v l x.is)

one-amount-byte : {limits : Limits} {t : List ℕ} {line b c : ℕ} → AmountByte limits t line b → AmountByte limits t line c → b ≡ c
one-amount-byte x y =
    let p : x.j < y.j → ⊥ = amount-not-before x y in
    let q : y.j < x.j → ⊥ = amount-not-before y x in
    one-start (omega arith) x.starts y.starts

faulty-not-before : {limits : Limits} {t : List ℕ} {r : Reason} {line : ℕ} (x y : FirstFaulty limits t r line) → x.j < y.j → ⊥
faulty-not-before {r = r} {line} x y l = y.first line x.j r (inr (refl, l)) x.wrong

one-faulty-byte : {limits : Limits} {t : List ℕ} {r : Reason} {line b c : ℕ} → FaultyByte limits t r line b → FaultyByte limits t r line c → b ≡ c
one-faulty-byte x y =
    let p : x.faulty.j < y.faulty.j → ⊥ = faulty-not-before x.faulty y.faulty in
    let q : y.faulty.j < x.faulty.j → ⊥ = faulty-not-before y.faulty x.faulty in
    one-start (omega arith) x.starts y.starts

pub one_byte : {limits : Limits} {t : List ℕ} {line b c : ℕ} {r : Reason} → ByteIs limits t r line b → ByteIs limits t r line c → b ≡ c
one_byte (at_none x) (at_none y) = x ∙ sym y
one_byte (at_fault x) (at_fault y) = one-line-byte x y
one_byte (at_size x) (at_size y) = x ∙ sym y
one_byte (at_amount x) (at_amount y) = one-amount-byte x y
one_byte (at_diagonal x) (at_diagonal y) = one-faulty-byte x y
one_byte (at_mirror x) (at_mirror y) = one-faulty-byte x y
one_byte (at_rows x) (at_rows y) = x ∙ sym y
