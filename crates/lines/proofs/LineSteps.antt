-- The end of a line and the line that begins at a place: the scan for LF keeps that the bytes passed and the line behind them are the whole line.
use Prim.Native.Nat.{ℕ, zero, suc, ◌+◌, ◌-◌, ◌≤◌, ◌<◌}
use mathlib.Core.Bool.{Bool, true, false, cond}
use mathlib.Core.List.{List, [], ◌∷◌}
use mathlib.Core.Path.{◌≡◌, refl, ◌∙◌, sym}
use native.Mathlib.Omega.{arith}
use lib.Dec.{eqb}
use lib.ListN.{length, get_or, take, drop, drop_of_length-le, length-drop}
use lib.Seq.{drop-drop, take-length}
use borrow.Author.Tests.{eq-eqb, ne_eqb, eqb-true}
use Rattle.std.specs.Prelude.{Result, Ok, Err, IfErr}
use Rattle.ring.specs.Limits.{desk}
use Rattle.ring.specs.declared.types.Ring.{Ring}
use Rattle.std.proofs.Common.{Some, None}
use Rattle.memchr.specs.Find.{IsFirstByte, Passes, is_byte}
use Rattle.text.specs.Bytes.{lf}
use Rattle.text.specs.ReadLine.{Reading, read_line}
use Rattle.text.specs.ReadRing.{read_ring}
use Rattle.text.specs.declared.field.Field.{Field}
use Rattle.text.proofs.LineLaws.{bad-within}
use Rattle.text.proofs.RingLaws.{ring-within}
use Rattle.text.proofs.Lists.{here}
use Rattle.lines.specs.Lines.{with_byte, lines}
use Rattle.lines.specs.LineEnds.{line_length, LineEnds}

-- the scan stands at p, and no byte from `at` to before p is LF
pub record Scanning (s : List ℕ) (at p : ℕ) : Type 0 where
  pub rest : at + line_length (drop at s) ≡ p + line_length (drop p s)
  pub low : at ≤ p
  pub high : p ≤ length s

module _ (s : List ℕ) (at : ℕ) where
  module _ (p : ℕ) (scan : Scanning s at p) where
    pub scan-ends : p < length s → get_or s p 0 ≡ lf → LineEnds s at (p + 1)
    unfolding line_length
    scan-ends l e = record { is = rw scan.rest (rw (here s p l, eq-eqb _ _ e)); within = omega arith; on = λ there. omega (arith, scan.low) }

    pub scan-goes-on : p < length s → (get_or s p 0 ≡ lf → ⊥) → Scanning s at (p + 1)
    unfolding line_length
    scan-goes-on l e = record { rest = scan.rest ∙ rw (here s p l, ne_eqb _ _ e) (omega arith); low = omega (arith, scan.low); high = omega arith }

    pub scan-stops : length s ≤ p → LineEnds s at p
    unfolding line_length
    scan-stops l = record { is = rw scan.rest (rw (drop_of_length-le s l) (omega arith)); within = scan.high; on = λ there. omega arith }

-- the scan may stand at k where no byte before it is LF
scan-to : (s : List ℕ) (k : ℕ) → k ≤ length s → ((j : ℕ) → j < k → ¬ Passes (is_byte lf) s j) → Scanning s 0 k
scan-to s zero l h = record { rest = refl; low = omega arith; high = l }
scan-to s (suc k) l h =
    let e : k + 1 ≡ suc k = omega arith in
    rw e at (scan-goes-on s 0 k (scan-to s k (omega arith) (λ j m. h j (omega arith))) (omega arith) (λ e. h k (omega arith) (eq-eqb _ _ e)))

-- by the place of the first LF, where there is one
module _ (s : List ℕ) where
  pub ends-at : (k : ℕ) → IsFirstByte (is_byte lf) s (Some k) → LineEnds s 0 (k + 1)
  ends-at k first = scan-ends s 0 k (scan-to s k (omega (arith, first.0.high)) (λ j l. first.0.before j (omega arith) l)) first.0.high (eqb-true _ _ first.1)

  pub ends-nowhere : IsFirstByte (is_byte lf) s None → LineEnds s 0 (length s)
  ends-nowhere nowhere = scan-stops s 0 (length s) (scan-to s (length s) (omega arith) (λ j l. nowhere j (omega arith) l)) (omega arith)

pub first-line : (t : List ℕ) → 0 < length t → lines t ≡ take (line_length t) t ∷ lines (drop (line_length t) t)
unfolding lines line_length
first-line [] h = absurd (omega arith)
first-line (b ∷ []) h = go (eqb b lf)
  where
    go : (x : Bool) → with_byte x b [] ≡ take (cond x 1 1) (b ∷ []) ∷ lines (drop (cond x 1 1) (b ∷ []))
    go true = refl
    go false = refl
first-line (b ∷ (d ∷ t)) h = go (eqb b lf) (first-line (d ∷ t) (omega arith))
  where
    k : ℕ
    k = line_length (d ∷ t)

    go : (x : Bool) → lines (d ∷ t) ≡ take k (d ∷ t) ∷ lines (drop k (d ∷ t)) →
        with_byte x b (lines (d ∷ t)) ≡ take (cond x 1 (suc k)) (b ∷ (d ∷ t)) ∷ lines (drop (cond x 1 (suc k)) (b ∷ (d ∷ t)))
    go true ih = refl
    go false ih = rw ih

-- the lines from `at` on are the one that ends before `end`, and those from there on
pub line_at : (s : List ℕ) (at end : ℕ) → at < length s → LineEnds s at end → lines (drop at s) ≡ take (end - at) (drop at s) ∷ lines (drop end s)
line_at s at end l e =
    let k = e.is in
    let m : end - at ≡ line_length (drop at s) = omega arith in
    first-line (drop at s) (omega (arith, length-drop at s)) ∙ rw (drop-drop, ← k, m)

-- the lines of a text that is left: none, or a first and those behind it
pub no_lines : (t : List ℕ) → length t ≤ 0 → lines t ≡ []
unfolding lines
no_lines [] h = refl
no_lines (b ∷ t) h = absurd (omega arith)

pub line_first : (t : List ℕ) (end : ℕ) → 0 < length t → LineEnds t 0 end → lines t ≡ take end t ∷ lines (take (length t - end) (drop end t))
line_first t end there ends =
    let e : end - 0 ≡ end = omega arith in
    line_at t 0 end there ends ∙ rw (e, ← length-drop end t, take-length (drop end t)) refl

-- the first faulty byte of a line is within it
pub fault-within : (shape : List Field) (t : List ℕ) → length t ≤ desk.bytes → (x : Reading) → x ≡ read_line desk.digits shape t → IfErr x (λ place. place ≤ desk.bytes)
fault-within shape t short (Ok vs) is = tt
fault-within shape t short (Err p) is = omega (arith, bad-within desk.digits desk.countable shape t p (sym is))

pub ring-fault-within : (t : List ℕ) → length t ≤ desk.bytes → (x : Result Ring ℕ) → x ≡ read_ring desk.marks desk.digits t → IfErr x (λ place. place ≤ desk.bytes)
ring-fault-within t short (Ok ring) is = tt
ring-fault-within t short (Err p) is = omega (arith, ring-within desk.digits desk.countable desk.marks t p (sym is))

pub ruleset line_ends = (ends-at, ends-nowhere)
