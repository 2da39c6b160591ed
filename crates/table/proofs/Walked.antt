-- Which reason is given of a text of rows, line by line: a reason of a line is given where nothing is said of the lines before it and it is the first of its line; none
-- holds where nothing is said of any line.
use Prim.Native.Nat.{ℕ, ◌+◌, ◌≤◌, ◌<◌}
use mathlib.Core.List.{List}
use mathlib.Core.Logic.{inl, inr}
use mathlib.Core.Path.{◌≡◌, refl, subst}
use native.Mathlib.Omega.{arith}
use native.Mathlib.Decide.{dec_lt}
use lib.ListN.{length}
use Rattle.ring.specs.Limits.{Limits}
use Rattle.ring.specs.declared.types.Demand.{Demand}
use Rattle.reasons.specs.Reasons.{FirstReason, NoReason, Earlier}
use Rattle.table.specs.RowReasons.{RowsSay, says_too_long, RowsByte, at_none}
use Rattle.reasons.specs.declared.reason.Reason.{Reason}
use Rattle.reasons.specs.declared.reason.Reason.TheVariants.{TooLong}
use Rattle.std.specs.Prelude.{Err}
use Rattle.table.proofs.FirstOnLine.{First}
use Rattle.reasons.proofs.ReasonNumbers.{no-rank-0}
use Rattle.table.proofs.Said.{RowLaws, Stands, on_none, on_line, stands, none-said}

-- nothing is said of the lines before this one
pub record Clean (Says : Reason → ℕ → Type 0) (line : ℕ) : Type 0 where
  none : (s : Reason) (other : ℕ) → other < line → Says s other → ⊥

module _ {Says : Reason → ℕ → Type 0} where
  pub given-here : {ByteIs : Reason → ℕ → ℕ → Type 0} {line byte : ℕ} {r : Reason} → Clean Says line → First (λ s. Says s line) (Err r) → ByteIs r line byte → FirstReason Says Earlier ByteIs r line byte
  given-here {line} {r} clean f b = record { holds = f.holds; first = go; byte_is = b }
    where
      go : (s : Reason) (other : ℕ) → Earlier s other r line → Says s other → ⊥
      go s other (inl l) h = clean.none s other l h
      go s other (inr q) h = omega (arith, q.1, f.least s (subst (Says s) q.0 h))

  pub clean-next : {line : ℕ} → Clean Says line → ((s : Reason) → Says s line → ⊥) → Clean Says (line + 1)
  clean-next {line} clean none = record { none = go }
    where
      go : (s : Reason) (other : ℕ) → other < line + 1 → Says s other → ⊥
      go s other l h =
          elim (dec_lt other line) [
            | yes m ↦ clean.none s other m h
            | no m ↦ let e : other ≡ line = omega arith in none s (subst (Says s) e h)
          ]

module _ {limits : Limits} {t : List ℕ} {Row : ℕ → Demand → Type 0} {WrongLine : ℕ → Type 0} where
  -- nothing comes before reason 1
  pub too-long-given : {LineByte : ℕ → ℕ → Type 0} → limits.bytes < length t
      → FirstReason (λ s line. RowsSay limits t Row WrongLine line s) Earlier (λ s line byte. RowsByte limits t Row LineByte line byte s) TooLong 0 0
  too-long-given long = record { holds = says_too_long refl long; first = λ s other e h. go s e; byte_is = at_none refl }
    where
      go : (s : Reason) {other : ℕ} → Earlier s other TooLong 0 → ⊥
      go s (inl l) = omega arith
      go s (inr q) = omega (arith, q.1, no-rank-0 s)

  module _ (laws : RowLaws Row WrongLine) where
    -- reason 1 is tried first
    pub clean-start : length t ≤ limits.bytes → Clean (λ s line. RowsSay limits t Row WrongLine line s) 1
    clean-start short = record { none = λ s other l h. go l (stands laws h) }
      where
        go : {other : ℕ} {s : Reason} → other < 1 → Stands limits t other s → ⊥
        go l (on_none e long) = omega arith
        go l (on_line low two) = omega arith

    -- nothing is said from here on
    pub clean-end : {line : ℕ} → 2 ≤ line → Clean (λ s line. RowsSay limits t Row WrongLine line s) line → ((other : ℕ) → line ≤ other → WrongLine other → ⊥)
        → ((other : ℕ) (r : Demand) → line ≤ other → Row other r → ⊥) → NoReason (λ s line. RowsSay limits t Row WrongLine line s)
    clean-end {line} later clean right none s other h =
        elim (dec_lt other line) [
          | yes m ↦ clean.none s other m h
          | no m ↦ none-said laws (omega arith) (right other (omega arith)) (λ r. none other r (omega arith)) h
        ]
