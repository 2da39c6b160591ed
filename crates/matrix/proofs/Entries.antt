-- The entries judged in reading order: all fine exactly when the diagonal is 0 and each entry is its mirror entry; else the first that is not.
use Prim.Native.Nat.{ℕ, zero, suc, ◌+◌, ◌≤◌, ◌<◌}
use mathlib.Core.List.{List}
use mathlib.Core.Path.{◌≡◌}
use mathlib.Core.Logic.{inl, inr}
use native.Mathlib.Omega.{arith}
use native.Mathlib.Decide.{dec_lt, ℕ_discrete}
use borrow.Author.Tests.{eq-eqb, ne_eqb}
use Rattle.std.specs.Prelude.{Ok, Err}
use Rattle.ring.specs.TableRows.{PairBefore}
use Rattle.reasons.specs.AndThen.{and_then}
use Rattle.reasons.specs.Verdict.{Verdict, refused_at}
use Rattle.reasons.specs.declared.reason.Reason.{Reason}
use Rattle.reasons.specs.declared.reason.Reason.TheVariants.{NotZero, NotSymmetric}
use Rattle.reasons.specs.Refusals.{refuse}
use Rattle.matrix.specs.Matrix.{entry, Node}
use Rattle.matrix.specs.Read.{MatrixVerdict, check_entry, square_byte, judge_across, judge_down}

-- what is wrong with an entry
pub data WrongEntry (m : List (List ℕ)) (i j : ℕ) : Reason → Type 0 where
  not_zero : i ≡ j → (entry m i j ≡ 0 → ⊥) → WrongEntry m i j NotZero
  not_mirror : (i ≡ j → ⊥) → (entry m i j ≡ entry m j i → ⊥) → WrongEntry m i j NotSymmetric

pub data EntryJudged (m : List (List ℕ)) (i j : ℕ) : Verdict → Type 0 where
  entry_wrong : {r : Reason} → WrongEntry m i j r → EntryJudged m i j (Err r)
  entry_right : ((r : Reason) → WrongEntry m i j r → ⊥) → EntryJudged m i j (Ok tt)

module _ (m : List (List ℕ)) where
  pub entry-judged : (i j : ℕ) → EntryJudged m i j (check_entry i j (entry m i j) (entry m j i))
  unfolding check_entry
  entry-judged i j =
      elim (ℕ_discrete i j) [
        | yes e ↦ elim (ℕ_discrete (entry m i j) 0) [
          | yes z ↦ rw (eq-eqb i j e, eq-eqb (entry m i j) 0 z) (entry_right (λ r w. zero_right e z w))
          | no z ↦ rw (eq-eqb i j e, ne_eqb (entry m i j) 0 z) (entry_wrong (not_zero e z))
        ]
        | no e ↦ elim (ℕ_discrete (entry m i j) (entry m j i)) [
          | yes z ↦ rw (ne_eqb i j e, eq-eqb (entry m i j) (entry m j i) z) (entry_right (λ r w. mirror-right e z w))
          | no z ↦ rw (ne_eqb i j e, ne_eqb (entry m i j) (entry m j i) z) (entry_wrong (not_mirror e z))
        ]
      ]
    where
      zero_right : {r : Reason} → i ≡ j → entry m i j ≡ 0 → WrongEntry m i j r → ⊥
      zero_right e z (not_zero f w) = w z
      zero_right e z (not_mirror f w) = f e

      mirror-right : {r : Reason} → (i ≡ j → ⊥) → entry m i j ≡ entry m j i → WrongEntry m i j r → ⊥
      mirror-right e z (not_zero f w) = e f
      mirror-right e z (not_mirror f w) = w z

  -- the entries j and on of line i, k of them
  pub data AcrossJudged (i j k : ℕ) (next : MatrixVerdict) : MatrixVerdict → Type 0 where
    across_wrong : {r : Reason} (at : ℕ) → j ≤ at → at < j + k → WrongEntry m i at r → ((x : ℕ) (s : Reason) → j ≤ x → x < at → WrongEntry m i x s → ⊥)
        → AcrossJudged i j k next (refuse r i (square_byte m i at))
    across_right : ((x : ℕ) (s : Reason) → j ≤ x → x < j + k → WrongEntry m i x s → ⊥) → AcrossJudged i j k next next

  pub across-judged : (i j k : ℕ) (next : MatrixVerdict) → AcrossJudged i j k next (judge_across m i j k next)
  unfolding judge_across refused_at
  across-judged i j zero next = across_right (λ x s l h w. omega arith)
  across-judged i j (suc k) next = go (entry-judged i j) (across-judged i (j + 1) k next)
    where
      first-right : ((r : Reason) → WrongEntry m i j r → ⊥) → (x : ℕ) (s : Reason) → ((j + 1 ≤ x) → WrongEntry m i x s → ⊥) → j ≤ x → WrongEntry m i x s → ⊥
      first-right none x s later l w =
          elim (ℕ_discrete j x) [
            | yes e ↦ none s (rw e w)
            | no e ↦ later (omega arith) w
          ]

      go : {v : Verdict} {w : MatrixVerdict} → EntryJudged m i j v → AcrossJudged i (j + 1) k next w → AcrossJudged i j (suc k) next (and_then (refused_at v i (square_byte m i j)) λ u. w)
      go (entry_wrong h) rest = across_wrong j (omega arith) (omega arith) h (λ x s l m w. omega arith)
      go (entry_right none) (across_wrong at l m h first) = across_wrong at (omega arith) (omega arith) h (λ x s p q. first-right none x s (λ u. first x s u q) p)
      go (entry_right none) (across_right all) = across_right (λ x s p q. first-right none x s (λ u. all x s u (omega arith)) p)

  -- the lines i and on, k of them, each of n entries: the first wrong entry stands on `line` at `at`, or there is none
  pub data DownJudged (n i k : ℕ) : MatrixVerdict → Type 0 where
    down_wrong : {r : Reason} {line : ℕ} (at : ℕ) → i ≤ line → line < i + k → Node n at → WrongEntry m line at r
        → ((x y : ℕ) (s : Reason) → i ≤ x → Node n y → PairBefore x y line at → WrongEntry m x y s → ⊥)
        → DownJudged n i k (refuse r line (square_byte m line at))
    down_right : ((x y : ℕ) (s : Reason) → i ≤ x → x < i + k → Node n y → WrongEntry m x y s → ⊥) → DownJudged n i k (Ok tt)

  pub down-judged : (n i k : ℕ) → DownJudged n i k (judge_down m n i k)
  unfolding judge_down
  down-judged n i zero = down_right (λ x y s l h m w. omega arith)
  down-judged n i (suc k) = go (across-judged i 1 n (judge_down m n (i + 1) k)) (down-judged n (i + 1) k)
    where
      on_first : {x y at : ℕ} → i ≤ x → PairBefore x y i at → (x ≡ i) × (y < at)
      on_first l (inl m) = absurd (omega arith)
      on_first l (inr m) = m

      line-right : ((y : ℕ) (s : Reason) → 1 ≤ y → y < 1 + n → WrongEntry m i y s → ⊥) → (x y : ℕ) (s : Reason) → (i + 1 ≤ x → ⊥) → i ≤ x → Node n y → WrongEntry m x y s → ⊥
      line-right all x y s not-later l u w =
          let e : x ≡ i = omega arith in
          all y s u.0 (omega (arith, u.1)) (rw e at w)

      rest-right : ((y : ℕ) (s : Reason) → 1 ≤ y → y < 1 + n → WrongEntry m i y s → ⊥) → {w : MatrixVerdict} → DownJudged n (i + 1) k w → DownJudged n i (suc k) w
      rest-right all (down_wrong {line = line} at l o q h first) =
          down_wrong {line = line} at (omega arith) (omega arith) q h
          (λ x y s p u b w.
          elim (dec_lt i x) [
            | yes z ↦ first x y s (omega arith) u b w
            | no z ↦ line-right all x y s (λ later. omega arith) p u w
          ])
      rest-right all (down_right rest) =
          down_right (λ x y s p q u w.
          elim (dec_lt i x) [
            | yes z ↦ rest x y s (omega arith) (omega arith) u w
            | no z ↦ line-right all x y s (λ later. omega arith) p u w
          ])

      go : {v next : MatrixVerdict} → AcrossJudged i 1 n next v → DownJudged n (i + 1) k next → DownJudged n i (suc k) v
      go (across_wrong at l o h first) rest =
          down_wrong {line = i} at (omega arith) (omega arith) (l, omega arith) h
          (λ x y s p q b w. let o = on_first p b in first y s q.0 o.1 (let e = o.0 in rw e at w))
      go (across_right all) rest = rest-right all rest
