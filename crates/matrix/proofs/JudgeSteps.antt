-- Judging the square entry by entry and line by line: the entries passed are fine, and what is left is judged as the whole is.
use Prim.Native.Nat.{ℕ, suc, ◌+◌, ◌-◌, ◌≤◌, ◌<◌}
use mathlib.Core.List.{List}
use mathlib.Core.Path.{◌≡◌, ◌∙◌, sym}
use native.Mathlib.Omega.{arith}
use Rattle.std.specs.Prelude.{Ok, Err}
use Rattle.reasons.specs.AndThen.{and_then}
use Rattle.reasons.specs.Verdict.{Verdict, refused_at}
use Rattle.reasons.specs.declared.reason.Refusal.{Refusal}
use Rattle.matrix.specs.Matrix.{entry}
use Rattle.matrix.specs.Read.{MatrixVerdict, check_entry, square_byte, judge_across, judge_down}

module _ (m : List (List ℕ)) (n : ℕ) where
  -- the lines before i are fine
  pub record Down (i : ℕ) : Type 0 where
    pub rest : judge_down m n 1 n ≡ judge_down m n i (n + 1 - i)

  -- and of line i the entries before j
  pub record Across (i j : ℕ) : Type 0 where
    pub rest : judge_down m n 1 n ≡ judge_across m i j (n + 1 - j) (judge_down m n (i + 1) (n + 1 - (i + 1)))

  pub line-begins : (i : ℕ) → Down i → i < n + 1 → Across i 1
  unfolding judge_down
  line-begins i down l =
      let e : n + 1 - i ≡ suc (n + 1 - (i + 1)) = omega arith in
      let f : n + 1 - 1 ≡ n = omega arith in
      record { rest = down.rest ∙ rw (e, f) }

  module _ (i j : ℕ) (across : Across i j) where
    module _ (l : j < n + 1) (x y : ℕ) (ex : x ≡ entry m i j) (ey : y ≡ entry m j i) (v : Verdict) (ev : v ≡ check_entry i j x y) (f : MatrixVerdict) (ef : f ≡ refused_at v i (square_byte m i j)) where
      next-entry : judge_down m n 1 n ≡ and_then f (λ u. judge_across m i (j + 1) (n + 1 - (j + 1)) (judge_down m n (i + 1) (n + 1 - (i + 1))))
      unfolding judge_across
      next-entry = let e : n + 1 - j ≡ suc (n + 1 - (j + 1)) = omega arith in across.rest ∙ rw (e, ← ex, ← ey, ← ev, ← ef)

      pub entry-faulty : (r : Refusal) → f ≡ Err r → Err r ≡ judge_down m n 1 n
      entry-faulty r e = sym (next-entry ∙ rw e)

      pub entry-fine : f ≡ Ok tt → Across i (j + 1)
      entry-fine e = record { rest = next-entry ∙ rw e }

    pub line-fine : n + 1 ≤ j → Down (i + 1)
    unfolding judge_across
    line-fine l = let e : n + 1 - j ≡ 0 = omega arith in record { rest = across.rest ∙ rw e }

  pub all-fine : (i : ℕ) → Down i → n + 1 ≤ i → Ok tt ≡ judge_down m n 1 n
  unfolding judge_down
  all-fine i down l = let e : n + 1 - i ≡ 0 = omega arith in sym (down.rest ∙ rw e)
