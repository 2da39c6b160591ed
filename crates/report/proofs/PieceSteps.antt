-- For `piece_end`: what it has passed is one piece, and what is behind it starts the next one.
use Prim.Native.Nat.{ℕ, suc, ◌+◌, ◌-◌, ◌<◌, ◌≤◌}
use mathlib.Core.Bool.{true}
use mathlib.Core.List.{List, [], ◌∷◌, ◌++◌}
use mathlib.Core.Logic.{inl, inr}
use mathlib.Core.Path.{◌≡◌, refl, ap, sym, ◌∙◌}
use native.Mathlib.Omega.{arith}
use lib.ListN.{length, get_or, take, drop, length-drop, length-take}
use lib.Seq.{take-length}
use borrow.Author.Tests.{eq-eqb, eqb-true}
use Rattle.std.proofs.Common.{Some, None}
use Rattle.std.proofs.lemmas.Bool.{cases_lt}
use Rattle.std.proofs.lemmas.List.{take-append-drop, get_or-take, get_or-drop, take_more, drop_more, drop_all}
use Rattle.memchr.specs.Find.{IsFirstByte, is_byte}
use Rattle.text.specs.Bytes.{lf, letter_r}
use Rattle.report.specs.Pieces.{starts_r, pieces}
use Rattle.report.specs.PiecesAre.{EndsLine, NoneBehind, IsEmpty}
use Rattle.report.proofs.PieceLaws.{one-piece, Meet, nothing-behind, line-between, pieces-append, alone-filled, uncut-by-place}

-- a line that starts with R begins at place j + 1
abbrev Begins : List ℕ → ℕ → Type 0
Begins s j = (suc j < length s) × ((get_or s j 0 ≡ lf) × (get_or s (suc j) 0 ≡ letter_r))

-- none does behind the text's start and up to the place `end`
pub record Passed (s : List ℕ) (end : ℕ) : Type 0 where
  pub within : end ≤ length s
  pub none : (j : ℕ) → suc j ≤ end → Begins s j → ⊥

-- no piece is left of an empty text
pub none-left : (s : List ℕ) → length s ≡ 0 → pieces s ≡ []
unfolding pieces
none-left [] e = refl
none-left (b ∷ s) e = absurd (omega arith)

-- ---- a text is cut where none begins before

module _ (s : List ℕ) (m : ℕ) (some : 0 < m) (within : m ≤ length s) (none : (j : ℕ) → suc j < m → Begins s j → ⊥) where
  size : length (take m s) ≡ m
  size = rw length-take (omega arith)

  first-none : NoneBehind (take m s)
  first-none = uncut-by-place (take m s) (λ k h e f.
      let l : suc k < m = rw size at h in
      none k l (omega arith, (sym (get_or-take m s k 0 (omega arith)) ∙ e, sym (get_or-take m s (suc k) 0 l) ∙ f)))

  first-filled : IsEmpty (take m s) → ⊥
  unfolding IsEmpty
  first-filled e = let l : length (take m s) ≡ 0 = ap length e in let n = size in omega arith

  first-alone : pieces (take m s) ≡ take m s ∷ []
  first-alone = one-piece _ first-none ∙ alone-filled _ first-filled

  cut-there : Meet (take m s) (drop m s) → pieces s ≡ take m s ∷ pieces (drop m s)
  cut-there meet =
      sym (ap pieces (take-append-drop m s)) ∙ pieces-append _ (drop m s) meet ∙ ap (λ l. l ++ pieces (drop m s)) first-alone

  first-ends : get_or s (m - 1) 0 ≡ lf → EndsLine (take m s)
  unfolding EndsLine
  first-ends e =
      let i : m ≡ m - 1 + 1 = omega arith in (
        take (m - 1) s,
        ap (λ k. take k s) i ∙ take_more s (m - 1) 0 (omega arith) ∙ ap (λ (b : ℕ). take (m - 1) s ++ b ∷ []) e,
      )

  next-starts : m < length s → get_or s m 0 ≡ letter_r → starts_r (drop m s) ≡ true
  unfolding starts_r
  next-starts h f = rw (drop_more s m 0 h, f) refl

-- ---- the loop

-- what it looks at
abbrev Rest : List ℕ → ℕ → List ℕ
Rest s end = take (length s - end) (drop end s)

rest-all : (s : List ℕ) (end : ℕ) → Rest s end ≡ drop end s
rest-all s end = ap (λ k. take k (drop end s)) (sym (length-drop end s)) ∙ take-length (drop end s)

module _ (s : List ℕ) (end : ℕ) (passed : Passed s end) where
  -- the next LF is k places on
  module _ (k : ℕ) (found : IsFirstByte (is_byte lf) (Rest s end) (Some k)) where
    first : IsFirstByte (is_byte lf) (drop end s) (Some k)
    first = rw (rest-all s end) at found

    there : end + (k + 1) ≤ length s
    there = let h = first.0.high in let l : length (drop end s) ≡ length s - end = length-drop end s in let w = passed.within in omega arith

    is-lf : get_or s (end + (k + 1) - 1) 0 ≡ lf
    is-lf =
        let i : end + (k + 1) - 1 ≡ end + k = omega arith in
        rw i (sym (get_or-drop end s k 0) ∙ eqb-true _ _ first.1)

    none-before : (j : ℕ) → suc j < end + (k + 1) → Begins s j → ⊥
    none-before j h b =
        elim (cases_lt j end) [
          | inl l ↦ passed.none j (omega arith) b
          | inr l ↦ let i : end + (j - end) ≡ j = omega arith in
              first.0.before (j - end) (omega arith) (omega arith)
              (eq-eqb _ _ (get_or-drop end s (j - end) 0 ∙ ap (λ n. get_or s n 0) i ∙ b.1.0))
        ]

    pub passed-on : (end + (k + 1) < length s → get_or s (end + (k + 1)) 0 ≡ letter_r → ⊥) → Passed s (end + (k + 1))
    passed-on h = record {
      within = there;
      none = λ j l b. elim (cases_lt (suc j) (end + (k + 1))) [
        | inl m ↦ none-before j m b
        | inr m ↦ let i : suc j ≡ end + (k + 1) = omega arith in h (rw i at b.0) (rw i at b.1.1)
      ];
    }

    pub piece-ends : end + (k + 1) < length s → get_or s (end + (k + 1)) 0 ≡ letter_r
        → pieces s ≡ take (end + (k + 1)) s ∷ pieces (drop (end + (k + 1)) s)
    piece-ends h r =
        let m = end + (k + 1) in
        cut-there s m (omega arith) (omega arith) none-before
        (line-between (first-ends s m (omega arith) (omega arith) none-before is-lf) (next-starts s m (omega arith) (omega arith) none-before h r))

  -- no LF is left
  pub text-ends : 0 < length s → IsFirstByte (is_byte lf) (Rest s end) None → pieces s ≡ take (length s) s ∷ pieces (drop (length s) s)
  unfolding IsEmpty
  text-ends some never = cut-there s (length s) some (omega arith) none (nothing-behind (drop_all (length s) s (omega arith)))
    where
      nowhere : IsFirstByte (is_byte lf) (drop end s) None
      nowhere = rw (rest-all s end) at never

      none : (j : ℕ) → suc j < length s → Begins s j → ⊥
      none j h b =
          elim (cases_lt j end) [
            | inl l ↦ passed.none j (omega arith) b
            | inr l ↦ let i : end + (j - end) ≡ j = omega arith in
                let n : length (drop end s) ≡ length s - end = length-drop end s in
                nowhere (j - end) (omega arith) (omega arith)
                (eq-eqb _ _ (get_or-drop end s (j - end) 0 ∙ ap (λ n. get_or s n 0) i ∙ b.1.0))
          ]
