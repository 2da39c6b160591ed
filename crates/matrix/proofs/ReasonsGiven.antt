-- A reason is given exactly when it holds and nothing before it in the order does, and a matrix is accepted exactly when none holds: shown by going through the lines
-- and then the entries as the reader does, with nothing said of those passed.
use Prim.Native.Nat.{ℕ, zero, suc, ◌+◌, ◌-◌, ◌≤◌, ◌<◌}
use mathlib.Core.List.{List, [], ◌∷◌, ◌++◌}
use mathlib.Core.Logic.{◌⊎◌, inl, inr, ⊎_elim, ◌↔◌}
use mathlib.Core.Path.{◌≡◌, refl, ap, ◌∙◌, sym, subst}
use native.Mathlib.Omega.{arith}
use native.Mathlib.Decide.{dec_lt}
use lib.ListN.{length, get_or, length-append, get_or-append}
use lib.Seq.{get_or-append_seam}
use borrow.Author.Tests.{ltb-true, ltb-false}
use Rattle.ring.specs.Limits.{Limits}
use Rattle.ring.specs.Lists.{Each, none, more, Some, here, there}
use Rattle.ring.specs.TableRows.{PairBefore}
use Rattle.ring.proofs.Side.{cond-elim}
use Rattle.text.specs.ReadLine.{Reading}
use Rattle.text.specs.Shapes.{numbers, numbers_line}
use Rattle.text.specs.FirstFault.{FirstFault}
use Rattle.reasons.specs.Reasons.{rank_of}
use Rattle.lines.specs.Lines.{lines, LineIs}
use Rattle.lines.specs.DueBytes.{DueByte, line_missing, line_faulty}
use Rattle.reasons.specs.declared.reason.Reason.{Reason}
use Rattle.reasons.specs.declared.reason.Reason.TheVariants.{TooLong, Misshapen, RingSize, TooMany, TooMuch}
use Rattle.std.specs.Prelude.{Ok, Err}
use Rattle.reasons.specs.AndThen.{and_then}
use Rattle.lines.specs.OnLine.{values_on}
use Rattle.reasons.specs.declared.reason.Refusal.{Refusal}
use Rattle.reasons.specs.Verdict.{Verdict, refused_at}
use Rattle.reasons.specs.Refusals.{refuse}
use Rattle.reasons.proofs.Judged.{SizeJudged, not_so_many, right_size, size-judged}
use Rattle.reasons.proofs.FirstGiven.{RightBy, none_holds, first_holds, one-first, same-place as same-on-lines, refused-as, accepted-as}
use Rattle.lines.proofs.LineNumbers.{line-low, line-one, LinesFrom, from_first, from_next, line-here, no-line-left}
use Rattle.reasons.proofs.ReasonNumbers.{no-rank-0}
use Rattle.matrix.specs.Matrix.{entry, entry_byte, Node}
use Rattle.matrix.specs.Demands.{pairs_from, above_zero, rows_by, rows_of_matrix}
use Rattle.matrix.specs.Read.{SquareRead, Numbers, MatrixVerdict, fields_in, square_lines, square_byte, judge_count, square_judged, matrix_lines, matrix_of}
use Rattle.matrix.specs.Says.{NumbersAre, EntryIs, NoFirstLine, NoLaterLine, LeftOver, SaysRingSize, SaysTooMuch, WrongEntry, not_zero, not_mirror, FirstFaulty, SaysTooMany, says_too_long, says_no_first_line, says_no_later_line, says_left_over, says_ring_size, says_too_much, says_not_zero, says_not_symmetric, says_too_many, Says, LineByte, first_due, later_due, none_due, EntryStarts, FaultyByte, at_none, at_fault, at_size, at_amount, at_diagonal, at_mirror, at_rows, ByteIs, stage, Earlier, Given, Accepted}
use Rattle.matrix.proofs.LinesText.{NumbersRead, are_numbers, no_numbers, numbers-read, FirstOver, LineRead, line_is, line_over, line_not, line-read, Spelled, each_by, each_at}
use Rattle.matrix.proofs.MatrixText.{fields-are}
use Rattle.matrix.proofs.RoundTrip.{same-lines}
use Rattle.matrix.proofs.Entries.{WrongEntry as Wrong, not_zero as zero-wrong, not_mirror as mirror-wrong, DownJudged, down_wrong, down_right, down-judged}
use Rattle.matrix.proofs.AnyFields.{lines-ended, line-ended, fields-some, any-fault}
use Rattle.matrix.proofs.BytesGiven.{numbers-one, amount-byte, one_byte}

-- ---- what is said of a line, as one view

data Said (limits : Limits) (t : List ℕ) (line : ℕ) : Reason → Type 0 where
  too_long : line ≡ 0 → limits.bytes < length t → Said limits t line TooLong
  no_first : NoFirstLine limits t line → Said limits t line Misshapen
  no_later : NoLaterLine limits t line → Said limits t line Misshapen
  left_over : LeftOver limits t line → Said limits t line Misshapen
  wrong_n : SaysRingSize limits t line → Said limits t line RingSize
  wrong_amount : SaysTooMuch limits t line → Said limits t line TooMuch

-- it is said of a line, or of the whole square, or of its rows
data Told (limits : Limits) (t : List ℕ) (line : ℕ) (r : Reason) : Type 0 where
  of_line : stage r ≡ 0 → Said limits t line r → Told limits t line r
  of_square : stage r ≡ 1 → FirstFaulty limits t r line → Told limits t line r
  of_rows : r ≡ TooMany → SaysTooMany limits t line → Told limits t line r

told : {limits : Limits} {t : List ℕ} {line : ℕ} {r : Reason} → Says limits t r line → Told limits t line r
told (says_too_long e long) = of_line refl (too_long e long)
told (says_no_first_line h) = of_line refl (no_first h)
told (says_no_later_line h) = of_line refl (no_later h)
told (says_left_over h) = of_line refl (left_over h)
told (says_ring_size h) = of_line refl (wrong_n h)
told (says_too_much h) = of_line refl (wrong_amount h)
told (says_not_zero h) = of_square refl h
told (says_not_symmetric h) = of_square refl h
told (says_too_many h) = of_rows refl h

-- ---- an answer that is right by what the reasons say

abbrev Right : Limits → List ℕ → SquareRead → Type 0
Right limits t = RightBy (Says limits t) Earlier (ByteIs limits t)

-- nothing is said of the lines before this one
record Clean (limits : Limits) (t : List ℕ) (line : ℕ) : Type 0 where
  pub nothing : (s : Reason) (other : ℕ) → other < line → Said limits t other s → ⊥

module _ {limits : Limits} {t : List ℕ} where
  -- a reason of a line is given where nothing is said of the lines before, and nothing of a lower rank of it
  given-here : {line byte : ℕ} (r : Reason) → stage r ≡ 0 → Clean limits t line → Says limits t r line → ((s : Reason) → rank_of s < rank_of r → Said limits t line s → ⊥)
      → ByteIs limits t r line byte → Given limits t r line byte
  given-here {line} r z clean holds least b = record { holds = holds; first = λ s other e h. go s other e (told h); byte_is = b }
    where
      go : (s : Reason) (other : ℕ) → Earlier s other r line → Told limits t other s → ⊥
      go s other (inl l) h = omega arith
      go s other (inr e) (of_square q h) = omega (arith, e.0)
      go s other (inr e) (of_rows q h) = omega (arith, e.0, ap stage q)
      go s other (inr e) (of_line q h) = ⊎_elim (λ l. clean.nothing s other l h) (λ l. least s l.1 (subst (λ x. Said limits t x s) l.0 h)) e.1

  clean-start : length t ≤ limits.bytes → Clean limits t 1
  clean-start short = record { nothing = λ s other l h. go l h }
    where
      go : {s : Reason} {other : ℕ} → other < 1 → Said limits t other s → ⊥
      go l (too_long e long) = omega arith
      go l (no_first h) = omega (arith, h.at)
      go l (no_later h) = omega (arith, h.next)
      go l (left_over h) = omega (arith, line-low h.is)
      go l (wrong_n h) = omega (arith, h.at)
      go l (wrong_amount h) = omega (arith, line-low h.is.text)

  clean-next : {line : ℕ} → Clean limits t line → ((s : Reason) → Said limits t line s → ⊥) → Clean limits t (line + 1)
  clean-next {line} clean out = record { nothing = go }
    where
      go : (s : Reason) (other : ℕ) → other < line + 1 → Said limits t other s → ⊥
      go s other l h =
          elim (dec_lt other line) [
            | yes m ↦ clean.nothing s other m h
            | no m ↦ let e : other ≡ line = omega arith in out s (subst (λ x. Said limits t x s) e h)
          ]

  -- 2 is the first reason of a line
  below_two : {line : ℕ} {s : Reason} → 1 ≤ line → rank_of s < rank_of Misshapen → Said limits t line s → ⊥
  below_two low l (too_long e long) = omega arith
  below_two low l (no_first h) = omega arith
  below_two low l (no_later h) = omega arith
  below_two low l (left_over h) = omega arith
  below_two low l (wrong_n h) = omega arith
  below_two low l (wrong_amount h) = omega arith

  misshapen-here : {line byte : ℕ} → 1 ≤ line → Clean limits t line → Says limits t Misshapen line → LineByte limits t line byte → Given limits t Misshapen line byte
  misshapen-here low clean h b = given-here Misshapen refl clean h (λ s l k. below_two low l k) (at_fault b)

some-each : {A : Type 0} {P : A → Type 0} {l : List A} → Some P l → Each (λ a. P a → ⊥) l → ⊥
some-each (here p) (more q qs) = q p
some-each (there s) (more q qs) = some-each s qs

within-not : (limits : Limits) {vs : List ℕ} → Each (λ v. v ≤ limits.amount) vs → Each (λ v. limits.amount < v → ⊥) vs
within-not limits none = none
within-not limits (more {a = a} h hs) = let q : limits.amount < a → ⊥ = λ l. omega arith in more q (within-not limits hs)

-- ---- the first line is the numbers us, a size in range

module _ (limits : Limits) (t : List ℕ) (us : List ℕ) (first : NumbersAre limits t 1 us) where
  -- its size alone can be wrong on line 1 before its amounts
  size-first : {s : Reason} → rank_of s < rank_of RingSize → Said limits t 1 s → ⊥
  size-first l (too_long e long) = omega arith
  size-first l (no_first h) = h.none us first
  size-first l (no_later h) = omega (arith, h.next, line-low h.there)
  size-first l (left_over h) = omega (arith, h.wrong, h.first.some)
  size-first l (wrong_n h) = omega arith
  size-first l (wrong_amount h) = omega arith

  module _ (few : limits.fewest ≤ length us) (many : length us ≤ limits.nodes) where
    abbrev n : ℕ
    n = length us

    wrong-n-not : {line : ℕ} → SaysRingSize limits t line → ⊥
    wrong-n-not h = let e : length h.us ≡ n = ap length (numbers-one h.first first refl) in ⊎_elim (λ l. omega arith) (λ l. omega arith) h.wrong

    -- of a line that is due and has n numbers only 7 can be said
    module _ (line : ℕ) (low : 1 ≤ line) (due : line ≤ n) (vs : List ℕ) (is : NumbersAre limits t line vs) (wide : length vs ≡ n) where
      only-amount : {s : Reason} → Said limits t line s → (s ≡ TooMuch) × SaysTooMuch limits t line
      only-amount (too_long e long) = absurd (omega arith)
      only-amount (no_first h) = absurd (h.none us first)
      only-amount (no_later h) =
          let e : length h.us ≡ n = ap length (numbers-one h.first first refl) in
          absurd (h.none vs (wide ∙ sym e) is)
      only-amount (left_over h) =
          let e : length h.us ≡ n = ap length (numbers-one h.first first refl) in
          absurd (omega (arith, h.wrong))
      only-amount (wrong_n h) = absurd (wrong-n-not h)
      only-amount (wrong_amount h) = (refl, h)

      amount-first : (s : Reason) → rank_of s < rank_of TooMuch → Said limits t line s → ⊥
      amount-first s l h = let e = (only-amount h).0 in omega (arith, ap rank_of e)

      line-fine : Each (λ v. v ≤ limits.amount) vs → (s : Reason) → Said limits t line s → ⊥
      line-fine within s h =
          let w = (only-amount h).1 in
          some-each w.wrong (subst (Each (λ v. limits.amount < v → ⊥)) (sym (numbers-one w.is is refl)) (within-not limits within))

    -- the lines m are read
    record Held (m : List (List ℕ)) (line : ℕ) : Type 0 where
      pub count : line ≡ length m + 1
      pub at : (i : ℕ) → 1 ≤ i → i ≤ length m → NumbersAre limits t i (get_or m (i - 1) [])
      pub wide : (i : ℕ) → 1 ≤ i → i ≤ length m → length (get_or m (i - 1) []) ≡ n

    held_next : (m : List (List ℕ)) (line : ℕ) (vs : List ℕ) → Held m line → NumbersAre limits t line vs → length vs ≡ n → Held (m ++ vs ∷ []) (line + 1)
    held_next m line vs held is wide =
        record {
          count = omega (arith, held.count, length-append m (vs ∷ []));
          at = λ i l h. elim (dec_lt (length m) i) [ yes k ↦ subst (λ x. NumbersAre limits t i x) (sym (last i k h)) (let e : line ≡ i = omega (arith, held.count, length-append m (vs ∷ [])) in subst (λ x. NumbersAre limits t x vs) e is) | no k ↦ subst (λ x. NumbersAre limits t i x) (sym (before i l (omega arith))) (held.at i l (omega arith)) ];
          wide = λ i l h. elim (dec_lt (length m) i) [ yes k ↦ ap length (last i k h) ∙ wide | no k ↦ ap length (before i l (omega arith)) ∙ held.wide i l (omega arith) ];
        }
      where
        last : (i : ℕ) → length m < i → i ≤ length (m ++ vs ∷ []) → get_or (m ++ vs ∷ []) (i - 1) [] ≡ vs
        last i k h = let e : i - 1 ≡ length m = omega (arith, length-append m (vs ∷ [])) in rw e (get_or-append_seam m vs [] [])

        before : (i : ℕ) → 1 ≤ i → i ≤ length m → get_or (m ++ vs ∷ []) (i - 1) [] ≡ get_or m (i - 1) []
        before i l h = get_or-append m (vs ∷ []) [] (i - 1) (omega arith)

    -- ---- all lines are read: the square

    module _ (m : List (List ℕ)) (line : ℕ) (held : Held m line) (tall : length m ≡ n) (clean : Clean limits t line) (from : LinesFrom (lines t) line []) where
      -- nothing is said of any line
      no_line : {s : Reason} {other : ℕ} → Said limits t other s → ⊥
      no_line {s} {other} h =
          elim (dec_lt other line) [
            | yes l ↦ clean.nothing s other l h
            | no l ↦ go (omega arith) h
          ]
        where
          go : {s : Reason} {other : ℕ} → line ≤ other → Said limits t other s → ⊥
          go l (too_long e long) = omega (arith, held.count)
          go l (no_first h) = h.none us first
          go l (no_later h) =
              let e : length h.us ≡ n = ap length (numbers-one h.first first refl) in
              omega (arith, h.due, held.count)
          go l (left_over h) = omega (arith, no-line-left from h.is)
          go l (wrong_n h) = wrong-n-not h
          go l (wrong_amount h) = omega (arith, no-line-left from h.is.text)

      -- entries by the lines, and by the square
      record InSquare (i j v : ℕ) : Type 0 where
        pub row : Node n i
        pub column : Node n j
        pub is : v ≡ entry m i j

      entry_in : {i j v : ℕ} → EntryIs limits t i j v → InSquare i j v
      entry_in {i} {j} h =
          let low : 1 ≤ i = line-low h.line.text in
          let high : i ≤ length m = omega (arith, no-line-left from h.line.text, held.count) in
          let e : h.vs ≡ get_or m (i - 1) [] = numbers-one h.line (held.at i low high) refl in
          record {
            row = (low, omega arith);
            column = (h.low, omega (arith, h.high, ap length e, held.wide i low high));
            is = h.is ∙ ap (λ l. get_or l (j - 1) 0) e;
          }

      entry_of : (i j : ℕ) → Node n i → Node n j → EntryIs limits t i j (entry m i j)
      entry_of i j p q =
          record {
            vs = get_or m (i - 1) [];
            line = held.at i p.0 (omega (arith, p.1));
            low = q.0;
            high = omega (arith, q.1, held.wide i p.0 (omega (arith, p.1)));
            is = refl;
          }

      wrong-in : {i j : ℕ} {r : Reason} → WrongEntry limits t i j r → (Node n i) × (Node n j) × Wrong m i j r
      wrong-in (not_zero e h w) = let s = entry_in h in (s.row, s.column, zero-wrong e (λ z. w (s.is ∙ z)))
      wrong-in (not_mirror e h k w) = let s = entry_in h in let u = entry_in k in (s.row, s.column, mirror-wrong e (λ z. w (s.is ∙ z ∙ sym u.is)))

      wrong-of : {i j : ℕ} {r : Reason} → Node n i → Node n j → Wrong m i j r → WrongEntry limits t i j r
      wrong-of {i} {j} p q (zero-wrong e w) = not_zero e (entry_of i j p q) w
      wrong-of {i} {j} p q (mirror-wrong e w) = not_mirror e (entry_of i j p q) (entry_of j i q p) w

      one-wrong : {i j : ℕ} {r s : Reason} → Wrong m i j r → Wrong m i j s → r ≡ s
      one-wrong (zero-wrong e w) (zero-wrong f u) = refl
      one-wrong (zero-wrong e w) (mirror-wrong f u) = absurd (f e)
      one-wrong (mirror-wrong e w) (zero-wrong f u) = absurd (e f)
      one-wrong (mirror-wrong e w) (mirror-wrong f u) = refl

      faulty-says : {i j : ℕ} {r : Reason} → Wrong m i j r → FirstFaulty limits t r i → (stage r ≡ 1) × Says limits t r i
      faulty-says (zero-wrong e w) h = (refl, says_not_zero h)
      faulty-says (mirror-wrong e w) h = (refl, says_not_symmetric h)

      faulty-byte : {i j byte : ℕ} {r : Reason} → Wrong m i j r → FaultyByte limits t r i byte → ByteIs limits t r i byte
      faulty-byte (zero-wrong e w) h = at_diagonal h
      faulty-byte (mirror-wrong e w) h = at_mirror h

      starts-at : (i j : ℕ) → Node n i → EntryStarts limits t i j (square_byte m i j)
      starts-at i j p = record { vs = get_or m (i - 1) []; is = held.at i p.0 (omega (arith, p.1)); at = refl }

      -- a text has one square
      one-size : {other : ℕ} (h : SaysTooMany limits t other) → h.n ≡ n
      unfolding rows_by pairs_from above_zero
      one-size h =
          elim (dec_lt 0 h.n) [
            | yes l ↦
                let e : length (get_or h.m (1 - 1) []) ≡ h.n = each_at h.square.wide [] 0 (omega (arith, h.square.tall)) in
                let f : get_or h.m (1 - 1) [] ≡ us = numbers-one (h.lines 1 (omega arith, omega arith)) first refl in
                omega (arith, ap length f)
            | no l ↦ let e : h.n ≡ 0 = omega arith in let w = rw e at h.wrong in omega (arith, w)
          ]

      one-square : {other : ℕ} (h : SaysTooMany limits t other) → h.m ≡ m
      one-square h =
          let e = one-size h in
          same-lines n h.m m (omega (arith, h.square.tall)) tall (λ i p. numbers-one (h.lines i (p.0, omega (arith, p.1))) (held.at i p.0 (omega (arith, p.1))) refl)

      few-rows : {other : ℕ} → length (rows_of_matrix n m) ≤ limits.rows → SaysTooMany limits t other → ⊥
      few-rows l h = let e = one-size h in let f = one-square h in let w = rw (e, f) at h.wrong in omega arith

      -- 16, where nothing is wrong with an entry
      many-given : ((x y : ℕ) (s : Reason) → WrongEntry limits t x y s → ⊥) → limits.rows < length (rows_of_matrix n m) → Given limits t TooMany 0 0
      many-given right l =
          record {
            holds = says_too_many (record {
              at = refl;
              n = n;
              m = m;
              square = record { tall = tall; wide = each_by [] m (λ k h. let e : k + 1 - 1 ≡ k = omega arith in rw e at (held.wide (k + 1) (omega arith) (omega arith))) };
              lines = λ i p. held.at i p.0 (omega (arith, p.1));
              wrong = l;
            });
            first = λ s other e h. go s other e (told h);
            byte_is = at_rows refl;
          }
        where
          go : (s : Reason) (other : ℕ) → Earlier s other TooMany 0 → Told limits t other s → ⊥
          go s other e (of_line z h) = no_line h
          go s other e (of_square z h) = right other h.j s h.wrong
          go s other (inl e) (of_rows z h) = omega (arith, ap stage z)
          go s other (inr e) (of_rows z h) = ⊎_elim (λ l. omega arith) (λ l. omega (arith, l.1, ap rank_of z)) e.1

      square-right : {z : MatrixVerdict} → DownJudged m n 1 n z → Right limits t (and_then z (λ u. and_then (judge_count limits n m) (λ w. Ok (n, m))))
      square-right (down_right all) =
          cond-elim (λ (z : MatrixVerdict). Right limits t (and_then z (λ w. Ok (n, m)))) _ _ _ (λ e. first_holds (many-given right (ltb-true limits.rows (length (rows_of_matrix n m)) e)))
          (λ e. none_holds (λ r other h. go (ltb-false limits.rows (length (rows_of_matrix n m)) e) (told h)))
        where
          right : (x y : ℕ) (s : Reason) → WrongEntry limits t x y s → ⊥
          right x y s h = let w = wrong-in h in all x y s w.0.0 (omega (arith, w.0.1)) w.1 w.2

          go : {r : Reason} {other : ℕ} → length (rows_of_matrix n m) ≤ limits.rows → Told limits t other r → ⊥
          go l (of_line z h) = no_line h
          go {r} {other} l (of_square z h) = right other h.j r h.wrong
          go l (of_rows z h) = few-rows l h
      square-right (down_wrong {r} {line = i} j low high q wrong before) =
          first_holds (record { holds = says.1; first = λ s other e h. go s other e (told h); byte_is = faulty-byte wrong (record { faulty = found; starts = starts-at i j p }) })
        where
          p : Node n i
          p = (low, omega arith)

          none_before : (x y : ℕ) (s : Reason) → PairBefore x y i j → WrongEntry limits t x y s → ⊥
          none_before x y s b w = let u = wrong-in w in before x y s u.0.0 u.1 b u.2

          found : FirstFaulty limits t r i
          found = record { j = j; wrong = wrong-of p q wrong; first = none_before }

          says : (stage r ≡ 1) × Says limits t r i
          says = faulty-says wrong found

          same_line : (s : Reason) → rank_of s < rank_of r → FirstFaulty limits t s i → ⊥
          same_line s l h =
              elim (dec_lt h.j j) [
                | yes a ↦ none_before i h.j s (inr (refl, a)) h.wrong
                | no a ↦ elim (dec_lt j h.j) [
                  | yes b ↦ h.first i j r (inr (refl, b)) (wrong-of p q wrong)
                  | no b ↦
                      let e : h.j ≡ j = omega arith in
                      let k : r ≡ s = one-wrong wrong (subst (λ y. Wrong m i y s) e (wrong-in h.wrong).2) in
                      omega (arith, ap rank_of k)
                ]
              ]

          go : (s : Reason) (other : ℕ) → Earlier s other r i → Told limits t other s → ⊥
          go s other e (of_line z h) = no_line h
          go s other (inl l) (of_square z h) = omega (arith, says.0)
          go s other (inr e) (of_square z h) =
              ⊎_elim (λ l. none_before other h.j s (inl l) h.wrong) (λ l. same_line s l.1 (subst (FirstFaulty limits t s) l.0 h)) e.1
          go s other (inl l) (of_rows z h) = omega (arith, says.0, ap stage z)
          go s other (inr e) (of_rows z h) = omega (arith, says.0, e.0, ap stage z)

    -- ---- line by line

    data Prev (line : ℕ) : Type 0 where
      is_first : line ≡ 1 → Prev line
      is_later : {before : ℕ} {l : List ℕ} → LineIs (lines t) before l → line ≡ before + 1 → Prev line

    no-line-here : {line : ℕ} → Prev line → 1 ≤ line → line ≤ n → ((vs : List ℕ) → length vs ≡ n → NumbersAre limits t line vs → ⊥) → Says limits t Misshapen line
    no-line-here (is_first e) low due out = absurd (out us refl (subst (λ x. NumbersAre limits t x us) (sym e) first))
    no-line-here (is_later {before} {l} stands next) low due out =
        says_no_later_line (record { us = us; first = first; before = before; next = next; l = l; there = stands; due = due; none = out })

    no-line-byte : {line byte : ℕ} → Prev line → line ≤ n → ((vs : List ℕ) → length vs ≡ n → NumbersAre limits t line vs → ⊥) → DueByte t line (FirstFault limits.digits (numbers n)) byte
        → LineByte limits t line byte
    no-line-byte (is_first e) due out b = absurd (out us refl (subst (λ x. NumbersAre limits t x us) (sym e) first))
    no-line-byte (is_later stands next) due out b = later_due (omega (arith, line-low stands)) first due b

    -- a line that is due is missing, or is not n numbers
    not-numbers : {line byte : ℕ} → Prev line → 1 ≤ line → line ≤ n → Clean limits t line → ((vs : List ℕ) → length vs ≡ n → NumbersAre limits t line vs → ⊥)
        → DueByte t line (FirstFault limits.digits (numbers n)) byte → Right limits t (refuse Misshapen line byte)
    not-numbers prev low due clean out b = first_holds (misshapen-here low clean (no-line-here prev low due out) (no-line-byte prev due out b))

    left-over-here : {line : ℕ} {l : List ℕ} → LineIs (lines t) line l → n < line → Says limits t Misshapen line
    left-over-here {l = l} is over = says_left_over (record { us = us; first = first; l = l; is = is; wrong = over })

    amount-given : {line : ℕ} {vs : List ℕ} (x : ℕ) → 1 ≤ line → line ≤ n → Clean limits t line → NumbersAre limits t line vs → length vs ≡ n → FirstOver limits vs x
        → Given limits t TooMuch line (entry_byte vs x)
    amount-given {line} {vs} x low due clean is wide f =
        given-here TooMuch refl clean (says_too_much (record { vs = vs; is = is; wrong = f.some })) (amount-first line low due vs is wide) (at_amount (amount-byte x is f))

    lines-right : (ls : List (List ℕ)) (line left : ℕ) (m : List (List ℕ)) → 1 ≤ line → line + left ≡ n + 1 → LinesFrom (lines t) line ls → Prev line → Clean limits t line
        → Held m line → Right limits t (square_judged limits (square_lines limits n line left m ls))
    unfolding square_lines square_judged
    lines-right [] line zero m low due from prev clean held =
        square-right m line held (omega (arith, held.count)) clean from (down-judged m n 1 n)
    lines-right (l ∷ ls) line zero m low due from prev clean held =
        first_holds (misshapen-here low clean (left-over-here (line-here from) (omega arith)) (none_due first (omega arith) refl))
    lines-right [] line (suc left) m low due from prev clean held =
        not-numbers prev low (omega arith) clean (λ vs k is. omega (arith, no-line-left from is.text)) (line_missing (λ l is. omega (arith, no-line-left from is)))
    lines-right (l ∷ ls) line (suc left) m low due from prev clean held =
        go (line-read limits n line l) (λ vs clean held. lines-right ls (line + 1) left (m ++ vs ∷ []) (omega arith) (omega arith) (from_next from) (is_later (line-here from) refl) clean held)
      where
        next : List ℕ → SquareRead
        next vs = square_lines limits n (line + 1) left (m ++ vs ∷ []) ls

        here-is : {vs : List ℕ} → l ≡ numbers_line vs → length vs ≡ n → Spelled limits vs → NumbersAre limits t line vs
        here-is e wide spelled = record { text = subst (LineIs (lines t) line) e (line-here from); some = omega (arith, first.some); spelled = spelled }

        go : {x : Numbers} → LineRead limits n line l x
            → ((vs : List ℕ) → Clean limits t (line + 1) → Held (m ++ vs ∷ []) (line + 1) → Right limits t (square_judged limits (next vs)))
            → Right limits t (square_judged limits (and_then x next))
        go (line_is {vs} e wide spelled within) rest =
            let is = here-is e wide spelled in
            rest vs (clean-next clean (line-fine line low (omega arith) vs is wide within)) (held_next m line vs held is wide)
        go (line_over x e wide spelled f) rest = first_holds (amount-given x low (omega arith) clean (here-is e wide spelled) wide f)
        go (line_not out fault) rest =
            not-numbers prev low (omega arith) clean (λ vs k is. out vs (line-one (line-here from) is.text refl) k is.spelled) (line_faulty (line-here from) fault)

-- ---- the whole

module _ (limits : Limits) (t : List ℕ) where
  first_says : ((vs : List ℕ) → NumbersAre limits t 1 vs → ⊥) → Says limits t Misshapen 1
  first_says out = says_no_first_line (record { at = refl; none = out })

  size-given : {us : List ℕ} → length t ≤ limits.bytes → NumbersAre limits t 1 us → (length us < limits.fewest) ⊎ (limits.nodes < length us) → Given limits t RingSize 1 1
  size-given {us} short first w =
      given-here RingSize refl (clean-start short) (says_ring_size (record { at = refl; us = us; first = first; wrong = w })) (λ s l h. size-first limits t us first l h) (at_size refl)

  all_right : length t ≤ limits.bytes → (ls : List (List ℕ)) → LinesFrom (lines t) 1 ls → Right limits t (matrix_lines limits ls)
  unfolding matrix_lines values_on refused_at square_judged
  all_right short [] from =
      first_holds (misshapen-here (omega arith) (clean-start short) (first_says (λ vs is. omega (arith, no-line-left from is.text)))
      (first_due refl (line_missing (λ l is. omega (arith, no-line-left from is)))))
  all_right short (l ∷ ls) from = go (numbers-read limits (fields_in l) l) (size-judged limits (fields_in l))
    where
      next : SquareRead
      next = square_judged limits (square_lines limits (fields_in l) 1 (fields_in l) [] (l ∷ ls))

      ring : (us : List ℕ) {v : Verdict} → NumbersAre limits t 1 us → length us ≡ fields_in l → SizeJudged limits (fields_in l) v → Right limits t (and_then (refused_at v 1 1) (λ u. next))
      ring us first k (not_so_many w) =
          first_holds (size-given short first (subst (λ x. (x < limits.fewest) ⊎ (limits.nodes < x)) (sym k) w))
      ring us first k (right_size few many) =
          subst (λ x. Right limits t (square_judged limits (square_lines limits x 1 x [] (l ∷ ls)))) k
          (lines-right limits t us first (omega arith) (omega arith) (l ∷ ls) 1 (length us) [] (omega arith) (omega arith) from (is_first refl) (clean-start short)
          (record { count = refl; at = λ i p q. absurd (omega arith); wide = λ i p q. absurd (omega arith) }))

      go : {x : Reading} {v : Verdict} → NumbersRead limits (fields_in l) l x → SizeJudged limits (fields_in l) v → Right limits t (and_then (values_on 1 x) (λ vs. and_then (refused_at v 1 1) (λ u. next)))
      go (are_numbers {vs = us} e k s) judged =
          ring us (record { text = subst (LineIs (lines t) 1) e (line-here from); some = omega (arith, fields-some l); spelled = s }) k judged
      go (no_numbers {p} out fault) judged =
          first_holds (misshapen-here (omega arith) (clean-start short) (first_says (λ vs is.
          let e : l ≡ numbers_line vs = line-one (line-here from) is.text refl in
          out vs e (sym (ap fields_in e ∙ fields-are limits vs is.some is.spelled)) is.spelled))
          (first_due refl (line_faulty (line-here from) (any-fault limits l p (line-ended (lines-ended t) (line-here from)) fault))))

  too-long-given : limits.bytes < length t → Given limits t TooLong 0 0
  too-long-given long = record { holds = says_too_long refl long; first = λ s other e h. go s other e; byte_is = at_none refl }
    where
      go : (s : Reason) (other : ℕ) → Earlier s other TooLong 0 → ⊥
      go s other (inl l) = omega arith
      go s other (inr e) = ⊎_elim (λ l. omega arith) (λ l. omega (arith, l.1, no-rank-0 s)) e.1

right : (limits : Limits) (t : List ℕ) → Right limits t (matrix_of limits t)
unfolding matrix_of
right limits t =
    cond-elim (Right limits t) _ _ _
    (λ e. first_holds (too-long-given limits t (ltb-true limits.bytes (length t) e)))
    (λ e. all_right limits t (ltb-false limits.bytes (length t) e) (lines t) from_first)

-- ---- the laws

same-place : (r s : Reason) (line other : ℕ) → (Earlier r line s other → ⊥) → (Earlier s other r line → ⊥) → (r ≡ s) × (line ≡ other)
same-place r s line other up down =
    let x : stage r < stage s → ⊥ = λ l. up (inl l) in
    let y : stage s < stage r → ⊥ = λ l. down (inl l) in
    let z : stage r ≡ stage s = omega arith in
    same-on-lines r s line other (λ e. up (inr (z, e))) (λ e. down (inr (sym z, e)))

-- a text has one first reason, with one byte
pub one-given : (limits : Limits) (t : List ℕ) {r s : Reason} {line other byte on : ℕ} → Given limits t r line byte → Given limits t s other on → (r ≡ s) × (line ≡ other) × (byte ≡ on)
one-given limits t f g = one-first same-place (λ line b c r x y. one_byte x y) f g

pub given : (limits : Limits) (t : List ℕ) (r : Refusal) → (matrix_of limits t ≡ Err r) ↔ Given limits t r.reason r.line r.byte
given limits t = refused-as same-place (λ line b c r x y. one_byte x y) (right limits t)

-- a text is read to a matrix
pub record Reads (limits : Limits) (t : List ℕ) : Type 0 where
  pub n : ℕ
  pub m : List (List ℕ)
  pub is : matrix_of limits t ≡ Ok (n, m)

pub accepted-is : (limits : Limits) (t : List ℕ) → Reads limits t ↔ Accepted limits t
accepted-is limits t =
    let law = accepted-as (right limits t) in
    (λ h. law.0 ((h.n, h.m), h.is), λ out. let read = law.1 out in record { n = read.0.0; m = read.0.1; is = read.1 })
