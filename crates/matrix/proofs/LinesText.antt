-- Lines that are read are the matrix written, n lines of n numbers within the limit, and the other way round: by recursion over the lines that are due.
use Prim.Native.Nat.{ℕ, zero, suc, ◌+◌, ◌≤◌, ◌<◌}
use mathlib.Core.List.{List, [], ◌∷◌, ◌++◌, append_assoc, append-nil, flatten}
use mathlib.Core.Path.{◌≡◌, refl, ap, ◌∙◌, sym}
use native.Mathlib.Omega.{arith}
use native.Mathlib.Decide.{dec_lt}
use lib.ListN.{length, get_or}
use mathlib.Core.Bool.{Bool}
use lib.Dec.{ltb}
use borrow.Author.Tests.{lt-ltb, le-ltb, ltb-true, ltb-false}
use Rattle.std.specs.List.{position_or_len}
use Rattle.std.proofs.lemmas.List.Quantifiers.{position-Some}
use Rattle.std.proofs.lemmas.List.Sums.{position_or_len_is, fails_before_first}
use Rattle.std.specs.Prelude.{Ok, Err, Option, Some as at_place, None}
use Rattle.ring.specs.Limits.{Limits}
use Rattle.ring.specs.Lists.{Each, none, more, Some, here, there}
use Rattle.text.specs.Number.{limit}
use Rattle.text.specs.Field.{top}
use Rattle.text.specs.WriteLine.{write_line, FitsShape}
use Rattle.text.specs.ReadLine.{Reading, read_line}
use Rattle.text.specs.FirstFault.{FirstFault}
use Rattle.text.specs.Shapes.{numbers, numbers_line}
use Rattle.text.specs.declared.field.Field.TheVariants.{Number}
use Rattle.text.proofs.Apart.{clash}
use Rattle.text.proofs.LineLaws.{line-good, line-bad}
use Rattle.lines.specs.Lines.{lines}
use Rattle.reasons.specs.declared.reason.Refusal.{Refusal}
use Rattle.reasons.specs.declared.reason.Reason.TheVariants.{Misshapen, TooMuch}
use Rattle.lines.proofs.LinesOf.{NoLf, FirstLine, written-first}
use Rattle.matrix.specs.Matrix.{write_matrix, entry_byte}
use Rattle.reasons.specs.AndThen.{and_then}
use Rattle.lines.specs.OnLine.{values_on}
use Rattle.reasons.specs.Refusals.{refuse}
use Rattle.matrix.specs.Read.{SquareRead, Numbers, first_over, unless_over, amounts_in, square_lines}

-- ---- one line

-- each value can be spelled
abbrev pub Spelled : Limits → List ℕ → Type 0
Spelled limits vs = Each (λ v. v < limit limits.digits) vs

pub in-range : (limits : Limits) (vs : List ℕ) → Spelled limits vs → FitsShape limits.digits (numbers (length vs)) vs
unfolding FitsShape top
in-range limits [] none = tt
in-range limits (v ∷ vs) (more h hs) = (h, in-range limits vs hs)

pub in-range-long : (most n : ℕ) (vs : List ℕ) → FitsShape most (numbers n) vs → length vs ≡ n
unfolding FitsShape
in-range-long most zero [] r = refl
in-range-long most zero (v ∷ vs) r = absurd r
in-range-long most (suc n) [] r = absurd r
in-range-long most (suc n) (v ∷ vs) r = ap suc (in-range-long most n vs r.1)

pub spelled-in : (limits : Limits) (n : ℕ) (vs : List ℕ) → FitsShape limits.digits (numbers n) vs → Spelled limits vs
unfolding FitsShape top
spelled-in limits zero [] r = none
spelled-in limits zero (v ∷ vs) r = absurd r
spelled-in limits (suc n) [] r = absurd r
spelled-in limits (suc n) (v ∷ vs) r = more r.0 (spelled-in limits n vs r.1)

pub spelled-line : (limits : Limits) {vs : List ℕ} → limits.amount < limit limits.digits → Each (λ v. v ≤ limits.amount) vs → Spelled limits vs
spelled-line limits small none = none
spelled-line limits small (more {a = a} h hs) = let q : a < limit limits.digits = omega arith in more q (spelled-line limits small hs)

-- what a line is read to
pub data NumbersRead (limits : Limits) (n : ℕ) (l : List ℕ) : Reading → Type 0 where
  are_numbers : {vs : List ℕ} → l ≡ numbers_line vs → length vs ≡ n → Spelled limits vs → NumbersRead limits n l (Ok vs)
  no_numbers : {p : ℕ} → ((vs : List ℕ) → l ≡ numbers_line vs → length vs ≡ n → Spelled limits vs → ⊥) → FirstFault limits.digits (numbers n) l p → NumbersRead limits n l (Err p)

pub numbers-line-read : (limits : Limits) (n : ℕ) (vs : List ℕ) → length vs ≡ n → Spelled limits vs → read_line limits.digits (numbers n) (numbers_line vs) ≡ Ok vs
numbers-line-read limits n vs e h = rw (← e) ((line-good limits.digits limits.countable (numbers (length vs)) (numbers_line vs) vs).1 (refl, in-range limits vs h))

pub numbers-read : (limits : Limits) (n : ℕ) (l : List ℕ) → NumbersRead limits n l (read_line limits.digits (numbers n) l)
numbers-read limits n l = go (read_line limits.digits (numbers n) l) refl
  where
    go : (x : Reading) → read_line limits.digits (numbers n) l ≡ x → NumbersRead limits n l x
    go (Ok vs) e =
        let w = (line-good limits.digits limits.countable (numbers n) l vs).0 e in
        let k : length vs ≡ n = in-range-long limits.digits n vs w.1 in
        are_numbers {vs = vs} (w.0 ∙ ap (λ x. write_line (numbers x) vs) (sym k)) k (spelled-in limits n vs w.1)
    go (Err p) e = no_numbers (λ vs w k h. clash (cc (numbers-line-read limits n vs k h))) ((line-bad limits.digits limits.countable (numbers n) l p).0 e)

-- a line of numbers in front of a text is its first line
no-lf : (n : ℕ) → Each NoLf (numbers n)
no-lf zero = none
no-lf (suc n) = more tt (no-lf n)

pub numbers-first : (limits : Limits) (vs : List ℕ) → 1 ≤ length vs → Spelled limits vs → FirstLine (numbers_line vs)
numbers-first limits [] h s = absurd (omega arith)
numbers-first limits (v ∷ vs) h s = written-first limits.digits limits.countable Number (numbers (length vs)) (v ∷ vs) (no-lf (suc (length vs))) (in-range limits (v ∷ vs) s)

-- ---- amounts

-- the entry behind x others is the first over the limit
pub record FirstOver (limits : Limits) (vs : List ℕ) (x : ℕ) : Type 0 where
  pub some : Some (λ v. limits.amount < v) vs
  pub within : x < length vs
  pub over : limits.amount < get_or vs x 0
  pub first : (y : ℕ) → y < x → get_or vs y 0 ≤ limits.amount

some_at : {P : ℕ → Type 0} (vs : List ℕ) (k : ℕ) → k < length vs → P (get_or vs k 0) → Some P vs
some_at [] k l h = absurd (omega arith)
some_at (v ∷ vs) zero l h = here h
some_at (v ∷ vs) (suc k) l h = there (some_at vs k (omega arith) h)

pub each_by : {A : Type 0} {P : A → Type 0} (d : A) (l : List A) → ((k : ℕ) → k < length l → P (get_or l k d)) → Each P l
each_by d [] h = none
each_by d (x ∷ l) h = more (h 0 (omega arith)) (each_by d l (λ k m. h (suc k) (omega arith)))

pub each_at : {A : Type 0} {P : A → Type 0} {l : List A} → Each P l → (d : A) (k : ℕ) → k < length l → P (get_or l k d)
each_at none d k h = absurd (omega arith)
each_at (more p ps) d zero h = p
each_at (more p ps) d (suc k) h = each_at ps d k (omega arith)

module _ (limits : Limits) (vs : List ℕ) where
  abbrev over : ℕ → Bool
  over v = ltb limits.amount v

  first-over : (k : ℕ) → first_over limits vs ≡ at_place k → FirstOver limits vs k
  first-over k e =
      let p = position-Some over vs k 0 e in
      let l : limits.amount < get_or vs k 0 = ltb-true limits.amount (get_or vs k 0) p.1 in
      record { some = some_at vs k p.0 l; within = p.0; over = l; first = λ y h. ltb-false limits.amount (get_or vs y 0) (p.2 y h) }

  none-over : first_over limits vs ≡ None → Each (λ v. v ≤ limits.amount) vs
  none-over e = each_by 0 vs (λ k l. ltb-false limits.amount (get_or vs k 0) (fails_before_first over vs k 0 (omega (arith, all))))
    where
      all : length vs ≤ position_or_len over vs
      all = elim (dec_lt (position_or_len over vs) (length vs)) [ yes l ↦ clash (cc (rw (lt-ltb _ _ l) at e)) | no l ↦ omega arith ]

  pub fine-amounts : Each (λ v. v ≤ limits.amount) vs → first_over limits vs ≡ None
  fine-amounts each =
      let e = position_or_len_is over vs (length vs) 0 (omega arith) (λ k l. le-ltb limits.amount (get_or vs k 0) (each_at each 0 k l)) (λ l. absurd (omega arith)) in
      rw (e, le-ltb (length vs) (length vs) (omega arith))

-- what a line is read to where n numbers within the limit are due
pub data LineRead (limits : Limits) (n line : ℕ) (l : List ℕ) : Numbers → Type 0 where
  line_is : {vs : List ℕ} → l ≡ numbers_line vs → length vs ≡ n → Spelled limits vs → Each (λ v. v ≤ limits.amount) vs → LineRead limits n line l (Ok vs)
  line_over : {vs : List ℕ} (x : ℕ) → l ≡ numbers_line vs → length vs ≡ n → Spelled limits vs → FirstOver limits vs x → LineRead limits n line l (refuse TooMuch line (entry_byte vs x))
  line_not : {p : ℕ} → ((vs : List ℕ) → l ≡ numbers_line vs → length vs ≡ n → Spelled limits vs → ⊥) → FirstFault limits.digits (numbers n) l p
      → LineRead limits n line l (refuse Misshapen line (p + 1))

pub line-read : (limits : Limits) (n line : ℕ) (l : List ℕ) → LineRead limits n line l (amounts_in limits line (read_line limits.digits (numbers n) l))
unfolding amounts_in values_on unless_over
line-read limits n line l = go (numbers-read limits n l)
  where
    amounts : {vs : List ℕ} (v : Option ℕ) → first_over limits vs ≡ v → l ≡ numbers_line vs → length vs ≡ n → Spelled limits vs → LineRead limits n line l (unless_over v line vs)
    amounts {vs} (at_place k) f e w s = line_over k e w s (first-over limits vs k f)
    amounts {vs} None f e w s = line_is e w s (none-over limits vs f)

    go : {x : Reading} → NumbersRead limits n l x → LineRead limits n line l (amounts_in limits line x)
    go (are_numbers {vs} e k s) = amounts (first_over limits vs) refl e k s
    go (no_numbers out fault) = line_not out fault

-- ---- lines

-- lines of n values, each within the limit
abbrev pub Wide : ℕ → List (List ℕ) → Type 0
Wide n m = Each (λ vs. length vs ≡ n) m

abbrev pub Within : Limits → List (List ℕ) → Type 0
Within limits m = Each (Each (λ v. v ≤ limits.amount)) m

-- the lines ls, of which `left` are due behind the lines m, are read to this
pub data LinesRead (limits : Limits) (n left : ℕ) (m ls : List (List ℕ)) : SquareRead → Type 0 where
  lines_are : {all : List (List ℕ)} (rest : List (List ℕ)) → all ≡ m ++ rest → flatten ls ≡ write_matrix rest → length rest ≡ left
      → Wide n rest → Within limits rest → LinesRead limits n left m ls (Ok (n, all))
  lines_refused : {r : Refusal} → LinesRead limits n left m ls (Err r)

module _ {limits : Limits} {n : ℕ} where
  line-more : {left : ℕ} {m ls : List (List ℕ)} {l vs : List ℕ} {x : SquareRead} → l ≡ numbers_line vs → length vs ≡ n → Each (λ v. v ≤ limits.amount) vs
      → LinesRead limits n left (m ++ vs ∷ []) ls x → LinesRead limits n (suc left) m (l ∷ ls) x
  unfolding write_matrix flatten
  line-more {m = m} {vs = vs} e k a (lines_are rest whole text many wide within) =
      lines_are (vs ∷ rest) (whole ∙ append_assoc m (vs ∷ []) rest) (rw (e, text)) (ap suc many) (more k wide) (more a within)
  line-more e k a lines_refused = lines_refused

  pub lines-read : (ls : List (List ℕ)) (line left : ℕ) (m : List (List ℕ)) → LinesRead limits n left m ls (square_lines limits n line left m ls)
  unfolding square_lines write_matrix flatten
  lines-read [] line zero m = lines_are [] (sym (append-nil m)) refl refl none none
  lines-read (l ∷ ls) line zero m = lines_refused
  lines-read [] line (suc left) m = lines_refused
  lines-read (l ∷ ls) line (suc left) m = go (line-read limits n line l) (λ vs. lines-read ls (line + 1) left (m ++ vs ∷ []))
    where
      next : List ℕ → SquareRead
      next vs = square_lines limits n (line + 1) left (m ++ vs ∷ []) ls

      go : {x : Numbers} → LineRead limits n line l x → ((vs : List ℕ) → LinesRead limits n left (m ++ vs ∷ []) ls (next vs)) → LinesRead limits n (suc left) m (l ∷ ls) (and_then x next)
      go (line_is {vs} e k s a) rest = line-more e k a (rest vs)
      go (line_over x e k s f) rest = lines_refused
      go (line_not out fault) rest = lines_refused

-- and back
pub written-lines-read : (limits : Limits) (n : ℕ) → limits.amount < limit limits.digits → 1 ≤ n → (line : ℕ) (m rest : List (List ℕ)) → Wide n rest → Within limits rest
    → square_lines limits n line (length rest) m (lines (write_matrix rest)) ≡ Ok (n, m ++ rest)
unfolding square_lines values_on amounts_in unless_over write_matrix lines
written-lines-read limits n small some line m [] none none = ap (λ l. Ok (n, l)) (sym (append-nil m))
written-lines-read limits n small some line m (vs ∷ rest) (more k ks) (more a bs) =
    let s : Spelled limits vs = spelled-line limits small a in
    rw (numbers-first limits vs (omega arith) s (write_matrix rest), numbers-line-read limits n vs k s, fine-amounts limits vs a)
    (written-lines-read limits n small some (line + 1) (m ++ vs ∷ []) rest ks bs ∙ ap (λ l. Ok (n, l)) (append_assoc m (vs ∷ []) rest))
