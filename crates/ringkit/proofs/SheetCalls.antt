-- The calls that read a sheet keep their promise (`Calls`), by the laws of checking a sheet.
use Prim.Native.Nat.{ℕ}
use mathlib.Core.List.{List}
use mathlib.Core.Logic.{◌↔◌}
use mathlib.Core.Path.{◌≡◌, refl, ap, ◌∙◌, sym, subst}
use Rattle.std.specs.Prelude.{Result, Ok, Err}
use Rattle.ring.specs.Limits.{desk}
use Rattle.ring.specs.Sheet.{Sheet, sents}
use Rattle.ring.proofs.Papers.{paper-figures}
use Rattle.ring.proofs.NoLower.{no_lower}
use Rattle.reasons.specs.Reasons.{number_of}
use Rattle.reasons.specs.declared.reason.Reason.{Reason}
use Rattle.reasons.specs.declared.reason.Refusal.{Refusal}
use Rattle.reasons.specs.Refusals.{refusal, refuse}
use Rattle.reasons.specs.AndThen.{and_then}
use Rattle.sheet.specs.Read.{read_sheet}
use Rattle.sheet.specs.Says.{WellFormed}
use Rattle.sheet.proofs.SheetReasons.{well-formed-is}
use Rattle.checker.specs.Check.{check}
use Rattle.checker.specs.Says.{ReadTo, Given, Accepted}
use Rattle.checker.proofs.Reasons.{read-as, given, accepted-is, check-text, accepted-if-true, one-given, not-both, not-15}
use Rattle.sheet.specs.WriteSheet.{write_sheet}
use Rattle.crossing.specs.FindPair.{first_pair}
use Rattle.crossing.specs.declared.pair.Pair.{Pair}
use Rattle.crossing.specs.declared.pair.Pair.TheVariants.{Are, None}
use Rattle.crossing.proofs.FirstPairs.{low}
use Rattle.crossing.proofs.PairLaws.{first-pair-is, no-pair-is}
use Rattle.ringkit.specs.Outcome.{Fills}
use Rattle.ringkit.specs.SheetCalls.{sheet_checked, sheet_parallel, sheet_afresh}
use Rattle.ringkit.specs.Says.{Answer, CallPromise, Only}
use Rattle.ringkit.specs.Texts.{SheetOf, SomeSheet, SomeForm, Itself}
use Rattle.ringkit.specs.Answers.{Checked, Asked, yes, CheckSays, says_yes, says_no, CheckPromise, paired, unpaired, PairOf, NoPairOf, PairSays, a_pair, no_pair, refused as pair-refused, PairPromise}
use Rattle.ringkit.specs.Promises.{RewriteSheetPromise}
use Rattle.ringkit.specs.Sheets.{FormedSheet, BestSheet}
use Rattle.ringkit.proofs.Calls.{Decided, is_due, is_given, One, call-promise, call-only, same-err}

-- ---- what a sheet is read to

module _ (t : List ℕ) where
  -- a sheet is accepted as the values that it is the sheet of
  checked-is : (x : Sheet) → (check desk t ≡ Ok x) ↔ SheetOf t x
  checked-is x = (
    λ e. let w = (check-text t x).0 e in record { text = w.0; range = w.1.0; true_sheet = w.1.1 },
    λ h. (check-text t x).1 (h.text, (h.range, h.true_sheet)),
  )

  accepted-as : (x : Sheet) → check desk t ≡ Ok x → Accepted desk t
  accepted-as x e = (accepted-is t).0 (record { x = x; is = e })

  pub sheet-accepted : (x : Sheet) → SheetOf t x → Accepted desk t
  sheet-accepted x of = accepted-as x ((checked-is x).1 of)

-- ---- rewriting

afresh : (t : List ℕ) (x : Result Sheet Refusal) → check desk t ≡ x → Decided (Itself (Accepted desk t) t) (Given desk t) (and_then x λ y. Ok (write_sheet y))
afresh t (Ok x) e = is_due (record { accepted = accepted-as t x e; same = sym ((checked-is t x).0 e).text })
afresh t (Err r) e = is_given ((given t r).0 e)

one-itself : (t : List ℕ) → One (Itself (Accepted desk t) t) (Given desk t)
one-itself t =
    record {
      text = λ a b. a.same ∙ sym b.same;
      refusal = λ f g. one-given t f g;
      apart = λ d g. not-both t d.accepted g;
      other = λ {r} g e. not-15 t r g (ap number_of e);
    }

-- an accepted sheet is written as the same bytes, with room for them; else 15 or the sheet's first reason
pub rewrite-sheet-promise : (t old new : List ℕ) (r : Answer) → Fills (sheet_afresh t) old new r → CallPromise (Itself (Accepted desk t) t) (Given desk t) old new r
rewrite-sheet-promise t old new r f = call-promise (one-itself t) (afresh t (check desk t) refl) f

pub rewrite-sheet-only : (t old new : List ℕ) (r : Answer) → Fills (sheet_afresh t) old new r → Only (RewriteSheetPromise t old) new r
rewrite-sheet-only t old new r f = call-only (rewrite-sheet-promise t old new r f) (one-itself t)

-- ---- checking

checked : (t : List ℕ) → CheckSays t (sheet_checked t)
checked t = go (check desk t) refl
  where
    go : (x : Result Sheet Refusal) → check desk t ≡ x → CheckSays t (and_then x λ y. Ok tt)
    go (Ok x) e = says_yes (accepted-as t x e)
    go (Err r) e = says_no ((given t r).0 e)

-- yes is no refusal, and two refusals that are one answer name the same
yes-not-no : {x : Refusal} → yes ≡ Err x → ⊥
yes-not-no e = absurd (cc)

module _ {t : List ℕ} where
  same-no : {A : Type 0} {x y : Refusal} → ◌≡◌ {A = Result A Refusal} (Err x) (Err y) → Given desk t x.reason x.line x.byte → Given desk t y.reason y.line y.byte
  same-no e g = let f = same-err e in rw f at g

  some-sheet : Accepted desk t ↔ SomeSheet t
  some-sheet = (λ a. let r = (accepted-is t).1 a in record { x = r.x; of = (checked-is t r.x).0 r.is }, λ h. accepted-as t h.x ((checked-is t h.x).1 h.of))

  check-laws : {r : Checked} → CheckSays t r → CheckPromise t r
  check-laws (says_yes a) =
      record {
        cases = says_yes a;
        accepts = (λ e. a, λ b. refl);
        sheet = (λ e. some-sheet.0 a, λ h. refl);
        refuses = λ reason line byte. (λ e. absurd (yes-not-no e), λ g. absurd (not-both t a g));
      }
  check-laws (says_no {reason = why} {line = at} {byte = on} g) =
      record {
        cases = says_no g;
        accepts = (λ e. absurd (yes-not-no (sym e)), λ a. absurd (not-both t a g));
        sheet = (λ e. absurd (yes-not-no (sym e)), λ h. absurd (not-both t (some-sheet.1 h) g));
        refuses = λ reason line byte. (λ e. same-no e g, λ h. let o = one-given t g h in rw (o.0, o.1, o.2));
      }

-- yes exactly where no reason holds of the sheet, and a refusal exactly where it is the first that holds
pub check-promise : (t : List ℕ) (r : Checked) → r ≡ sheet_checked t → CheckPromise t r
check-promise t r e = subst (CheckPromise t) (sym e) (check-laws (checked t))

-- and no other answer keeps the promise
pub check-only : (t : List ℕ) (r : Checked) → r ≡ sheet_checked t → (other : Checked) → CheckPromise t other → other ≡ r
check-only t r e other p = go (check-promise t r e).cases p
  where
    go : {r : Checked} → CheckSays t r → CheckPromise t other → other ≡ r
    go (says_yes a) p = p.accepts.1 a
    go (says_no {reason} {line} {byte} g) p = (p.refuses reason line byte).1 g

-- ---- a well-formed sheet is accepted exactly when it is true, and an accepted one is the best

-- a text is well-formed exactly when it is a sheet of some values in range, written
pub well-formed-sheet : (t : List ℕ) → WellFormed desk t ↔ SomeForm t
well-formed-sheet t = (
  λ w. let f = (well-formed-is desk t).1 w in let s = (read-as t f.x).0 f.is in record { x = f.x; text = s.text; range = s.range },
  λ h. (well-formed-is desk t).0 (record { x = h.x; is = (read-as t h.x).1 (record { text = h.text; range = h.range }) }),
)

pub formed-checked : (t : List ℕ) (r : Checked) → r ≡ sheet_checked t → WellFormed desk t → FormedSheet t r
formed-checked t r e w =
    let f = (well-formed-is desk t).1 w in
    let s = (read-as t f.x).0 f.is in
    let law = accepted-if-true t f.x s in
    record { x = f.x; text = s.text; range = s.range; says_yes = (λ y. law.0 (same-x f.x s y), λ true_sheet. let a = law.1 true_sheet in e ∙ rw a) }
  where
    same-x : (x : Sheet) → ReadTo desk t x → r ≡ yes → check desk t ≡ Ok x
    same-x x s y =
        let a = (accepted-is t).1 ((check-promise t r e).accepts.0 y) in
        let w = (check-text t a.x).0 a.is in
        let g : read_sheet desk t ≡ Ok a.x = (read-as t a.x).1 (record { text = w.0; range = w.1.0 }) in
        a.is ∙ sym g ∙ (read-as t x).1 s

-- the sheet of some values is the best there is
unfoldable pub best_of : (t : List ℕ) (x : Sheet) → SheetOf t x → BestSheet t
best_of t x of = record { x = x; of = of; figures = paper-figures x of.true_sheet; no_lower = no_lower x of.true_sheet }

pub yes-best : (t : List ℕ) (r : Checked) → r ≡ sheet_checked t → r ≡ yes → BestSheet t
yes-best t r e y = let a = (accepted-is t).1 ((check-promise t r e).accepts.0 y) in best_of t a.x ((checked-is t a.x).0 a.is)

-- ---- the question

asked : (t : List ℕ) → PairSays t (sheet_parallel t)
asked t = go (check desk t) refl
  where
    pair_of : (x : Sheet) → SheetOf t x → (f : Pair) → first_pair (sents x.rows) ≡ f → PairSays t (Ok f)
    pair_of x of (Are p r) e = let are = (first-pair-is (sents x.rows) p r).0 e in a_pair (record { x = x; of = of; pair = are }) (low are.are.first)
    pair_of x of None e = no_pair (record { x = x; of = of; none = (no-pair-is (sents x.rows)).0 e })

    go : (y : Result Sheet Refusal) → check desk t ≡ y → PairSays t (and_then y λ x. Ok (first_pair (sents x.rows)))
    go (Ok x) q = pair_of x ((checked-is t x).0 q) (first_pair (sents x.rows)) refl
    go (Err r) q = pair-refused ((given t r).0 q)

module _ (t : List ℕ) where
  said : (x : Sheet) → SheetOf t x → (f : Pair) → first_pair (sents x.rows) ≡ f → sheet_parallel t ≡ Ok f
  said x of f e = let q = (checked-is t x).1 of in rw (q, e)

  said-refusal : (reason : Reason) (line byte : ℕ) → Given desk t reason line byte → sheet_parallel t ≡ refuse reason line byte
  said-refusal reason line byte g = let q = (given t (refusal reason line byte)).1 g in rw q

  is-pair : (p q : ℕ) {r : Asked} → PairSays t r → r ≡ paired p q → PairOf t p q
  is-pair p q (a_pair {p = a} {q = b} x l) e = let ea : a ≡ p = cc in let eb : b ≡ q = cc in rw (← ea, ← eb) x
  is-pair p q (no_pair x) e = absurd (cc)
  is-pair p q (pair-refused g) e = absurd (cc)

  is_none : {r : Asked} → PairSays t r → r ≡ unpaired → NoPairOf t
  is_none (a_pair x l) e = absurd (cc)
  is_none (no_pair x) e = x
  is_none (pair-refused g) e = absurd (cc)

  is-refusal : (reason : Reason) (line byte : ℕ) {r : Asked} → PairSays t r → r ≡ refuse reason line byte → Given desk t reason line byte
  is-refusal reason line byte (a_pair x l) e = absurd (cc)
  is-refusal reason line byte (no_pair x) e = absurd (cc)
  is-refusal reason line byte (pair-refused g) e = same-no e g

-- two places exactly where they are the first pair of an accepted sheet, none exactly where it has none, and any other text gets the checker's refusal
pub parallel-promise : (t : List ℕ) (r : Asked) → r ≡ sheet_parallel t → PairPromise t r
parallel-promise t r e =
    let says = subst (PairSays t) (sym e) (asked t) in
    record {
      cases = says;
      pair = λ p q. (is-pair t p q says, λ h. e ∙ said t h.x h.of (Are p q) ((first-pair-is (sents h.x.rows) p q).1 h.pair));
      none = (is_none t says, λ h. e ∙ said t h.x h.of None ((no-pair-is (sents h.x.rows)).1 h.none));
      refuses = λ reason line byte. (is-refusal t reason line byte says, λ g. e ∙ said-refusal t reason line byte g);
    }

-- and no other answer keeps the promise
pub parallel-only : (t : List ℕ) (r : Asked) → r ≡ sheet_parallel t → (other : Asked) → PairPromise t other → other ≡ r
parallel-only t r e other p = go (parallel-promise t r e).cases p
  where
    go : {r : Asked} → PairSays t r → PairPromise t other → other ≡ r
    go (a_pair {p = a} {q = b} x l) p = (p.pair a b).1 x
    go (no_pair x) p = p.none.1 x
    go (pair-refused {reason} {line} {byte} g) p = (p.refuses reason line byte).1 g
