-- A line of numbers under its loops: tabs are counted from the end, and values are read one by one; and what is made of the line that was read.
use Prim.Native.Nat.{ℕ, zero, suc, ◌+◌, ◌-◌, ◌≤◌, ◌<◌}
use mathlib.Core.Bool.{Bool, true, false, cond}
use mathlib.Core.List.{List, [], ◌∷◌, ◌++◌}
use mathlib.Core.Path.{◌≡◌, refl, ap, ◌∙◌, sym}
use native.Mathlib.Omega.{arith}
use lib.ListN.{length, take, length-append, length-replicate}
use lib.Seq.{take_all, take-append-le}
use borrow.Author.Tests.{eq-eqb, ne_eqb}
use Rattle.std.specs.Prelude.{Result, Ok, Err, Option, Some, None, IsOk, OnOk, OnErr}
use Rattle.arrayvec.specs.ArrayVec.{ArrayVec}
use Rattle.ring.specs.Limits.{desk}
use Rattle.text.specs.ReadLine.{Reading, field_at, field_then, fields_from, read_line}
use Rattle.text.specs.WriteLine.{end_of}
use Rattle.text.specs.Shapes.{numbers}
use Rattle.text.specs.declared.field.Field.TheVariants.{Number}
use Rattle.text.proofs.Apart.{clash}
use Rattle.text.proofs.LineLaws.{bad-within}
use Rattle.reasons.specs.declared.reason.Refusal.{Refusal}
use Rattle.reasons.specs.declared.reason.Reason.TheVariants.{TooMuch}
use Rattle.matrix.specs.Matrix.{entry_byte}
use Rattle.std.specs.List.{count_by}
use Rattle.std.proofs.lemmas.List.Recursion.{is_count_by}
use Rattle.matrix.proofs.AnyFields.{fields-some}
use Rattle.lines.specs.OnLine.{values_on}
use Rattle.reasons.specs.Refusals.{refuse}
use Rattle.matrix.specs.ReadInto.{read_as}
use Rattle.matrix.specs.Read.{Numbers, is_tab, fields_in, first_numbers, first_over, unless_over, amounts_in}
use Rattle.matrix.proofs.LinesText.{NumbersRead, are_numbers, numbers-read}

-- ---- fields are what tabs part

pub fields-tabs : (l : List ℕ) → count_by is_tab l + 1 ≡ fields_in l
unfolding fields_in
fields-tabs l = omega (arith, is_count_by (λ t. fields_in t - 1) is_tab refl (λ b t. more-tabs (is_tab b) (fields_in t) (fields-some t)) l, fields-some l)
  where
    more-tabs : (z : Bool) (n : ℕ) → 1 ≤ n → cond z 1 0 + n - 1 ≡ cond z (1 + (n - 1)) (n - 1)
    more-tabs true n h = omega arith
    more-tabs false n h = omega arith

-- ---- values: so many fields are left, and the next begins at p

-- one number more, where there is room for it
pub kept : {E : Type 0} (x : Result Unit E) (old new : ArrayVec ℕ) (v : ℕ) → (IsOk x → length old.items < desk.nodes) → OnOk x (new.items ≡ old.items ++ v ∷ []) → OnErr x (new ≡ old)
    → OnErr x (length old.items ≡ desk.nodes) → new.items ≡ take desk.nodes (old.items ++ v ∷ [])
kept (Ok tt) old new v room more same full =
    let l = room refl in
    more ∙ sym (take_all desk.nodes (old.items ++ v ∷ []) (omega (arith, l, length-append old.items (v ∷ []))))
kept (Err e) old new v room more same full =
    ap (λ (w : ArrayVec ℕ). w.items) same ∙ sym (take-append-le desk.nodes old.items (v ∷ []) (omega (arith, full)) ∙ take_all desk.nodes old.items (omega (arith, full)))

take-push : (m : ℕ) (vs ws : List ℕ) → take m (take m vs ++ ws) ≡ take m (vs ++ ws)
take-push zero vs ws = refl
take-push (suc m) [] ws = refl
take-push (suc m) (v ∷ vs) ws = ap (λ (l : List ℕ). v ∷ l) (take-push m vs ws)

pub record ReadingOn (s : List ℕ) (n : ℕ) (read : List ℕ) (p left : ℕ) : Type 0 where
  pub vs : List ℕ
  pub rest : read_line desk.digits (numbers n) s ≡ fields_from desk.digits (numbers left) s p vs
  pub held : read ≡ take desk.nodes vs

pub reading-starts : (s : List ℕ) (n : ℕ) (read : List ℕ) → read ≡ [] → ReadingOn s n read 0 n
unfolding read_line
reading-starts s n read none = record { vs = []; rest = refl; held = none }

module _ (s : List ℕ) (n : ℕ) (read : List ℕ) (p left : ℕ) (on : ReadingOn s n read p left) where
  module _ (l : 0 < left) (end : ℕ) (behind_it : end ≡ end_of (left - 1)) (x : Result (ℕ × ℕ) ℕ) (ex : x ≡ field_at desk.digits Number s p end) where
    next-is : read_line desk.digits (numbers n) s ≡ field_then x (λ v q. fields_from desk.digits (numbers (left - 1)) s q (on.vs ++ v ∷ []))
    unfolding fields_from
    next-is =
        let e : left ≡ suc (left - 1) = omega arith in
        on.rest ∙ ap (λ k. fields_from desk.digits (numbers k) s p on.vs) e ∙ rw (length-replicate (left - 1) Number, ← behind_it, ← ex)

    pub reading-stops : (q : ℕ) → x ≡ Err q → read_as (Err q) read ≡ first_numbers (read_line desk.digits (numbers n) s)
    unfolding field_then first_numbers
    reading-stops q f = let h : read_line desk.digits (numbers n) s ≡ Err q = next-is ∙ rw f in rw h

    pub reads-number : (v q : ℕ) (new : List ℕ) → x ≡ Ok (v, q) → new ≡ take desk.nodes (read ++ v ∷ []) → ReadingOn s n new q (left - 1)
    unfolding field_then
    reads-number v q new f e =
        record { vs = on.vs ++ v ∷ []; rest = next-is ∙ rw f; held = e ∙ rw on.held (take-push desk.nodes on.vs (v ∷ [])) }

  module _ (l : left ≤ 0) where
    all_read : read_line desk.digits (numbers n) s ≡ fields_from desk.digits [] s p on.vs
    all_read = let e : left ≡ 0 = omega arith in rw e at on.rest

    pub reading-done : p ≡ length s → read_as (Ok tt) read ≡ first_numbers (read_line desk.digits (numbers n) s)
    unfolding fields_from first_numbers
    reading-done e = rw (all_read, eq-eqb _ _ e, on.held)

    pub reading-over : (p ≡ length s → ⊥) → read_as (Err p) read ≡ first_numbers (read_line desk.digits (numbers n) s)
    unfolding fields_from first_numbers
    reading-over e = rw (all_read, ne_eqb _ _ e)

-- ---- what the caller learns

module _ {E : Type 0} (x : Result Unit E) (read : List ℕ) where
  pub read-not : (e : E) → x ≡ Err e → read_as x read ≡ Err e
  read-not e is = rw is

  pub read-all : x ≡ Ok tt → read_as x read ≡ Ok read
  read-all is = rw is

bad-kept : (line : ℕ) (y : Reading) (r : Refusal) → values_on line (first_numbers y) ≡ Err r → values_on line y ≡ Err r
unfolding first_numbers values_on
bad-kept line (Ok vs) r e = clash (cc)
bad-kept line (Err p) r e = e

-- numbers of which some were kept
pub record Good (y : Reading) (read : List ℕ) : Type 0 where
  pub vs : List ℕ
  pub is : y ≡ Ok vs
  pub held : read ≡ take desk.nodes vs

good-kept : (line : ℕ) (y : Reading) (read : List ℕ) → values_on line (first_numbers y) ≡ Ok read → Good y read
unfolding first_numbers values_on
good-kept line (Ok vs) read e = record { vs = vs; is = refl; held = cc }
good-kept line (Err p) read e = clash (cc)

-- the faulty byte of a line is within the text
pub line_place : (n : ℕ) (l : List ℕ) (x : Result Unit ℕ) (read : List ℕ) → read_as x read ≡ first_numbers (read_line desk.digits (numbers n) l) → (p : ℕ) → x ≡ Err p → length l ≤ desk.bytes → p ≤ desk.bytes
unfolding first_numbers
line_place n l x read ex p e short = go (read_line desk.digits (numbers n) l) refl (sym ex ∙ read-not x read p e)
  where
    go : (y : Reading) → read_line desk.digits (numbers n) l ≡ y → first_numbers y ≡ Err p → p ≤ desk.bytes
    go (Ok vs) f g = clash (cc)
    go (Err q) f g = let k : q ≡ p = cc in omega (arith, bad-within desk.digits desk.countable (numbers n) l q f)

module _ (n line : ℕ) (l : List ℕ) (x : Numbers) (ex : x ≡ values_on line (first_numbers (read_line desk.digits (numbers n) l))) where
  pub told-bad : (r : Refusal) → x ≡ Err r → values_on line (read_line desk.digits (numbers n) l) ≡ Err r
  told-bad r e = bad-kept line (read_line desk.digits (numbers n) l) r (sym ex ∙ e)

  pub told-good : (read : List ℕ) → x ≡ Ok read → Good (read_line desk.digits (numbers n) l) read
  told-good read e = good-kept line (read_line desk.digits (numbers n) l) read (sym ex ∙ e)

  pub not-numbers : (r : Refusal) → x ≡ Err r → Err r ≡ amounts_in desk line (read_line desk.digits (numbers n) l)
  unfolding amounts_in
  not-numbers r e = rw (told-bad r e)

  module _ (few : n ≤ desk.nodes) (read : List ℕ) (e : x ≡ Ok read) where
    -- all of so few numbers are kept
    all-kept : read_line desk.digits (numbers n) l ≡ Ok read
    all-kept = let g = told-good read e in g.is ∙ ap Ok (go g.vs (sym g.held) (rw g.is at (numbers-read desk n l)))
      where
        go : (vs : List ℕ) → take desk.nodes vs ≡ read → NumbersRead desk n l (Ok vs) → vs ≡ read
        go vs h (are_numbers t k s) = sym (take_all desk.nodes vs (omega arith)) ∙ h

    module _ (v : Option ℕ) (ev : v ≡ first_over desk read) where
      pub numbers-over : (k byte : ℕ) → v ≡ Some k → byte ≡ entry_byte read k → read_as (refuse TooMuch line byte) read ≡ amounts_in desk line (read_line desk.digits (numbers n) l)
      unfolding amounts_in values_on unless_over
      numbers-over k byte f b = rw (all-kept, ← ev, f, b)

      pub numbers-fine : v ≡ None → read_as (Ok tt) read ≡ amounts_in desk line (read_line desk.digits (numbers n) l)
      unfolding amounts_in values_on unless_over
      numbers-fine f = rw (all-kept, ← ev, f)
