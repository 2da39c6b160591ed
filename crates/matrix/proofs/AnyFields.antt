-- The first faulty byte of a line that may have any number of fields is that of a line of as many as its tabs part: where some line of numbers begins like it, so does one of
-- that many, with the same numbers as far as they agree and zeros behind them; shown number by number, since only tabs part them and nothing stands behind LF.
use Prim.Native.Nat.{ℕ, zero, suc, ◌+◌, ◌-◌, ◌≤◌, ◌<◌}
use mathlib.Core.List.{List, [], ◌∷◌, ◌++◌, append_assoc}
use mathlib.Core.Bool.{false}
use mathlib.Core.Path.{◌≡◌, refl, ap, ◌∙◌, sym, subst}
use native.Mathlib.Omega.{arith}
use native.Mathlib.Decide.{dec_lt, ℕ_discrete}
use lib.ListN.{length, take, replicate, length-append, length-replicate}
use lib.Seq.{take-append-le, take-append-add}
use borrow.Author.Tests.{eq-eqb, ne_eqb}
use Rattle.ring.specs.Lists.{Each, none, more}
use Rattle.ring.specs.Limits.{Limits}
use Rattle.text.specs.Bytes.{tab, lf}
use Rattle.text.specs.Number.{limit, digits}
use Rattle.text.specs.Field.{top, spell}
use Rattle.text.specs.WriteLine.{end_of, write_line, FitsShape}
use Rattle.text.specs.Shapes.{numbers}
use Rattle.text.specs.declared.field.Field.TheVariants.{Number}
use Rattle.text.proofs.LineLaws.{fewer}
use Rattle.text.specs.FirstFault.{Agrees, FirstFault}
use Rattle.text.proofs.Apart.{clash}
use Rattle.text.proofs.Digits.{tens}
use Rattle.lines.specs.Lines.{with_byte, lines, LineIs, at_first, behind}
use Rattle.matrix.specs.Read.{fields_in}
use Rattle.matrix.specs.Says.{NumbersFault}
use Rattle.matrix.proofs.MatrixText.{fields-behind, fields-line}

-- ---- nothing stands behind the LF of a line

abbrev pub Ended : List ℕ → Type 0
Ended l = (a b : List ℕ) → l ≡ a ++ lf ∷ b → b ≡ []

none-ended : Ended []
none-ended a b e = absurd (omega (arith, ap length e, length-append a (lf ∷ b)))

lf-ended : Ended (lf ∷ [])
lf-ended [] b e = cc
lf-ended (x ∷ a) b e = absurd (omega (arith, ap length e, length-append a (lf ∷ b)))

byte-ended : (c : ℕ) (l : List ℕ) → (c ≡ lf → ⊥) → Ended l → Ended (c ∷ l)
byte-ended c l h f [] b e = absurd (h (cc))
byte-ended c l h f (x ∷ a) b e = f a b (cc)

front-ended : (c : ℕ) → (c ≡ lf → ⊥) → (ls : List (List ℕ)) → Each Ended ls → Each Ended (with_byte false c ls)
unfolding with_byte
front-ended c h [] none = more (byte-ended c [] h none-ended) none
front-ended c h (l ∷ ls) (more f fs) = more (byte-ended c l h f) fs

pub lines-ended : (t : List ℕ) → Each Ended (lines t)
unfolding lines with_byte
lines-ended [] = none
lines-ended (c ∷ t) =
    elim (ℕ_discrete c lf) [
      | yes e ↦ rw (eq-eqb c lf e, e) (more lf-ended (lines-ended t))
      | no h ↦ rw (ne_eqb c lf h) (front-ended c h (lines t) (lines-ended t))
    ]

pub line-ended : {ls : List (List ℕ)} {line : ℕ} {l : List ℕ} → Each Ended ls → LineIs ls line l → Ended l
line-ended none is = elim is [ ]
line-ended (more f fs) at_first = f
line-ended (more f fs) (behind p) = line-ended fs p

-- ---- two texts that begin alike

-- behind a and x, which both have
record Behind (a : List ℕ) (x : ℕ) (w l : List ℕ) (k : ℕ) : Type 0 where
  pub rest : List ℕ
  pub is : l ≡ a ++ x ∷ rest
  pub same : (j : ℕ) → k ≡ length a + suc j → take j w ≡ take j rest

go-behind : (a : List ℕ) (x : ℕ) (w l : List ℕ) (k : ℕ) → length a < k → take k (a ++ x ∷ w) ≡ take k l → Behind a x w l k
go-behind a x w l zero h e = absurd (omega arith)
go-behind [] x w [] (suc k) h e = clash (cc)
go-behind [] x w (y ∷ l) (suc k) h e =
    let q : y ≡ x = cc in
    let s : take k w ≡ take k l = cc in
    record { rest = l; is = ap (λ b. b ∷ l) q; same = λ j i. let g : k ≡ j = omega arith in rw g at s }
go-behind (b ∷ a) x w [] (suc k) h e = clash (cc)
go-behind (b ∷ a) x w (y ∷ l) (suc k) h e =
    let q : y ≡ b = cc in
    let s : take k (a ++ x ∷ w) ≡ take k l = cc in
    let r = go-behind a x w l k (omega arith) s in
    record { rest = r.rest; is = ap (λ c. c ∷ l) q ∙ ap (λ (m : List ℕ). b ∷ m) r.is; same = λ j i. r.same j (omega arith) }

begin-alike : (a w u : List ℕ) (x j k : ℕ) → k ≡ length a + suc j → take j w ≡ take j u → take k (a ++ x ∷ w) ≡ take k (a ++ x ∷ u)
begin-alike a w u x j k i e =
    rw i (take-append-add a (x ∷ w) (suc j) ∙ ap (λ (m : List ℕ). a ++ x ∷ m) e ∙ sym (take-append-add a (x ∷ u) (suc j)))

-- ---- a line of numbers that begins like l

pub fields-some : (l : List ℕ) → 1 ≤ fields_in l
unfolding fields_in
fields-some [] = omega arith
fields-some (b ∷ l) = omega (arith, fields-some l)

zeros-fit : (limits : Limits) (n : ℕ) → FitsShape limits.digits (numbers n) (replicate {A = ℕ} n 0)
unfolding FitsShape top
zeros-fit limits zero = tt
zeros-fit limits (suc n) = (omega (arith, tens limits.digits limits.countable), zeros-fit limits n)

tab-behind : (n : ℕ) → 1 ≤ n → end_of (length (numbers n)) ≡ tab
unfolding end_of
tab-behind n h = rw (ne_eqb (length (numbers n)) 0 (λ e. omega (arith, length-replicate n Number)))

lf-behind : end_of (length (numbers 0)) ≡ lf
unfolding end_of
lf-behind = refl

-- no more than the digits of the first number
within_first : (limits : Limits) (v : ℕ) (w l : List ℕ) (k : ℕ) → v < limit limits.digits → k ≤ length (digits v) → take k (digits v ++ w) ≡ take k l → Agrees limits.digits (numbers (fields_in l)) l k
unfolding write_line FitsShape spell top
within_first limits v w l k small h e =
    let d : suc (fields_in l - 1) ≡ fields_in l = omega (arith, fields-some l) in
    let zs : List ℕ = replicate {A = ℕ} (fields_in l - 1) 0 in
    subst (λ n. Agrees limits.digits (numbers n) l k) d
    (record {
      vs = v ∷ zs;
      range = (small, zeros-fit limits (fields_in l - 1));
      text = take-append-le k (digits v) (end_of (length (numbers (fields_in l - 1))) ∷ write_line (numbers (fields_in l - 1)) zs) h ∙ sym (take-append-le k (digits v) w h) ∙ e;
    })

-- one number and LF
only-first : (limits : Limits) (v : ℕ) (l : List ℕ) (k : ℕ) → v < limit limits.digits → l ≡ digits v ++ lf ∷ [] → Agrees limits.digits (numbers (fields_in l)) l k
unfolding write_line FitsShape spell top end_of
only-first limits v l k small is =
    let d : fields_in l ≡ 1 = ap fields_in is ∙ fields-line limits v [] (more small none) in
    subst (λ n. Agrees limits.digits (numbers n) l k) (sym d) (record { vs = v ∷ []; range = (small, tt); text = ap (take k) (sym is) })

-- a number and a tab, and what is behind them
first-and : (limits : Limits) (v : ℕ) (l rest : List ℕ) (j k : ℕ) → v < limit limits.digits → l ≡ digits v ++ tab ∷ rest → k ≡ length (digits v) + suc j → Agrees limits.digits (numbers (fields_in rest)) rest j → Agrees limits.digits (numbers (fields_in l)) l k
unfolding write_line FitsShape spell top fields_in
first-and limits v l rest j k small is i a =
    let d : fields_in l ≡ suc (fields_in rest) = ap fields_in is ∙ fields-behind limits v small (tab ∷ rest) ∙ omega arith in
    subst (λ n. Agrees limits.digits (numbers n) l k) (sym d)
    (record {
      vs = v ∷ a.vs;
      range = (small, a.range);
      text =
          rw (tab-behind (fields_in rest) (fields-some rest), is)
          (begin-alike (digits v) (write_line (numbers (fields_in rest)) a.vs) rest tab j k i a.text);
    })

tail-ended : (a : List ℕ) (x : ℕ) (l rest : List ℕ) → l ≡ a ++ x ∷ rest → Ended l → Ended rest
tail-ended a x l rest is f p b e = f (a ++ x ∷ p) b (is ∙ rw e (sym (append_assoc a (x ∷ p) (lf ∷ b))))

agree : (limits : Limits) (m : ℕ) (vs l : List ℕ) (k : ℕ) → FitsShape limits.digits (numbers (suc m)) vs → Ended l → take k (write_line (numbers (suc m)) vs) ≡ take k l → Agrees limits.digits (numbers (fields_in l)) l k
unfolding write_line FitsShape spell top
agree limits m [] l k r f e = absurd r
agree limits zero (v ∷ vs) l k r f e =
    elim (dec_lt (length (digits v)) k) [
      | no h ↦ within_first limits v _ l k r.0 (omega arith) e
      | yes h ↦
          let s = go-behind (digits v) lf (write_line (numbers zero) vs) l k h (rw lf-behind at e) in
          only-first limits v l k r.0 (s.is ∙ ap (λ (b : List ℕ). digits v ++ lf ∷ b) (f (digits v) s.rest s.is))
    ]
agree limits (suc m) (v ∷ vs) l k r f e =
    elim (dec_lt (length (digits v)) k) [
      | no h ↦ within_first limits v _ l k r.0 (omega arith) e
      | yes h ↦
          let s = go-behind (digits v) tab (write_line (numbers (suc m)) vs) l k h (rw (tab-behind (suc m) (omega arith)) at e) in
          let j : ℕ = k - length (digits v) - 1 in
          let i : k ≡ length (digits v) + suc j = omega arith in
          first-and limits v l s.rest j k r.0 s.is i (agree limits m vs s.rest j r.1 (tail-ended (digits v) tab l s.rest s.is f) (s.same j i))
    ]

pub agree-any : (limits : Limits) (m : ℕ) (l : List ℕ) (k : ℕ) → 1 ≤ m → Ended l → Agrees limits.digits (numbers m) l k → Agrees limits.digits (numbers (fields_in l)) l k
agree-any limits zero l k h f a = absurd (omega arith)
agree-any limits (suc m) l k h f a = agree limits m a.vs l k a.range f a.text

-- ---- the law

pub any-fault : (limits : Limits) (l : List ℕ) (p : ℕ) → Ended l → FirstFault limits.digits (numbers (fields_in l)) l p → NumbersFault limits l p
any-fault limits l p f x = record { m = fields_in l; some = fields-some l; before = x.before; here = λ m h a. x.here (agree-any limits m l (p + 1) h f a) }

-- there is one such place
not-before : (limits : Limits) (l : List ℕ) (p q : ℕ) → NumbersFault limits l p → NumbersFault limits l q → p < q → ⊥
not-before limits l p q x y h = x.here y.m y.some (fewer limits.digits limits.countable (numbers y.m) l (p + 1) q (omega arith) y.before)

pub one-any-fault : (limits : Limits) (l : List ℕ) (p q : ℕ) → NumbersFault limits l p → NumbersFault limits l q → p ≡ q
one-any-fault limits l p q x y =
    let a : p < q → ⊥ = not-before limits l p q x y in
    let b : q < p → ⊥ = not-before limits l q p y x in
    omega arith
