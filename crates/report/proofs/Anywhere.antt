-- Damage at any place that makes no line that starts with R and breaks none stays inside one piece.
use Prim.Native.Nat.{ℕ}
use mathlib.Core.Bool.{Bool, true, false, cond, ◌&&◌, ◌||◌}
use mathlib.Core.List.{List, [], ◌∷◌, ◌++◌, append_assoc}
use mathlib.Core.Logic.{◌⊎◌, inl, inr}
use mathlib.Core.Path.{◌≡◌, refl, ap, sym, ◌∙◌}
use lib.Dec.{eqb}
use borrow.Author.Tests.{eqb-true}
use Rattle.text.specs.Bytes.{lf, letter_r}
use Rattle.report.specs.Pieces.{starts_r, ends_piece, pieces}
use Rattle.report.specs.Damage.{alone}
use Rattle.report.specs.PiecesAre.{EndsLine, NoneBehind, IsEmpty}
use Rattle.report.specs.Anywhere.{line_behind, begins_r, line_at, Harmless, Inside}
use Rattle.report.proofs.PieceLaws.{one-piece, Meet, nothing-before, nothing-behind, line-between, pieces-append, ends-append, cut-means, starts-cut}

or-false : (c d : Bool) → c ≡ false → d ≡ false → (c || d) ≡ false
or-false c d e f = rw (e, f) refl

-- ---- where lines begin in two texts

line-append : (s : Bool) (u v : List ℕ) → line_behind s (u ++ v) ≡ line_behind (line_behind s u) v
unfolding line_behind
line-append s [] v = refl
line-append s (b ∷ u) v = line-append (eqb b lf) u v

or-parts : (c d : Bool) → (c || d) ≡ false → (c ≡ false) × (d ≡ false)
or-parts true d h = absurd (cc)
or-parts false d h = (refl, h)

begins-append : (s : Bool) (u v : List ℕ) → begins_r s u ≡ false → begins_r (line_behind s u) v ≡ false → begins_r s (u ++ v) ≡ false
unfolding begins_r line_behind
begins-append s [] v e f = f
begins-append s (b ∷ u) v e f =
    let p = or-parts (s && eqb b letter_r) (begins_r (eqb b lf) u) e in
    or-false (s && eqb b letter_r) (begins_r (eqb b lf) (u ++ v)) p.0 (begins-append (eqb b lf) u v p.1 f)

-- what begins at no line's start begins nowhere else
begins-less : (u v : List ℕ) → begins_r (line_behind true u) v ≡ false → begins_r (line_behind false u) v ≡ false
unfolding begins_r line_behind
begins-less [] [] e = refl
begins-less [] (b ∷ v) e = (or-parts (eqb b letter_r) (begins_r (eqb b lf) v) e).1
begins-less (b ∷ u) v e = e

begins-seen : (s : Bool) (front rest : List ℕ) → begins_r s (front ++ lf ∷ letter_r ∷ rest) ≡ true
unfolding begins_r
begins-seen true [] rest = refl
begins-seen false [] rest = refl
begins-seen s (b ∷ front) rest = rw (begins-seen (eqb b lf) front rest) (go (s && eqb b letter_r))
  where
    go : (c : Bool) → (c || true) ≡ true
    go true = refl
    go false = refl

none-begins : (p : List ℕ) → begins_r false p ≡ false → NoneBehind p
unfolding NoneBehind
none-begins p h front rest e = let s = begins-seen false front rest in cc (h, e, s)

-- behind a line that has ended
line-ended : (s : Bool) (a : List ℕ) → EndsLine a → line_behind s a ≡ true
unfolding EndsLine line_behind
line-ended s a (front, e) = rw (e, line-append s front (lf ∷ [])) refl

ended-line : (p : List ℕ) → line_behind true p ≡ true → IsEmpty p ⊎ EndsLine p
unfolding line_behind IsEmpty EndsLine
ended-line [] h = inl refl
ended-line (b ∷ []) h = inr ([], ap (λ (x : ℕ). x ∷ []) (eqb-true b lf h))
ended-line (b ∷ c ∷ p) h = inr (go (ended-line (c ∷ p) h))
  where
    go : (c ∷ p ≡ []) ⊎ ((front : List ℕ) × (c ∷ p ≡ front ++ lf ∷ [])) → (front : List ℕ) × (b ∷ c ∷ p ≡ front ++ lf ∷ [])
    go (inl e) = absurd (cc)
    go (inr (front, e)) = (b ∷ front, ap (λ (l : List ℕ). b ∷ l) e)

-- ---- the text before: its last piece, and what is before that

record LastPiece (u : List ℕ) : Type 0 where
  a : List ℕ
  p : List ℕ
  whole : a ++ p ≡ u
  parted : IsEmpty a ⊎ (EndsLine a × (starts_r p ≡ true))
  one : begins_r false p ≡ false

uncut-byte : (b : ℕ) (p : List ℕ) → ends_piece b p ≡ false → begins_r false p ≡ false → begins_r false (b ∷ p) ≡ false
unfolding ends_piece starts_r begins_r
uncut-byte b [] h o = refl
uncut-byte b (c ∷ p) h o = or-false (eqb b lf && eqb c letter_r) (begins_r (eqb c lf) p) h o

byte-before : (b : ℕ) (u : List ℕ) → LastPiece u → LastPiece (b ∷ u)
unfolding IsEmpty EndsLine begins_r
byte-before b u l = go l.a l.p l.whole l.parted l.one
  where
    go : (a p : List ℕ) → a ++ p ≡ u → (a ≡ []) ⊎ (((front : List ℕ) × (a ≡ front ++ lf ∷ [])) × (starts_r p ≡ true)) → begins_r false p ≡ false → LastPiece (b ∷ u)
    go a p e (inr (n, s)) o = record { a = b ∷ a; p = p; whole = ap (λ (l : List ℕ). b ∷ l) e; parted = inr (ends-append (b ∷ []) a n, s); one = o }
    go a p e (inl i) o = cut (ends_piece b p) refl
      where
        same : p ≡ u
        same = rw i at e

        cut : (v : Bool) → ends_piece b p ≡ v → LastPiece (b ∷ u)
        cut true h = record {
          a = b ∷ [];
          p = p;
          whole = ap (λ (l : List ℕ). b ∷ l) same;
          parted = inr (([], ap (λ (x : ℕ). x ∷ []) (cut-means b p h).0), starts-cut b p h);
          one = o;
        }
        cut false h = record { a = []; p = b ∷ p; whole = ap (λ (l : List ℕ). b ∷ l) same; parted = inl refl; one = uncut-byte b p h o }

last-piece : (u : List ℕ) → LastPiece u
unfolding IsEmpty begins_r
last-piece [] = record { a = []; p = []; whole = refl; parted = inl refl; one = refl }
last-piece (b ∷ u) = byte-before b u (last-piece u)

-- ---- the text behind: up to the next line that starts with R, and from there on

to_next : Bool → List ℕ → List ℕ
to_next s [] = []
to_next s (c ∷ t) = cond (s && eqb c letter_r) [] (c ∷ to_next (eqb c lf) t)

from_next : Bool → List ℕ → List ℕ
from_next s [] = []
from_next s (c ∷ t) = cond (s && eqb c letter_r) (c ∷ t) (from_next (eqb c lf) t)

record NextPiece (s : Bool) (w q b : List ℕ) : Type 0 where
  whole : q ++ b ≡ w
  none : begins_r s q ≡ false
  parted : IsEmpty b ⊎ ((line_behind s q ≡ true) × (starts_r b ≡ true))

next-piece : (s : Bool) (w : List ℕ) → NextPiece s w (to_next s w) (from_next s w)
unfolding to_next from_next begins_r line_behind IsEmpty starts_r
next-piece s [] = record { whole = refl; none = refl; parted = inl refl }
next-piece s (c ∷ t) = go s (eqb c letter_r) refl (next-piece (eqb c lf) t)
  where
    go : (s r : Bool) → eqb c letter_r ≡ r → NextPiece (eqb c lf) t (to_next (eqb c lf) t) (from_next (eqb c lf) t)
        → NextPiece s (c ∷ t) (cond (s && r) [] (c ∷ to_next (eqb c lf) t)) (cond (s && r) (c ∷ t) (from_next (eqb c lf) t))
    go true true e n = record { whole = refl; none = refl; parted = inr (refl, e) }
    go true false e n = record { whole = ap (λ (l : List ℕ). c ∷ l) n.whole; none = or-false (eqb c letter_r) _ e n.none; parted = n.parted }
    go false r e n = record { whole = ap (λ (l : List ℕ). c ∷ l) n.whole; none = n.none; parted = n.parted }

-- both are the same where no line begins that may start with R
next-same : (s r : Bool) (w : List ℕ) → (starts_r w ≡ true → s ≡ r) → (to_next s w ≡ to_next r w) × (from_next s w ≡ from_next r w)
unfolding to_next from_next starts_r
next-same s r [] h = (refl, refl)
next-same s r (c ∷ t) h = go s r (eqb c letter_r) h
  where
    go : (s r v : Bool) → (v ≡ true → s ≡ r) → (cond (s && v) [] (c ∷ to_next (eqb c lf) t) ≡ cond (r && v) [] (c ∷ to_next (eqb c lf) t))
        × (cond (s && v) (c ∷ t) (from_next (eqb c lf) t) ≡ cond (r && v) (c ∷ t) (from_next (eqb c lf) t))
    go s r true h = let e = h refl in (rw e refl, rw e refl)
    go true true false h = (refl, refl)
    go true false false h = (refl, refl)
    go false true false h = (refl, refl)
    go false false false h = (refl, refl)

-- ---- what stands between them is one piece

starts-more : (p z : List ℕ) → starts_r p ≡ true → starts_r (p ++ z) ≡ true
unfolding starts_r
starts-more [] z h = absurd (cc)
starts-more (b ∷ p) z h = h

meet-last : (a p z : List ℕ) → IsEmpty a ⊎ (EndsLine a × (starts_r p ≡ true)) → Meet a (p ++ z)
meet-last a p z (inl i) = nothing-before i
meet-last a p z (inr (n, s)) = line-between n (starts-more p z s)

meet-next : (x b : List ℕ) → IsEmpty b ⊎ ((line_behind true x ≡ true) × (starts_r b ≡ true)) → Meet x b
meet-next x b (inl i) = nothing-behind i
meet-next x b (inr (h, s)) = elim (ended-line x h) [ inl i ↦ nothing-before i | inr l ↦ line-between l s ]

state-last : (a p : List ℕ) → IsEmpty a ⊎ (EndsLine a × (starts_r p ≡ true)) → line_behind true (a ++ p) ≡ line_behind true p
unfolding IsEmpty
state-last a p (inl i) = rw i refl
state-last a p (inr (n, s)) = line-append true a p ∙ ap (λ (v : Bool). line_behind v p) (line-ended true a n)

module _ (u v w : List ℕ) (l : LastPiece u) (was : begins_r (line_at u) v ≡ false) (q b : List ℕ) (n : NextPiece (line_at (u ++ v)) w q b) where
  state : line_behind true u ≡ line_behind true l.p
  state = ap (line_behind true) (sym l.whole) ∙ state-last l.a l.p l.parted

  state-on : line_behind true (u ++ v) ≡ line_behind true (l.p ++ v)
  state-on = line-append true u v ∙ ap (λ (c : Bool). line_behind c v) state ∙ sym (line-append true l.p v)

  none-inside : NoneBehind (l.p ++ (v ++ q))
  none-inside =
      let f : begins_r (line_behind false l.p) v ≡ false = begins-less l.p v (rw state at was) in
      let g : begins_r (line_behind (line_behind false l.p) v) q ≡ false = rw (← line-append false l.p v) (begins-less (l.p ++ v) q (rw state-on at n.none)) in
      none-begins (l.p ++ (v ++ q)) (begins-append false l.p (v ++ q) l.one (begins-append (line_behind false l.p) v q f g))

  line-end : line_behind true (l.p ++ (v ++ q)) ≡ line_behind (line_at (u ++ v)) q
  line-end =
      ap (line_behind true) (sym (append_assoc l.p v q)) ∙ line-append true (l.p ++ v) q ∙ ap (λ (c : Bool). line_behind c q) (sym state-on)

  between-pieces : pieces (l.a ++ ((l.p ++ (v ++ q)) ++ b)) ≡ pieces l.a ++ (alone (l.p ++ (v ++ q)) ++ pieces b)
  between-pieces =
      let m : Meet l.a ((l.p ++ (v ++ q)) ++ b) = rw (append_assoc l.p (v ++ q) b) (meet-last l.a l.p ((v ++ q) ++ b) l.parted) in
      let k : Meet (l.p ++ (v ++ q)) b = meet-next (l.p ++ (v ++ q)) b (elim n.parted [ inl i ↦ inl i | inr h ↦ inr (line-end ∙ h.0, h.1) ]) in
      pieces-append l.a ((l.p ++ (v ++ q)) ++ b) m ∙ rw (pieces-append (l.p ++ (v ++ q)) b k, one-piece (l.p ++ (v ++ q)) none-inside) refl

-- ---- the theorem

pub damage-anywhere : (u v w y : List ℕ) → Harmless u v w y → Inside u v w y
damage-anywhere u v w y h =
    let l = last-piece u in
    let s = line_at (u ++ v) in
    let n = next-piece s w in
    let e = next-same (line_at (u ++ y)) s w (λ i. sym (h.next i)) in
    let m = rw (e.0, e.1) at (next-piece (line_at (u ++ y)) w) in
    record {
      a = l.a;
      front = l.p;
      back = to_next s w;
      b = from_next s w;
      before = l.whole;
      behind = n.whole;
      same = record {
        as_it_was = between-pieces u v w l h.was (to_next s w) (from_next s w) n;
        damaged = between-pieces u y w l h.is (to_next s w) (from_next s w) m;
      };
    }
