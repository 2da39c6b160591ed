-- A text with one piece damaged: where no line that starts with R is made or broken, the other pieces stand as before.
use Prim.Native.Nat.{ℕ}
use mathlib.Core.Bool.{true}
use mathlib.Core.List.{List, [], ◌∷◌, ◌++◌, append_assoc, append-nil, flatten}
use mathlib.Core.Logic.{◌⊎◌, inl, inr}
use mathlib.Core.Path.{◌≡◌, refl, ap, sym, ◌∙◌}
use Rattle.ring.specs.Lists.{Each, more, Steps, no_member, step}
use Rattle.report.specs.Pieces.{starts_r, pieces}
use Rattle.report.specs.Damage.{alone, IsPiece, BeforeFirst, MayReplace, SameAround}
use Rattle.report.specs.PiecesAre.{EndsLine, NoneBehind, IsEmpty, OnePiece, Parted}
use Rattle.report.proofs.PieceLaws.{one-piece, Meet, nothing-before, nothing-behind, line-between, pieces-append, starts-as, ends-append, pieces-are, join-pieces}

-- ---- between two texts

-- what stands before and behind x, where x stands as a piece or as nothing
record Around (a x b : List ℕ) : Type 0 where
  front : IsEmpty a ⊎ (EndsLine a × (starts_r x ≡ true))
  back : IsEmpty b ⊎ (starts_r b ≡ true)
  itself : MayReplace x b x

starts-front : (y b : List ℕ) → starts_r y ≡ true → starts_r (y ++ b) ≡ true
unfolding starts_r
starts-front [] b h = absurd (cc)
starts-front (c ∷ y) b h = h

meet-front : (a x b y : List ℕ) → Around a x b → starts_r y ≡ starts_r x → Meet a (y ++ b)
meet-front a x b y r e =
    elim r.front [ inl i ↦ nothing-before i | inr s ↦ line-between s.0 (starts-front y b (e ∙ s.1)) ]

meet-back : (b y : List ℕ) → IsEmpty b ⊎ (starts_r b ≡ true) → ((IsEmpty b → ⊥) → IsEmpty y ⊎ EndsLine y) → Meet y b
unfolding IsEmpty
meet-back [] y r h = nothing-behind refl
meet-back (c ∷ b) y (inl i) h = nothing-behind i
meet-back (c ∷ b) y (inr s) h = elim (h (λ e. cc)) [ inl i ↦ nothing-before i | inr l ↦ line-between l s ]

put : (a x b y : List ℕ) → Around a x b → MayReplace x b y → pieces (a ++ (y ++ b)) ≡ pieces a ++ (alone y ++ pieces b)
put a x b y r m =
    pieces-append a (y ++ b) (meet-front a x b y r m.start)
    ∙ rw (pieces-append y b (meet-back b y r.back m.line_end), one-piece y m.none_behind) refl

-- ---- a piece stands so

each-behind : (ps qs : List (List ℕ)) → Each OnePiece (ps ++ qs) → Each OnePiece qs
each-behind [] qs h = h
each-behind (p ∷ ps) qs (more o h) = each-behind ps qs h

steps-behind : (ps qs : List (List ℕ)) → Steps Parted (ps ++ qs) → Steps Parted qs
steps-behind [] qs h = h
steps-behind (p ∷ []) [] h = no_member
steps-behind (p ∷ []) (q ∷ qs) (step r h) = h
steps-behind (p ∷ o ∷ ps) qs (step r h) = steps-behind (o ∷ ps) qs h

front-ends : (p : List ℕ) (ps : List (List ℕ)) (x : List ℕ) (qs : List (List ℕ)) → Steps Parted ((p ∷ ps) ++ x ∷ qs)
    → EndsLine (flatten (p ∷ ps)) × (starts_r x ≡ true)
unfolding flatten
front-ends p [] x qs (step r h) = (rw (append-nil p) r.ends, r.starts)
front-ends p (q ∷ ps) x qs (step r h) = let s = front-ends q ps x qs h in (ends-append p (flatten (q ∷ ps)) s.0, s.1)

front-of : (ps : List (List ℕ)) (x : List ℕ) (qs : List (List ℕ)) → Steps Parted (ps ++ x ∷ qs) → IsEmpty (flatten ps) ⊎ (EndsLine (flatten ps) × (starts_r x ≡ true))
unfolding flatten IsEmpty
front-of [] x qs h = inl refl
front-of (p ∷ ps) x qs h = inr (front-ends p ps x qs h)

back-of : (x : List ℕ) (qs : List (List ℕ)) → Each OnePiece (x ∷ qs) → Steps Parted (x ∷ qs)
    → IsEmpty (flatten qs) ⊎ (EndsLine x × (starts_r (flatten qs) ≡ true))
unfolding flatten IsEmpty
back-of x [] each h = inl refl
back-of x (q ∷ qs) (more o (more n each)) (step r h) = inr (r.ends, starts-as q qs n.filled ∙ r.starts)

around : (ps : List (List ℕ)) (x : List ℕ) (qs : List (List ℕ)) → Each OnePiece (ps ++ x ∷ qs) → Steps Parted (ps ++ x ∷ qs) → Around (flatten ps) x (flatten qs)
around ps x qs each h =
    let e = each-behind ps (x ∷ qs) each in
    let b = back-of x qs e (steps-behind ps (x ∷ qs) h) in
    record {
      front = front-of ps x qs h;
      back = elim b [ inl i ↦ inl i | inr s ↦ inr s.1 ];
      itself = record {
        start = refl;
        none_behind = first e;
        line_end = λ n. elim b [ inl i ↦ absurd (n i) | inr s ↦ inr s.0 ];
      };
    }
  where
    first : Each OnePiece (x ∷ qs) → NoneBehind x
    first (more o r) = o.none_behind

piece-around : (a x b : List ℕ) → IsPiece a x b → Around a x b
piece-around a x b h =
    let are = pieces-are (a ++ (x ++ b)) in
    let r = around h.before x h.after (rw h.found at are.each) (rw h.found at are.parted) in
    rw (h.front, h.back) at r

nothing-around : (a x b : List ℕ) → BeforeFirst a x b → Around a x b
unfolding IsEmpty NoneBehind
nothing-around a x b h = record {
  front = inl h.at_start;
  back = go b h.first;
  itself = record { start = refl; none_behind = none-in x h.nothing; line_end = λ n. inl h.nothing };
}
  where
    go : (t : List ℕ) → ((IsEmpty t → ⊥) → starts_r t ≡ true) → IsEmpty t ⊎ (starts_r t ≡ true)
    go [] f = inl refl
    go (c ∷ t) f = inr (f (λ e. cc))

    none-in : (t : List ℕ) → IsEmpty t → NoneBehind t
    none-in t e [] rest i = cc
    none-in t e (c ∷ front) rest i = cc

-- ---- the theorem

kept : (a x b y : List ℕ) → Around a x b → MayReplace x b y → SameAround a x b y
kept a x b y r m = record { as_it_was = put a x b x r r.itself; damaged = put a x b y r m }

pub damage : (a x b y : List ℕ) → IsPiece a x b ⊎ BeforeFirst a x b → MayReplace x b y → SameAround a x b y
damage a x b y (inl h) m = kept a x b y (piece-around a x b h) m
damage a x b y (inr h) m = kept a x b y (nothing-around a x b h) m

-- ---- each piece that is found may be damaged so

flatten-split : (ps : List (List ℕ)) (x : List ℕ) (qs : List (List ℕ)) → flatten (ps ++ x ∷ qs) ≡ flatten ps ++ (x ++ flatten qs)
unfolding flatten
flatten-split [] x qs = refl
flatten-split (p ∷ ps) x qs = rw (flatten-split ps x qs, append_assoc p (flatten ps) (x ++ flatten qs)) refl

-- where it stands in the text
pub split-at : (t : List ℕ) (ps : List (List ℕ)) (x : List ℕ) (qs : List (List ℕ)) → pieces t ≡ ps ++ x ∷ qs → flatten ps ++ (x ++ flatten qs) ≡ t
split-at t ps x qs e = sym (flatten-split ps x qs) ∙ sym (ap flatten e) ∙ join-pieces t

pub is-piece : (t : List ℕ) (ps : List (List ℕ)) (x : List ℕ) (qs : List (List ℕ)) → pieces t ≡ ps ++ x ∷ qs → IsPiece (flatten ps) x (flatten qs)
is-piece t ps x qs e = record { before = ps; after = qs; found = ap pieces (split-at t ps x qs e) ∙ e; front = refl; back = refl }
