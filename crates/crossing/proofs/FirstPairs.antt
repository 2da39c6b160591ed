-- Pairs of rows in any relation, by their places: there is one first pair; there is none exactly where the relation holds of no two rows; and the first pair among rows that are
-- made one by one of others is the first pair among these.
use Prim.Native.Nat.{ℕ, ◌+◌, ◌≤◌, ◌<◌}
use mathlib.Core.List.{List, [], ◌∷◌, map}
use mathlib.Core.Logic.{inl, inr, ◌↔◌}
use mathlib.Core.Path.{◌≡◌, refl, subst, sym}
use native.Mathlib.Omega.{arith}
use native.Mathlib.Decide.{dec_lt}
use native.Mathlib.Nat.{le_refl}
use Rattle.ring.specs.Lists.{Each, none, more, Pairs, no_pair, and_pairs}
use Rattle.ring.specs.TableRows.{PairBefore}
use Rattle.crossing.specs.Pair.{RowFrom, at_first, behind, PairAt, FirstFrom, NoneFrom}

module _ {A : Type 0} where
  pub no_row : {k p : ℕ} {a : A} → RowFrom k [] p a → ⊥
  no_row = elim [ ]

  -- no place is before the first
  pub low : {k p : ℕ} {l : List A} {a : A} → RowFrom k l p a → k ≤ p
  low {k} at_first = le_refl k
  low (behind r) = let l = low r in omega arith

  -- a pair has the head, or it is one of the tail
  pub data PairIn (R : A → A → Type 0) (k : ℕ) (a : A) (l : List A) (p q : ℕ) : Type 0 where
    with_head : {b : A} → p ≡ k → RowFrom (k + 1) l q b → R a b → PairIn R k a l p q
    in_tail : PairAt R (k + 1) l p q → PairIn R k a l p q

  pub pair-in : {R : A → A → Type 0} {k p q : ℕ} {a : A} {l : List A} → PairAt R k (a ∷ l) p q → PairIn R k a l p q
  pair-in {R} {k} {a = a} {l = l} x = go x.a x.b x.first x.second x.order x.both
    where
      go : {p q : ℕ} (c d : A) → RowFrom k (a ∷ l) p c → RowFrom k (a ∷ l) q d → p < q → R c d → PairIn R k a l p q
      go c d at_first at_first o r = absurd (omega arith)
      go c d at_first (behind x) o r = with_head refl x r
      go c d (behind x) at_first o r = let h = low x in absurd (omega arith)
      go c d (behind x) (behind y) o r = in_tail (record { a = c; b = d; first = x; second = y; order = o; both = r })

  -- a pair of the tail is one of the whole
  pub later : {R : A → A → Type 0} {k p q : ℕ} {a : A} {l : List A} → PairAt R (k + 1) l p q → PairAt R k (a ∷ l) p q
  later x = record { a = x.a; b = x.b; first = behind x.first; second = behind x.second; order = x.order; both = x.both }

  -- ---- there is one first pair

  pub same_first : {R : A → A → Type 0} {k p q m n : ℕ} {l : List A} → FirstFrom R k l p q → FirstFrom R k l m n → (p ≡ m) × (q ≡ n)
  same_first {p = p} {q = q} {m = a} {n = b} f g =
      let up : PairBefore p q a b → ⊥ = λ l. g.none_before p q l f.are in
      let down : PairBefore a b p q → ⊥ = λ l. f.none_before a b l g.are in
      elim (dec_lt p a) [
        | yes l ↦ absurd (up (inl l))
        | no l ↦ elim (dec_lt a p) [
          | yes m ↦ absurd (down (inl m))
          | no m ↦ elim (dec_lt q b) [
            | yes u ↦ absurd (up (inr (omega arith, u)))
            | no u ↦ elim (dec_lt b q) [ yes v ↦ absurd (down (inr (omega arith, v))) | no v ↦ (omega arith, omega arith) ]
          ]
        ]
      ]

  -- ---- there is none

  -- what holds of each row holds of the one at a place
  each_at : {P : A → Type 0} {k p : ℕ} {l : List A} {a : A} → Each P l → RowFrom k l p a → P a
  each_at none r = elim r [ ]
  each_at (more h e) at_first = h
  each_at {k = k} (more h e) (behind r) = each_at {k = k + 1} e r

  pub none-of : {P R : A → A → Type 0} → ((a b : A) → P a b → R a b → ⊥) → (k : ℕ) {l : List A} → Pairs P l → NoneFrom R k l
  none-of not-both k no_pair p q x = no_row x.first
  none-of {P} {R} not-both k (and_pairs {a = a} {l = l} e h) p q x = go (none-of not-both (k + 1) h p q) (pair-in x)
    where
      go : (PairAt R (k + 1) l p q → ⊥) → PairIn R k a l p q → ⊥
      go m (with_head {b = b} i r c) = not-both a b (each_at e r) c
      go m (in_tail y) = m y

  -- what holds of the row at each place holds of each row
  each-of-places : {P : A → Type 0} (k : ℕ) (l : List A) → ((p : ℕ) (a : A) → RowFrom k l p a → P a) → Each P l
  each-of-places k [] f = none
  each-of-places k (a ∷ l) f = more (f k a at_first) (each-of-places (k + 1) l (λ p b r. f p b (behind r)))

  pub of-none : {P R : A → A → Type 0} → ((a b : A) → (R a b → ⊥) → P a b) → (k : ℕ) (l : List A) → NoneFrom R k l → Pairs P l
  of-none apart k [] n = no_pair
  of-none {P} {R} apart k (a ∷ l) n =
      and_pairs (each-of-places (k + 1) l (λ p b r. apart a b (λ x. n k p (record { a = a; b = b; first = at_first; second = behind r; order = let h = low r in omega arith; both = x }))))
      (of-none apart (k + 1) l (λ p q x. n p q (later x)))

-- ---- rows that are made of others

module _ {A B : Type 0} (f : A → B) where
  row-to : {k p : ℕ} {a : A} {l : List A} → RowFrom k l p a → RowFrom k (map f l) p (f a)
  row-to at_first = at_first
  row-to (behind r) = behind (row-to r)

  record Made (k : ℕ) (l : List A) (p : ℕ) (b : B) : Type 0 where
    of : A
    row : RowFrom k l p of
    is : f of ≡ b

  made : {k p : ℕ} {b : B} {m : List B} (l : List A) → RowFrom k m p b → map f l ≡ m → Made k l p b
  made [] at_first e = absurd (cc)
  made [] (behind r) e = absurd (cc)
  made (a ∷ l) at_first e = record { of = a; row = at_first; is = cc }
  made {k = k} (a ∷ l) (behind {l = m} r) e =
      let same : map f l ≡ m = cc in
      let rest = made {k = k + 1} l r same in
      record { of = rest.of; row = behind rest.row; is = rest.is }

module _ {A B : Type 0} (f : A → B) {R : A → A → Type 0} {S : B → B → Type 0} (same : (a b : A) → R a b ↔ S (f a) (f b)) where
  pair-to : {k p q : ℕ} {l : List A} → PairAt R k l p q → PairAt S k (map f l) p q
  pair-to x = record { a = f x.a; b = f x.b; first = row-to f x.first; second = row-to f x.second; order = x.order; both = (same x.a x.b).0 x.both }

  pair-of : {k p q : ℕ} {l : List A} → PairAt S k (map f l) p q → PairAt R k l p q
  pair-of {l = l} x =
      let m = made f l x.first refl in
      let n = made f l x.second refl in
      record {
        a = m.of;
        b = n.of;
        first = m.row;
        second = n.row;
        order = x.order;
        both = (same m.of n.of).1 (subst (λ b. S (f m.of) b) (sym n.is) (subst (λ a. S a x.b) (sym m.is) x.both));
      }

  pub first-made : {k p q : ℕ} {l : List A} → FirstFrom S k (map f l) p q ↔ FirstFrom R k l p q
  first-made = (
    λ x. record { are = pair-of x.are; none_before = λ m n b y. x.none_before m n b (pair-to y) },
    λ x. record { are = pair-to x.are; none_before = λ m n b y. x.none_before m n b (pair-of y) },
  )

  pub none-made : {k : ℕ} {l : List A} → NoneFrom S k (map f l) ↔ NoneFrom R k l
  none-made = (λ n p q x. n p q (pair-to x), λ n p q x. n p q (pair-of x))
