-- The scans' answer is the first pair, and none exactly where there is none: by recursion over the rows, a scan answers with the first that meets its test.
use Prim.Native.Nat.{ℕ, ◌+◌, ◌<◌}
use mathlib.Core.Bool.{Bool, true, false, cond, true≢false}
use mathlib.Core.List.{List, [], ◌∷◌}
use mathlib.Core.Logic.{inl, inr, ◌↔◌}
use mathlib.Core.Path.{◌≡◌, refl, sym, ◌∙◌, subst, ap₂}
use native.Mathlib.Omega.{arith}
use Rattle.ring.specs.TableRows.{PairBefore}
use Rattle.ring.specs.declared.types.Sent.{Sent}
use Rattle.ring.specs.Crossing.{parallel}
use Rattle.ring.specs.RuleC.{clash}
use Rattle.ring.proofs.Splits.{Splitting, split, whole, splitting}
use Rattle.crossing.specs.Pair.{RowFrom, at_first, behind, PairAt, FirstFrom, NoneFrom, ParallelSplit, FirstPair, NoPair}
use Rattle.crossing.proofs.FirstPairs.{no_row, low, PairIn, with_head, in_tail, pair-in, later, same_first}
use Rattle.crossing.specs.FindPair.{pair_with, or_next, pair_from, first_pair}
use Rattle.crossing.specs.declared.pair.Pair.{Pair}
use Rattle.crossing.specs.declared.pair.Pair.TheVariants.{Are, None}

-- ---- the test of two rows

data Clashing (a b : Sent) : Type 0 where
  does : ParallelSplit a b → clash a b ≡ true → Clashing a b
  not_so : (ParallelSplit a b → ⊥) → clash a b ≡ false → Clashing a b

clashing : (a b : Sent) → Clashing a b
unfolding clash
clashing a b = go (splitting a) (splitting b) (parallel a.demand b.demand) refl
  where
    go : Splitting a → Splitting b → (x : Bool) → parallel a.demand b.demand ≡ x → Clashing a b
    go (whole n e) y x p = not_so (λ c. n c.one) (rw e)
    go (split h e) (whole n f) x p = not_so (λ c. n c.two) (rw (e, f))
    go (split h e) (split i f) true p = does (record { one = h; two = i; parallel = p }) (rw (e, f, p))
    go (split h e) (split i f) false p = not_so (λ c. true≢false (sym c.parallel ∙ p)) (rw (e, f, p))

-- ---- the scan of a first row

-- the answer is p with the place of the first row that the test holds of, or it holds of none
data With (s : Sent) (p q : ℕ) (ts : List Sent) : Pair → Type 0 where
  one : {r : ℕ} {t : Sent} → RowFrom q ts r t → ParallelSplit s t → ((b : ℕ) (u : Sent) → b < r → RowFrom q ts b u → ParallelSplit s u → ⊥) → With s p q ts (Are p r)
  no_one : ((b : ℕ) (u : Sent) → RowFrom q ts b u → ParallelSplit s u → ⊥) → With s p q ts None

scan-seconds : (s : Sent) (p q : ℕ) (ts : List Sent) → With s p q ts (pair_with s p q ts)
unfolding pair_with
scan-seconds s p q [] = no_one (λ b u r c. no_row r)
scan-seconds s p q (t ∷ ts) = go (clashing s t) (scan-seconds s p (q + 1) ts)
  where
    -- what does not hold of the head, nor of the tail
    nor : {b : ℕ} {u : Sent} → (ParallelSplit s t → ⊥) → (RowFrom (q + 1) ts b u → ParallelSplit s u → ⊥) → RowFrom q (t ∷ ts) b u → ParallelSplit s u → ⊥
    nor n m at_first c = n c
    nor n m (behind r) c = m r c

    later : {x : Pair} → (ParallelSplit s t → ⊥) → With s p (q + 1) ts x → With s p q (t ∷ ts) x
    later n (one r c f) = one (behind r) c (λ b u l. nor n (f b u l))
    later n (no_one f) = no_one (λ b u. nor n (f b u))

    go : Clashing s t → With s p (q + 1) ts (pair_with s p (q + 1) ts) → With s p q (t ∷ ts) (cond (clash s t) (Are p q) (pair_with s p (q + 1) ts))
    go (does c e) w = rw e (one at_first c (λ b u l r d. let h = low r in omega arith))
    go (not_so n e) w = rw e (later n w)

-- ---- the scan of all rows

-- the answer is the first pair, or there is none
data From (k : ℕ) (ss : List Sent) : Pair → Type 0 where
  are : {p q : ℕ} → FirstFrom ParallelSplit k ss p q → From k ss (Are p q)
  none : NoneFrom ParallelSplit k ss → From k ss None

scan-firsts : (k : ℕ) (ss : List Sent) → From k ss (pair_from k ss)
unfolding pair_from or_next
scan-firsts k [] = none (λ p q x. no_row x.first)
scan-firsts k (s ∷ ss) = go (scan-seconds s k (k + 1) ss) (scan-firsts (k + 1) ss)
  where
    -- no pair is before the head with its first partner
    before_head : {a b r : ℕ} → ((c : ℕ) (u : Sent) → c < r → RowFrom (k + 1) ss c u → ParallelSplit s u → ⊥) → PairBefore a b k r → PairIn ParallelSplit k s ss a b → ⊥
    before_head f (inl l) (with_head e m c) = omega arith
    before_head {b = b} f (inr l) (with_head {b = u} e m c) = f b u l.1 m c
    before_head f (inl l) (in_tail x) = let h = low x.first in omega arith
    before_head f (inr l) (in_tail x) = let h = low x.first in omega arith

    -- nor is there one where the head has no partner and the tail no such pair
    nor : {a b : ℕ} → ((c : ℕ) (u : Sent) → RowFrom (k + 1) ss c u → ParallelSplit s u → ⊥) → (PairAt ParallelSplit (k + 1) ss a b → ⊥) → PairIn ParallelSplit k s ss a b → ⊥
    nor {b = b} f m (with_head {b = u} e r c) = f b u r c
    nor f m (in_tail x) = m x

    go : {x y : Pair} → With s k (k + 1) ss x → From (k + 1) ss y → From k (s ∷ ss) (or_next x y)
    go (one {t = t} r c f) w =
        are
        (record {
          are = record { a = s; b = t; first = at_first; second = behind r; order = let h = low r in omega arith; both = c };
          none_before = λ a b l x. before_head f l (pair-in x);
        })
    go (no_one f) (are g) = are (record { are = later g.are; none_before = λ a b l x. nor f (g.none_before a b l) (pair-in x) })
    go (no_one f) (none g) = none (λ a b x. nor f (g a b) (pair-in x))

-- ---- the answers

module _ (ss : List Sent) where
  answer : From 1 ss (first_pair ss)
  unfolding first_pair
  answer = scan-firsts 1 ss

  pub first-pair-is : (p q : ℕ) → (first_pair ss ≡ Are p q) ↔ FirstPair ss p q
  first-pair-is p q = (λ e. to (subst (From 1 ss) e answer), λ f. of f answer)
    where
      to : From 1 ss (Are p q) → FirstPair ss p q
      to (are f) = f

      of : {x : Pair} → FirstPair ss p q → From 1 ss x → x ≡ Are p q
      of f (are g) = let e = same_first g f in ap₂ Are e.0 e.1
      of f (none n) = absurd (n p q f.are)

  pub no-pair-is : (first_pair ss ≡ None) ↔ NoPair ss
  no-pair-is = (λ e. to (subst (From 1 ss) e answer), λ n. of n answer)
    where
      to : From 1 ss None → NoPair ss
      to (none n) = n

      of : {x : Pair} → NoPair ss → From 1 ss x → x ≡ None
      of n (are {p = p} {q = q} f) = absurd (n p q f.are)
      of n (none m) = refl
