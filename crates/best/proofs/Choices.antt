-- Choices and numbers below 2^m are the same: each number gives a choice, each choice has a number, and the smaller of two goes Front at their first
-- difference. By recursion over the rows, the first of which has the highest bit.
use Prim.Native.Nat.{ℕ, suc, ◌+◌, ◌-◌, ◌*◌, ◌^◌, ◌≤◌, ◌<◌}
use mathlib.Core.List.{List, [], ◌∷◌}
use mathlib.Core.Path.{◌≡◌, refl, sym, ap, ap₂, subst}
use native.Mathlib.Omega.{arith}
use native.Mathlib.Nat.{pow-suc}
use Rattle.std.specs.Prelude.{count_ones}
use Rattle.std.proofs.lemmas.Nat.{ones_cat}
use native.Mathlib.Decide.{dec_lt}
use borrow.Author.Tests.{lt-ltb, le-ltb}
use Rattle.ring.specs.Lists.{Each, none, more}
use Rattle.ring.specs.declared.types.Sent.{Sent}
use Rattle.ring.specs.declared.types.Routed.{Routed}
use Rattle.ring.specs.declared.types.Way.{Way}
use Rattle.ring.specs.declared.types.Way.TheVariants.{Front, Back}
use Rattle.ring.specs.Routing.{Split, routed}
use Rattle.ring.specs.RuleD.{whole_way}
use Rattle.ring.specs.Sheet.{sents}
use Rattle.ring.specs.True.{GoesByRuleD}
use Rattle.best.specs.Best.{splits, turned_back, Choice, GoesF, here, there}
use Rattle.best.specs.Choices.{choose}
use Rattle.ring.proofs.Splits.{Splitting, split, whole, splitting}
use Rattle.best.proofs.Keeping.{split-kept, whole-kept, only-way}

-- what a choice does with the first row
pub data Chosen (c : ℕ) (s : Sent) (ss : List Sent) : List Routed → ℕ → Type 0 where
  goes-F : Split s → c < 2 ^ splits ss → Chosen c s ss (routed s Front ∷ choose c ss) (suc (splits ss))
  goes-B : Split s → 2 ^ splits ss ≤ c → Chosen c s ss (routed s Back ∷ choose (c - 2 ^ splits ss) ss) (suc (splits ss))
  stays : (Split s → ⊥) → Chosen c s ss (routed s (whole_way s) ∷ choose c ss) (splits ss)

pub chosen : (c : ℕ) (s : Sent) (ss : List Sent) → Chosen c s ss (choose c (s ∷ ss)) (splits (s ∷ ss))
unfolding choose splits
chosen c s ss = go (splitting s) (dec_lt c (2 ^ splits ss))
  where
    go : Splitting s → Dec (c < 2 ^ splits ss) → Chosen c s ss (choose c (s ∷ ss)) (splits (s ∷ ss))
    go (split p e) (yes l) = rw (e, lt-ltb c (2 ^ splits ss) l) (goes-F p l)
    go (split p e) (no l) = let m : 2 ^ splits ss ≤ c = omega arith in rw (e, le-ltb c (2 ^ splits ss) m) (goes-B p m)
    go (whole n e) d = rw e (stays n)

-- ---- each number gives a choice

pub number_same : (c : ℕ) (ss : List Sent) → sents (choose c ss) ≡ ss
unfolding choose
number_same c [] = refl
number_same c (s ∷ ss) = go (chosen c s ss) (λ d. number_same d ss)
  where
    go : {l : List Routed} {m : ℕ} → Chosen c s ss l m → ((d : ℕ) → sents (choose d ss) ≡ ss) → sents l ≡ s ∷ ss
    go (goes-F p l) ih = ap (λ (l : List Sent). s ∷ l) (ih c)
    go (goes-B p l) ih = ap (λ (l : List Sent). s ∷ l) (ih (c - 2 ^ splits ss))
    go (stays n) ih = ap (λ (l : List Sent). s ∷ l) (ih c)

number-kept : (c : ℕ) (ss : List Sent) → Each GoesByRuleD (choose c ss)
unfolding choose
number-kept c [] = none
number-kept c (s ∷ ss) = go (chosen c s ss) (λ d. number-kept d ss)
  where
    go : {l : List Routed} {m : ℕ} → Chosen c s ss l m → ((d : ℕ) → Each GoesByRuleD (choose d ss)) → Each GoesByRuleD l
    go (goes-F p l) ih = more (split-kept s p Front) (ih c)
    go (goes-B p l) ih = more (split-kept s p Back) (ih (c - 2 ^ splits ss))
    go (stays n) ih = more (whole-kept s) (ih c)

pub number-choice : (c : ℕ) (ss : List Sent) → Choice ss (choose c ss)
number-choice c ss = record { same = number_same c ss; kept = number-kept c ss }

-- ---- each choice has a number

pub record Numbered (ss : List Sent) (ways : List Routed) : Type 0 where
  pub c : ℕ
  pub below : c < 2 ^ splits ss
  pub is : choose c ss ≡ ways

number-of-kept : {ways : List Routed} → Each GoesByRuleD ways → Numbered (sents ways) ways
unfolding choose splits
number-of-kept none = record { c = 0; below = omega arith; is = refl }
number-of-kept (more {a = r} {l = l} k ks) = go (splitting r.sent) r.way refl (number-of-kept ks)
  where
    go : Splitting r.sent → (w : Way) → r.way ≡ w → Numbered (sents l) l → Numbered (sents (r ∷ l)) (r ∷ l)
    go (split p e) Front f ih =
        let g : splits (sents (r ∷ l)) ≡ suc (splits (sents l)) = rw e in
        let m = lt-ltb ih.c (2 ^ splits (sents l)) ih.below in
        record { c = ih.c; below = rw g (omega (arith, ih.below)); is = rw (e, m, f) (ap (λ (x : List Routed). routed r.sent Front ∷ x) ih.is) }
    go (split p e) Back f ih =
        let g : splits (sents (r ∷ l)) ≡ suc (splits (sents l)) = rw e in
        let m = le-ltb (2 ^ splits (sents l) + ih.c) (2 ^ splits (sents l)) (omega arith) in
        let z : 2 ^ splits (sents l) + ih.c - 2 ^ splits (sents l) ≡ ih.c = omega arith in
        record {
          c = 2 ^ splits (sents l) + ih.c;
          below = rw g (omega (arith, ih.below));
          is = rw (e, m, f, z) (ap (λ (x : List Routed). routed r.sent Back ∷ x) ih.is);
        }
    go (whole n e) w f ih =
        record {
          c = ih.c;
          below = rw e ih.below;
          is = rw e (ap₂ {B = List Routed} {C = List Routed} (λ w x. routed r.sent w ∷ x) (sym (only-way r.sent n r.way k)) ih.is);
        }

pub number_of : (ss : List Sent) (ways : List Routed) → Choice ss ways → Numbered ss ways
number_of ss ways c = subst (λ x. Numbered x ways) c.same (number-of-kept c.kept)

-- ---- the smaller number goes Front at the first difference

pub smaller-goes-F : (c d : ℕ) (ss : List Sent) → c < d → d < 2 ^ splits ss → GoesF (choose c ss) (choose d ss)
unfolding choose splits
smaller-goes-F c d [] l m = absurd (omega arith)
smaller-goes-F c d (s ∷ ss) l m = go (chosen c s ss) (chosen d s ss) m (λ a b. smaller-goes-F a b ss)
  where
    bit : ℕ
    bit = 2 ^ splits ss

    go : {x y : List Routed} {u v : ℕ} → Chosen c s ss x u → Chosen d s ss y v → d < 2 ^ v
        → ((a b : ℕ) → a < b → b < 2 ^ splits ss → GoesF (choose a ss) (choose b ss)) → GoesF x y
    go (goes-F p h) (goes-F q k) e ih = there (ih c d l k)
    go (goes-F p h) (goes-B q k) e ih = here
    go (goes-F p h) (stays n) e ih = absurd (n p)
    go (goes-B p h) (goes-F q k) e ih = absurd (omega arith)
    go (goes-B p h) (goes-B q k) e ih = there (ih (c - 2 ^ splits ss) (d - 2 ^ splits ss) (omega arith) (omega arith))
    go (goes-B p h) (stays n) e ih = absurd (n p)
    go (stays n) (goes-F q k) e ih = absurd (n q)
    go (stays n) (goes-B q k) e ih = absurd (n q)
    go (stays n) (stays n') e ih = there (ih c d l e)

-- ---- rows turned back are the number's ones

pub turned-is-ones : (c : ℕ) (ss : List Sent) → c < 2 ^ splits ss → turned_back (choose c ss) ≡ count_ones c
unfolding choose splits turned_back lib.Count.ones
turned-is-ones c [] l = let e : c ≡ 0 = omega (arith, l) in rw e refl
turned-is-ones c (s ∷ ss) l = go (splitting s) (dec_lt c (2 ^ splits ss)) (λ d. turned-is-ones d ss)
  where
    go : Splitting s → Dec (c < 2 ^ splits ss) → ((d : ℕ) → d < 2 ^ splits ss → turned_back (choose d ss) ≡ count_ones d) → turned_back (choose c (s ∷ ss)) ≡ count_ones c
    go (split p e) (yes m) ih = rw (e, lt-ltb c (2 ^ splits ss) m, e) (omega (arith, ih c m))
    go (split p e) (no n) ih =
        let m : 2 ^ splits ss ≤ c = omega arith in
        let f : 2 ^ splits (s ∷ ss) ≡ 2 ^ splits ss * 2 = (rw e (pow-suc 2 (splits ss))) in
        let d : c - 2 ^ splits ss < 2 ^ splits ss = omega (arith, l, f) in
        let a : 1 * 2 ^ splits ss + (c - 2 ^ splits ss) ≡ c = omega arith in
        rw (e, le-ltb c (2 ^ splits ss) m, e) (omega (arith, ih (c - 2 ^ splits ss) d, ap count_ones a, ones_cat (splits ss) 1 (c - 2 ^ splits ss) d))
    go (whole n e) d ih = rw (e, e) (omega (arith, ih c (rw e at l)))
