-- Of a rising list the first size that is enough is the smallest that is, since every later one is above it: by recursion over the list.
use Prim.Native.Nat.{ℕ, ◌≤◌, ◌<◌, max}
use mathlib.Core.Bool.{Bool, true, false, cond, and-eq-true_iff}
use mathlib.Core.List.Memᴰ
use mathlib.Core.List.{List, [], ◌∷◌, Memᴰ}
use mathlib.Core.Logic.{◌⊎◌, inl, inr, ◌↔◌}
use mathlib.Core.Path.{◌≡◌, refl}
use native.Mathlib.Omega.{arith}
use native.Mathlib.Decide.{dec_le}
use lib.Dec.{leb, ltb}
use borrow.Author.Tests.{ltb-true, le-leb, lt-leb}
use Rattle.family.specs.Size.{smallest_in, rises_above, rises, Smallest, Answers}
use Rattle.family.specs.declared.family.Family.{Family}
use Rattle.family.specs.declared.family.Family.TheVariants.{Sonet, Sdh}
use Rattle.family.specs.Sizes.{sizes_of, Known, family_of, family_number}

above-all : (s : ℕ) (ss : List ℕ) → rises_above s ss ≡ true → (t : ℕ) → Memᴰ t ss → s < t
above-all s [] e t m = absurd (Memᴰ.not-nil m)
above-all s (x ∷ xs) e t m = go ((and-eq-true_iff (ltb s x) (rises_above x xs)).0 e) (λ r n. above-all x xs r t n) (Memᴰ.cases_cons m)
  where
    go : (ltb s x ≡ true) × (rises_above x xs ≡ true) → (rises_above x xs ≡ true → Memᴰ t xs → x < t) → (t ≡ x) ⊎ Memᴰ t xs → s < t
    go h later (inl q) = omega (arith, ltb-true s x h.0)
    go h later (inr n) = omega (arith, ltb-true s x h.0, later h.1 n)

-- a list that rises above its first size rises
tail-rises : (s : ℕ) (ss : List ℕ) → rises_above s ss ≡ true → rises ss ≡ true
tail-rises s [] e = refl
tail-rises s (x ∷ xs) e = ((and-eq-true_iff (ltb s x) (rises_above x xs)).0 e).1

pub smallest-is : (sizes : List ℕ) → rises sizes ≡ true → (peak : ℕ) → Answers sizes peak (smallest_in sizes peak)
unfolding smallest_in
smallest-is [] e peak = inr (record { zero = refl; short = λ s m. absurd (Memᴰ.not-nil m) })
smallest-is (x ∷ xs) e peak = go (dec_le peak x) (smallest-is xs (tail-rises x xs e) peak)
  where
    taken : peak ≤ x → Smallest (x ∷ xs) peak x
    taken l = record { listed = Memᴰ.head refl; enough = l; least = λ s m _. least s (Memᴰ.cases_cons m) }
      where
        least : (s : ℕ) → (s ≡ x) ⊎ Memᴰ s xs → x ≤ s
        least s (inl q) = omega arith
        least s (inr n) = omega (arith, above-all x xs e s n)

    passed : x < peak → Answers xs peak (smallest_in xs peak) →
        Answers (x ∷ xs) peak (smallest_in xs peak)
    passed l (inl a) = inl (record { listed = Memᴰ.tail a.listed; enough = a.enough; least = λ s m h. least s h (Memᴰ.cases_cons m) })
      where
        least : (s : ℕ) → peak ≤ s → (s ≡ x) ⊎ Memᴰ s xs → smallest_in xs peak ≤ s
        least s h (inl q) = absurd (omega arith)
        least s h (inr n) = a.least s n h
    passed l (inr a) = inr (record { zero = a.zero; short = λ s m. short s (Memᴰ.cases_cons m) })
      where
        short : (s : ℕ) → (s ≡ x) ⊎ Memᴰ s xs → s < peak
        short s (inl q) = omega arith
        short s (inr n) = a.short s n

    go : Dec (peak ≤ x) → Answers xs peak (smallest_in xs peak) →
        Answers (x ∷ xs) peak (smallest_in (x ∷ xs) peak)
    go (yes l) a = rw (le-leb peak x l) (inl (taken l))
    go (no l) a = let h : x < peak = omega arith in rw (lt-leb peak x h) (passed h a)

-- so what is scanned from the sizes of a family
pub scanned-is : {sizes scanned : List ℕ} {peak size : ℕ} → rises sizes ≡ true → scanned ≡ sizes → size ≡ smallest_in scanned peak → Answers sizes peak size
scanned-is {sizes} {scanned} {peak} r e f = rw (f, e) (smallest-is sizes r peak)

-- there is one answer: of two sizes that are listed and enough each is at most the other, and where none fits nothing listed is enough
pub one-answer : {sizes : List ℕ} {peak a b : ℕ} → Answers sizes peak a → Answers sizes peak b → a ≡ b
one-answer {a = a} {b = b} (inl x) (inl y) = omega (arith, x.least b y.listed y.enough, y.least a x.listed x.enough)
one-answer {a = a} (inl x) (inr y) = absurd (omega (arith, y.short a x.listed, x.enough))
one-answer {b = b} (inr x) (inl y) = absurd (omega (arith, x.short b y.listed, y.enough))
one-answer (inr x) (inr y) = omega (arith, x.zero, y.zero)

-- the sizes of each family rise
pub family-rises : (family : Family) → rises (sizes_of family) ≡ true
family-rises Sonet = refl
family-rises Sdh = refl

-- so each answers a peak with its smallest size that is enough, and with no other number
pub family-smallest : (family : Family) (peak size : ℕ) → (size ≡ smallest_in (sizes_of family) peak) ↔ Answers (sizes_of family) peak size
family-smallest family peak size = (λ e. rw e is, λ a. one-answer a is)
  where
    is : Answers (sizes_of family) peak (smallest_in (sizes_of family) peak)
    is = smallest-is (sizes_of family) (family-rises family) peak

-- where the mark may stand there is each family
pub known-always : (family : Family) → Known true family
known-always Sonet = tt
known-always Sdh = refl

-- whether it is known
pub data Knows (marks : Bool) (family : Family) : Type 0 where
  is_known : Known marks family → Knows marks family
  not_known : marks ≡ false → family ≡ Sdh → Knows marks family

pub knows : (marks : Bool) (family : Family) → Knows marks family
knows marks Sonet = is_known tt
knows true Sdh = is_known refl
knows false Sdh = not_known refl refl

-- a family is had again from its number
pub family-again : (family : Family) → family_of (family_number family) ≡ family
family-again Sonet = refl
family-again Sdh = refl

-- ---- no size is above the largest of the list

unfoldable pub largest_of : List ℕ → ℕ
largest_of [] = 0
largest_of (s ∷ ss) = max s (largest_of ss)

pub smallest-small : (sizes : List ℕ) (peak : ℕ) → smallest_in sizes peak ≤ largest_of sizes
unfolding smallest_in largest_of
smallest-small [] peak = omega arith
smallest-small (s ∷ ss) peak = go (leb peak s) (smallest-small ss peak)
  where
    go : (t : Bool) → smallest_in ss peak ≤ largest_of ss → cond t s (smallest_in ss peak) ≤ max s (largest_of ss)
    go true h = omega arith
    go false h = omega arith
