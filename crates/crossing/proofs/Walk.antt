-- The walk of Theorem 7.1 of Schrijver, Seymour and Winkler (Rules, papers) on whole numbers: from q at most E up by e, from above E down by e, so q stays within 0 and 2E. Started one higher
-- it ends one higher, or mirrored about E + 1/2; so a start q at most E is found from which it ends at 2E - q.
use Prim.Native.Nat.{ℕ, zero, suc, ◌+◌, ◌*◌, ◌-◌, ◌%◌, ◌≤◌, ◌<◌}
use mathlib.Core.Bool.{cond}
use mathlib.Core.List.{List, [], ◌∷◌}
use mathlib.Core.Logic.{◌⊎◌, inl, inr}
use mathlib.Core.Path.{◌≡◌, refl}
use native.Mathlib.Omega.{arith}
use native.Mathlib.Nat.{le_refl}
use native.Mathlib.Decide.{ℕ_discrete}
use lib.Dec.{leb}
use borrow.Author.Tests.{leb-true, leb-false}
use Rattle.ring.specs.Lists.{Each, none, more}
use Rattle.ring.proofs.Side.{cond-elim}

module _ (top : ℕ) where
  -- one step of e, and the end of a walk; the paper's 0 is at `top`
  unfoldable pub next : ℕ → ℕ → ℕ
  next q e = cond (leb q top) (q + e) (q - e)

  unfoldable pub end : ℕ → List ℕ → ℕ
  unfolding next
  end q [] = q
  end q (e ∷ es) = end (next q e) es

  pub data Next (q e : ℕ) : ℕ → Type 0 where
    up : q ≤ top → Next q e (q + e)
    down : top < q → Next q e (q - e)

  pub nexts : (q e : ℕ) → Next q e (next q e)
  unfolding next
  nexts q e = cond-elim (Next q e) (leb q top) (q + e) (q - e) (λ t. up (leb-true q top t)) (λ f. down (leb-false q top f))

  -- steps are even and at most `top`
  pub record Fit (e : ℕ) : Type 0 where
    pub most : e ≤ top
    pub even : e % 2 ≡ 0

  pub next-most : (q e : ℕ) → Fit e → q ≤ 2 * top → next q e ≤ 2 * top
  next-most q e f l = go (nexts q e)
    where
      go : {z : ℕ} → Next q e z → z ≤ 2 * top
      go (up h) = omega (arith, f.most)
      go (down h) = omega arith

  pub end-most : (q : ℕ) {es : List ℕ} → Each Fit es → q ≤ 2 * top → end q es ≤ 2 * top
  unfolding end
  end-most q none l = l
  end-most q (more {a = e} f fs) l = end-most (next q e) fs (next-most q e f l)

  end-even : (q : ℕ) {es : List ℕ} → Each Fit es → (end q es + q) % 2 ≡ 0
  unfolding end
  end-even q none = omega arith
  end-even q (more {a = e} f fs) = omega (arith, end-even (next q e) fs, one (nexts q e))
    where
      one : {z : ℕ} → Next q e z → (z + q) % 2 ≡ 0
      one (up h) = omega (arith, f.even)
      one (down h) = omega (arith, f.even, f.most)

  -- ---- one higher, or mirrored

  data Close (q p : ℕ) : Type 0 where
    higher : p ≡ q + 1 → Close q p
    mirrored : p + q ≡ 2 * top + 1 → Close q p

  close-next : (q p e : ℕ) → Fit e → Close q p → Close (next q e) (next p e)
  close-next q p e f c = go c (nexts q e) (nexts p e)
    where
      go : Close q p → {x y : ℕ} → Next q e x → Next p e y → Close x y
      go (higher h) (up l) (up m) = higher (omega arith)
      go (higher h) (up l) (down m) = mirrored (omega (arith, f.most))
      go (higher h) (down l) (up m) = absurd (omega arith)
      go (higher h) (down l) (down m) = higher (omega (arith, f.most))
      go (mirrored h) (up l) (up m) = absurd (omega arith)
      go (mirrored h) (up l) (down m) = mirrored (omega (arith, f.most))
      go (mirrored h) (down l) (up m) = mirrored (omega (arith, f.most))
      go (mirrored h) (down l) (down m) = absurd (omega arith)

  close-end : (q p : ℕ) {es : List ℕ} → Each Fit es → Close q p → Close (end q es) (end p es)
  unfolding end
  close-end q p none c = c
  close-end q p (more {a = e} f fs) c = close-end (next q e) (next p e) fs (close-next q p e f c)

  -- ---- a walk that ends at 0 had no steps: from q = top it ends there too

  ends-at-0 : (q : ℕ) {es : List ℕ} → Each Fit es → end q es ≡ 0 → (q ≡ 0) × Each (λ e. e ≡ 0) es
  unfolding end
  ends-at-0 q none z = (z, none)
  ends-at-0 q (more {a = e} {l = es} f fs) z =
      let rest = ends-at-0 (next q e) fs z in
      let both = one (nexts q e) rest.0 in
      (both.0, more both.1 rest.1)
    where
      one : {x : ℕ} → Next q e x → x ≡ 0 → (q ≡ 0) × (e ≡ 0)
      one (up h) z = (omega arith, omega arith)
      one (down h) z = absurd (omega (arith, f.most))

  no_steps : {es : List ℕ} → Each (λ e. e ≡ 0) es → end top es ≡ top
  unfolding end
  no_steps none = refl
  no_steps (more {a = e} {l = es} z zs) = let s : next top e ≡ top = one (nexts top e) in rw s (no_steps zs)
    where
      one : {x : ℕ} → Next top e x → x ≡ top
      one (up h) = omega arith
      one (down h) = omega arith

  -- ---- the start

  -- from q the walk ends as far above `top` as it began below
  pub record Start (es : List ℕ) : Type 0 where
    pub q : ℕ
    pub most : q ≤ top
    pub is : end q es + q ≡ 2 * top

  -- no start up to q, or q's own end lies between
  search-start : {es : List ℕ} → Each Fit es → (q : ℕ) → q ≤ top → Start es ⊎ ((q < end q es) × (end q es + q < 2 * top))
  search-start {es} fs zero l = go (ℕ_discrete (end 0 es) 0) (ℕ_discrete (end 0 es) (2 * top))
    where
      go : Dec (end 0 es ≡ 0) → Dec (end 0 es ≡ 2 * top) → Start es ⊎ ((0 < end 0 es) × (end 0 es + 0 < 2 * top))
      go (yes z) d = inl (record { q = top; most = le_refl top; is = omega (arith, no_steps (ends-at-0 0 fs z).1) })
      go (no z) (yes e) = inl (record { q = 0; most = l; is = omega arith })
      go (no z) (no e) = inr (omega arith, omega (arith, end-most 0 fs (omega arith)))
  search-start {es} fs (suc q) l = go (search-start fs q (omega arith)) (close-end q (suc q) fs (higher (omega arith))) (ℕ_discrete (end (suc q) es + suc q) (2 * top))
    where
      go : Start es ⊎ ((q < end q es) × (end q es + q < 2 * top)) → Close (end q es) (end (suc q) es) → Dec (end (suc q) es + suc q ≡ 2 * top)
          → Start es ⊎ ((suc q < end (suc q) es) × (end (suc q) es + suc q < 2 * top))
      go (inl s) c d = inl s
      go (inr h) c (yes e) = inl (record { q = suc q; most = l; is = e })
      go (inr h) (higher e) (no n) = inr (omega (arith, h.0, h.1), omega (arith, h.0, h.1, end-even q fs))
      go (inr h) (mirrored e) (no n) = inr (omega (arith, h.0, h.1, end-even q fs), omega (arith, h.0, h.1, end-even q fs))

  pub start : {es : List ℕ} → Each Fit es → Start es
  start {es} fs = go (search-start fs top (le_refl top))
    where
      go : Start es ⊎ ((top < end top es) × (end top es + top < 2 * top)) → Start es
      go (inl s) = s
      go (inr h) = absurd (omega (arith, h.0, h.1))
