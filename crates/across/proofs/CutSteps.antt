-- Rule A's two loops end with the largest cut: where they stand, the scan of what is left from the best so far is the scan of all. Over any
-- across number; and two that agree on the pairs of the ring have the same largest cut.
use Rattle.std.proofs.Common.{◌≡◌, ℕ, zero, suc, ◌+◌, ◌-◌, ◌<◌, ◌≤◌, refl, ap, ◌∙◌, arith, le-ltb, lt-ltb}
use Rattle.ring.specs.declared.types.Cut.{Cut}
use Rattle.ring.specs.RuleA.{cut_at, better, scan_seconds, scan_firsts, largest_cut}
use Rattle.ring.proofs.LargestCut.{largest-cut}
use Rattle.across.specs.Lines.{Pairwise}

abbrev cut : ℕ → ℕ → ℕ → Cut
cut a b m = record { g = a; h = b; across = m }

-- a, b, m are the best so far; the first links before g are done
pub record Firsts (number : ℕ → ℕ → ℕ) (n a b m g : ℕ) : Type 0 where
  pub low : 1 ≤ g
  pub high : g ≤ n
  pub left : scan_firsts number g (n - g) (cut a b m) ≡ largest_cut number n

-- and of g's own, the second links before h
pub record Seconds (number : ℕ → ℕ → ℕ) (n a b m g h : ℕ) : Type 0 where
  pub low : 1 ≤ g
  pub first : g < n
  pub order : g < h
  pub high : h ≤ n + 1
  pub left : scan_firsts number (g + 1) (n - (g + 1)) (scan_seconds number g h ((n + 1) - h) (cut a b m)) ≡ largest_cut number n

module _ (number : ℕ → ℕ → ℕ) (n : ℕ) where
  pub cut-start : (x : ℕ) → 2 ≤ n → x ≡ number 1 2 → Firsts number n 1 2 x 1
  cut-start x two e = record { low = omega arith; high = omega arith; left = unfold largest_cut in rw e refl }

  pub cut-enter : (a b m g : ℕ) → g < n → Firsts number n a b m g → Seconds number n a b m g (g + 1)
  cut-enter a b m g l f = record { low = f.low; first = l; order = omega arith; high = omega arith; left = same ∙ f.left }
    where
      same : scan_firsts number (g + 1) (n - (g + 1)) (scan_seconds number g (g + 1) ((n + 1) - (g + 1)) (cut a b m)) ≡ scan_firsts number g (n - g) (cut a b m)
      same =
          let e : n - g ≡ suc (n - (g + 1)) = omega arith in
          let u : (n + 1) - (g + 1) ≡ suc (n - (g + 1)) = omega arith in
          let s : g + 1 ≡ suc g = omega arith in
          rw (e, u, s) (unfold scan_firsts in refl)

  module _ (a b m g h x : ℕ) (l : h ≤ n) (e : x ≡ number g h) (s : Seconds number n a b m g h) where
    turn : (c : Cut) → better (cut a b m) (cut_at number g h) ≡ c → scan_firsts number (g + 1) (n - (g + 1)) (scan_seconds number g (h + 1) ((n + 1) - (h + 1)) c) ≡ largest_cut number n
    turn c w = rw (← w) (ap (λ k. scan_firsts number (g + 1) (n - (g + 1)) k) same ∙ s.left)
      where
        same : scan_seconds number g (h + 1) ((n + 1) - (h + 1)) (better (cut a b m) (cut_at number g h)) ≡ scan_seconds number g h ((n + 1) - h) (cut a b m)
        same =
            let u : (n + 1) - h ≡ suc ((n + 1) - (h + 1)) = omega arith in
            let v : h + 1 ≡ suc h = omega arith in
            rw (u, v) (unfold scan_seconds in refl)

    -- a turn, with the values that its branch left
    pub cut-taken : (a' b' m' : ℕ) → m < x → a' ≡ g → b' ≡ h → m' ≡ x → Seconds number n a' b' m' g (h + 1)
    unfolding better
    cut-taken a' b' m' t p q r =
        rw (p, q, r)
        record { low = s.low; first = s.first; order = omega arith; high = omega arith; left = turn (cut g h x) (rw (← e, lt-ltb m x t)) }

    pub cut_left : (a' b' m' : ℕ) → x ≤ m → a' ≡ a → b' ≡ b → m' ≡ m → Seconds number n a' b' m' g (h + 1)
    unfolding better
    cut_left a' b' m' t p q r =
        rw (p, q, r)
        record { low = s.low; first = s.first; order = omega arith; high = omega arith; left = turn (cut a b m) (rw (← e, le-ltb m x t)) }

  pub cut-leave : (a b m g h : ℕ) → n < h → Seconds number n a b m g h → Firsts number n a b m (g + 1)
  cut-leave a b m g h l s = record { low = omega arith; high = omega arith; left = ap (λ k. scan_firsts number (g + 1) (n - (g + 1)) k) same ∙ s.left }
    where
      same : cut a b m ≡ scan_seconds number g h ((n + 1) - h) (cut a b m)
      same = let e : (n + 1) - h ≡ 0 = omega arith in rw e (unfold scan_seconds in refl)

  module _ (a b m g : ℕ) (l : n ≤ g) (f : Firsts number n a b m g) where
    all_seen : cut a b m ≡ largest_cut number n
    all_seen = let e : n - g ≡ 0 = omega arith in (rw e (unfold scan_firsts in refl)) ∙ f.left

    pub cut-done : record { g = a; h = b; across = m } ≡ (largest_cut number n)
    cut-done = all_seen

    -- both links are links of the ring
    pub cut-first-link : 2 ≤ n → a ≤ n
    cut-first-link two = let w = rw (← all_seen) at (largest-cut number n two).among in omega arith

    pub cut-second-link : 2 ≤ n → b ≤ n
    cut-second-link two = let w = rw (← all_seen) at (largest-cut number n two).among in omega arith

-- ---- across numbers that agree

module _ (n : ℕ) (p q : ℕ → ℕ → ℕ) (same : Pairwise n (λ g h. p g h ≡ q g h)) where
  same-seconds : (g h m : ℕ) (c : Cut) → 1 ≤ g → g < h → h + m ≤ n + 1 → scan_seconds p g h m c ≡ scan_seconds q g h m c
  unfolding scan_seconds
  same-seconds g h zero c a b d = refl
  same-seconds g h (suc m) c a b d = rw (same g h a b (omega arith)) (same-seconds g (suc h) m _ a (omega arith) (omega arith))

  same-firsts : (g m : ℕ) (c : Cut) → 1 ≤ g → g + m ≤ n → scan_firsts p g m c ≡ scan_firsts q g m c
  unfolding scan_firsts
  same-firsts g zero c a l = refl
  same-firsts g (suc m) c a l = rw (same-seconds g (suc g) (suc m) c a (omega arith) (omega arith)) (same-firsts (suc g) m _ (omega arith) (omega arith))

  pub same-cut : 2 ≤ n → largest_cut p n ≡ largest_cut q n
  unfolding largest_cut
  same-cut two = rw (same 1 2 (omega arith) (omega arith) two) (same-firsts 1 (n - 1) _ (omega arith) (omega arith))
