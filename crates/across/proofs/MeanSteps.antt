-- The loops that take pairs' numbers from means: those of the pairs passed are, and all others are as they were, own numbers among them.
use Rattle.std.proofs.Common.{◌≡◌, ℕ, ◌+◌, ◌-◌, ◌*◌, ◌<◌, ◌≤◌, List, length, refl, arith}
use Rattle.ring.specs.Limits.{desk}
use Rattle.across.specs.Triangle.{at}
use Rattle.across.specs.Lines.{PutAt, Holds}
use Rattle.across.specs.Cells.{cell, from_mean, FromMeans}
use Rattle.across.proofs.LineSteps.{seen-so, one-more}

-- the pairs of two links before position 66 (h + 1) + g
abbrev pub Meant : (h g : ℕ) → ℕ → ℕ → Type 0
Meant h g x y = (x + 1 < y) × (66 * y + x < 66 * (h + 1) + g)

abbrev pub Meaning : (old : List ℕ) (h g : ℕ) (now : List ℕ) → Type 0
Meaning old h g now = Holds (Meant h g) (λ x y. from_mean (cell old x x) (cell old (y - 1) (y - 1)) (at old x y)) (at old) (length old) now

module _ (old : List ℕ) where
  pub mean_start : Meaning old 1 0 old
  mean_start = record { size = refl; within = λ x y a b c r. absurd (omega (arith, r.0, r.1)); outside = λ x y a b c o. refl }

  module _ (now : List ℕ) (h g : ℕ) (high : h ≤ desk.nodes) (s : Meaning old h g now) where
    pub own-stays : (k : ℕ) → 1 ≤ k → k ≤ desk.nodes → cell now k k ≡ cell old k k
    own-stays k a b = s.outside k (k + 1) a (omega arith) (omega arith) (λ r. omega (arith, r.0))

    pub mean-enter : g ≡ 0 → Meaning old h 1 now
    mean-enter e = seen-so s (λ x y a b c r. (r.0, omega (arith, r.1))) (λ x y a b c r. (r.0, omega (arith, r.1)))

    pub mean-turn : (own one number : ℕ) (new : List ℕ) → own ≡ cell old h h → one ≡ cell now g g → number ≡ cell now g h → 1 ≤ g → g < h → PutAt g (h + 1) (from_mean one own number) now new → Meaning old h (g + 1) new
    mean-turn own one number new eo eg en a b p =
        let back : (h + 1) - 1 ≡ h = omega arith in
        let was : cell now g h ≡ cell old g h = s.outside g (h + 1) a (omega arith) (omega arith) (λ r. omega (arith, r.1)) in
        one-more s g (h + 1) _ new (omega arith) (omega arith) p (rw (back, eo, eg, en, own-stays g a (omega arith), was))
        (λ x y c d k r. (r.0.0, omega (arith, r.0.1, r.1))) (λ x y c d k r. (r.0, omega (arith, r.1))) (omega arith, omega arith)

    pub mean-leave : h ≤ g → g ≤ h → Meaning old (h + 1) 0 now
    mean-leave a b = seen-so s (λ x y c d k r. (r.0, omega (arith, r.0, r.1))) (λ x y c d k r. (r.0, omega (arith, r.1)))

  pub mean-done : (n : ℕ) (now : List ℕ) (h : ℕ) → n ≤ desk.nodes → n + 1 ≤ h → Meaning old h 0 now → FromMeans n old now
  mean-done n now h few l s =
      record {
        size = s.size;
        own = λ k a b. s.outside k (k + 1) a (omega arith) (omega arith) (λ r. omega (arith, r.0));
        pairs = λ g k a b c. let back : (k + 1) - 1 ≡ k = omega arith in rw back at (s.within g (k + 1) a (omega arith) (omega arith) (omega arith, omega arith));
      }

pub ruleset mean_laws = (mean_start, own-stays, mean-enter, mean-turn, mean-leave, mean-done)
