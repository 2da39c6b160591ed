-- The lowered rooms, turn by turn: a link's turn changes no other link, so that each ends as the largest of its differences by the final rooms of the links before it.
use Prim.Native.Nat.{max, ℕ, zero, suc, ◌+◌, ◌*◌, ◌-◌, ◌≤◌, ◌<◌}
use mathlib.Core.Bool.{cond}
use lib.Dec.{eqb}
use mathlib.Core.Path.{ap₂, ◌≡◌, refl, sym, ◌∙◌, ap}
use native.Mathlib.Omega.{arith}
use borrow.Author.Tests.{eq-eqb, ne_eqb}
use Rattle.ring.specs.Routing.{peak}
use Rattle.ring.specs.RuleB.{Room}
use Rattle.engines.specs.Lowering.{lowest_room, lower_to}
use Rattle.ring.proofs.Peaks.{same-peak}

module _ (number : ℕ → ℕ → ℕ) (m n : ℕ) where
  abbrev after : ℕ → Room
  after g = lower_to number m n g

  -- a link that has not had its turn has M
  not_yet : (g k : ℕ) → g < k → after g k ≡ m
  unfolding lower_to
  not_yet zero k l = refl
  not_yet (suc g) k l = rw (ne_eqb k (suc g) (λ e. omega arith)) (not_yet g k (omega arith))

  -- one that has had it keeps its room
  stays : (k d : ℕ) → after (k + d) k ≡ after k k
  unfolding lower_to
  stays k zero = let e : k + 0 ≡ k = omega arith in rw e
  stays k (suc d) = let e : k + suc d ≡ suc (k + d) = omega arith in rw (e, ne_eqb k (suc (k + d)) (λ z. omega arith)) (stays k d)

  ends : (g k : ℕ) → k ≤ g → g ≤ n → after g k ≡ after n k
  ends g k l h =
      let e : k + (g - k) ≡ g = omega arith in
      let f : k + (n - k) ≡ n = omega arith in
      (rw e at (stays k (g - k))) ∙ sym (rw f at (stays k (n - k)))

  pub room-is : (g : ℕ) → 1 ≤ g → g ≤ n → after n g ≡ lowest_room number m n (after n) g
  unfolding lowest_room lower_to
  room-is zero l h = absurd (omega arith)
  room-is (suc g) l h = sym (ends (suc g) (suc g) (omega arith) h) ∙ rw (eq-eqb (suc g) (suc g) refl) turn
    where
      turn : lowest_room number m n (after g) (suc g) ≡ lowest_room number m n (after n) (suc g)
      turn =
          let e : peak (λ h. 2 * number h (suc g) - after g h) (suc g - 1) ≡ peak (λ h. 2 * number h (suc g) - after n h) (suc g - 1) =
          same-peak _ _ (suc g - 1) (λ k a b. ap (λ x. 2 * number k (suc g) - x) (ends g k (omega arith) (omega arith))) in
          rw e

-- ---- across numbers that agree on pairs of links of the ring lower rooms alike

module _ (p q : ℕ → ℕ → ℕ) (m n : ℕ) (same : (g h : ℕ) → 1 ≤ g → g < h → h ≤ n → p g h ≡ q g h) where
  pub same-turn : (A B : Room) (g : ℕ) → ((k : ℕ) → 1 ≤ k → k < g → A k ≡ B k) → 1 ≤ g → g ≤ n → lowest_room p m n A g ≡ lowest_room q m n B g
  unfolding lowest_room
  same-turn A B g rooms low high =
      ap₂ max
      (same-peak (λ h. 2 * p h g - A h) (λ h. 2 * q h g - B h) (g - 1) (λ h a b. omega (arith, rooms h a (omega arith), same h g a (omega arith) high)))
      (same-peak (λ x. 2 * p g (g + x) - m) (λ x. 2 * q g (g + x) - m) (n - g) (λ x a b. omega (arith, same g (g + x) low (omega arith) (omega arith))))

  pub same-lowering : (g : ℕ) → g ≤ n → (k : ℕ) → lower_to p m n g k ≡ lower_to q m n g k
  unfolding lower_to
  same-lowering zero l k = refl
  same-lowering (suc g) l k =
      ap₂ (cond (eqb k (suc g)))
      (same-turn (lower_to p m n g) (lower_to q m n g) (suc g) (λ k a b. same-lowering g (omega arith) k) (omega arith) l) (same-lowering g (omega arith) k)
