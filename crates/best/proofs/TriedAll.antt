-- The recursion over the rows makes all choices in rising order.
use Rattle.std.proofs.Common.{◌≡◌, ℕ, zero, suc, ◌+◌, ◌-◌, ◌*◌, ◌^◌, ◌≤◌, ◌<◌, Bool, true, false, cond, List, [], ◌∷◌, length, refl, sym, ap, ap₂, ◌∙◌, arith}
use native.Mathlib.Nat.{pow-suc, one-le-pow}
use borrow.Author.Tests.{lt-ltb, le-ltb}
use Rattle.ring.specs.declared.types.Demand.{Demand}
use Rattle.ring.specs.Demand.{in_front}
use Rattle.ring.specs.Routing.{peak}
use Rattle.best.specs.declared.tries.Tried.{Tried}
use Rattle.best.specs.Tries.{better_of, back_over, tried_in}
use Rattle.best.specs.Choices.{choice_load, best_over}
use Rattle.ring.proofs.Peaks.{same-peak}

-- ---- the best of many

over-split : (f : ℕ → Tried) (a m p : ℕ) (b : Tried) → best_over f a (m + p) b ≡ best_over f (a + m) p (best_over f a m b)
unfolding best_over
over-split f a zero p b = let e : 0 + p ≡ p = omega arith in let g : a + 0 ≡ a = omega arith in rw (e, g) refl
over-split f a (suc m) p b =
    let e : suc m + p ≡ suc (m + p) = omega arith in
    let g : a + suc m ≡ suc a + m = omega arith in
    rw (e, g) (over-split f (suc a) m p (better_of b (f a)))

pub over-same : (f g : ℕ → Tried) (a z m : ℕ) (b : Tried) → ((d : ℕ) → d < m → f (a + d) ≡ g (z + d)) → best_over f a m b ≡ best_over g z m b
unfolding best_over
over-same f g a z zero b h = refl
over-same f g a z (suc m) b h =
    let e : a + 0 ≡ a = omega arith in
    let i : z + 0 ≡ z = omega arith in
    let here : f a ≡ g z = rw (e, i) at (h 0 (omega arith)) in
    ap (λ x. best_over f (suc a) m (better_of b x)) here
    ∙ over-same f g (suc a) (suc z) m (better_of b (g z)) (λ d l.
    let p : a + suc d ≡ suc a + d = omega arith in
    let q : z + suc d ≡ suc z + d = omega arith in
    rw (p, q) at (h (suc d) (omega arith)))

-- ---- choices for rows behind one for the rows before them

module _ (n : ℕ) where
  abbrev made : (ℕ → ℕ) → List Demand → ℕ → ℕ → Tried
  made base rs c d = record { peak = peak (λ k. base k + choice_load rs d k) n; choice = c * 2 ^ length rs + d }

  module _ (base : ℕ → ℕ) (r : Demand) (rs : List Demand) (c : ℕ) where
    abbrev bit : ℕ
    bit = 2 ^ length rs

    twice : 2 ^ length (r ∷ rs) ≡ bit * 2
    twice = pow-suc 2 (length rs)

    abbrev in_front_of : ℕ → ℕ
    in_front_of k = base k + cond (in_front r k) r.amount 0

    abbrev behind : ℕ → ℕ
    behind k = base k + cond (in_front r k) 0 r.amount

    front-made : (d : ℕ) → d < bit → made base (r ∷ rs) c d ≡ made in_front_of rs (2 * c) d
    unfolding choice_load
    front-made d l =
        let t = lt-ltb d bit l in
        let same = same-peak (λ k. base k + choice_load (r ∷ rs) d k) (λ k. in_front_of k + choice_load rs d k) n (λ k a b. rw t (omega arith)) in
        let number : c * 2 ^ length (r ∷ rs) + d ≡ (2 * c) * bit + d = omega (arith, ap (λ x. c * x) twice) in
        rw (same, number) refl

    back-made : (d : ℕ) → d < bit → made base (r ∷ rs) c (bit + d) ≡ made behind rs (2 * c + 1) d
    unfolding choice_load
    back-made d l =
        let t = le-ltb (bit + d) bit (omega arith) in
        let z : bit + d - bit ≡ d = omega arith in
        let same = same-peak (λ k. base k + choice_load (r ∷ rs) (bit + d) k) (λ k. behind k + choice_load rs d k) n (λ k a b. rw (t, z) (omega arith)) in
        let number : c * 2 ^ length (r ∷ rs) + (bit + d) ≡ (2 * c + 1) * bit + d = omega (arith, ap (λ x. c * x) twice) in
        rw (same, number) refl

  pub tried-all : (base load : ℕ → ℕ) (rs : List Demand) (c : ℕ) (b : Tried) → ((k : ℕ) → 1 ≤ k → k ≤ n → load k ≡ base k + choice_load rs 0 k)
      → tried_in n load rs c b ≡ best_over (made base rs c) 0 (2 ^ length rs) b
  unfolding tried_in choice_load best_over back_over
  tried-all base load [] c b h =
      let same = same-peak load (λ k. base k + 0) n h in
      let number : c ≡ c * 2 ^ 0 + 0 = omega arith in
      ap₂ (λ p c. better_of b (record { peak = p; choice = c })) same number
  tried-all base load (r ∷ rs) c b h =
      let e : 2 ^ length (r ∷ rs) ≡ bit base r rs c + bit base r rs c = omega (arith, twice base r rs c) in
      rw e
      (ap (λ x. tried_in n (back_over r load) rs (2 * c + 1) x) (tried-all (in_front_of base r rs c) load rs (2 * c) b front)
      ∙ tried-all (behind base r rs c) (back_over r load) rs (2 * c + 1) (best_over (made (in_front_of base r rs c) rs (2 * c)) 0 (bit base r rs c) b) back
      ∙ sym (over-split (made base (r ∷ rs) c) 0 (bit base r rs c) (bit base r rs c) b
      ∙ ap (best_over (made base (r ∷ rs) c) (0 + bit base r rs c) (bit base r rs c)) (over-same _ _ 0 0 (bit base r rs c) b (λ d l. let z : 0 + d ≡ d = omega arith in rw z (front-made base r rs c d l)))
      ∙ over-same _ _ (0 + bit base r rs c) 0 (bit base r rs c) _ (λ d l. let z : 0 + d ≡ d = omega arith in let y : 0 + bit base r rs c ≡ bit base r rs c = omega arith in rw (y, z) (back-made base r rs c d l))))
    where
      one : 1 ≤ 2 ^ length rs
      one = one-le-pow (length rs) 2 (omega arith)

      all : (k : ℕ) → 1 ≤ k → k ≤ n → load k ≡ base k + (cond (in_front r k) r.amount 0 + choice_load rs 0 k)
      all k a l = let t = lt-ltb 0 (2 ^ length rs) (omega (arith, one)) in rw t at (h k a l)

      front : (k : ℕ) → 1 ≤ k → k ≤ n → load k ≡ in_front_of base r rs c k + choice_load rs 0 k
      front k a l = omega (arith, all k a l)

      back : (k : ℕ) → 1 ≤ k → k ≤ n → back_over r load k ≡ behind base r rs c k + choice_load rs 0 k
      back k a l = go (in_front r k) (all k a l)
        where
          go : (f : Bool) → load k ≡ base k + (cond f r.amount 0 + choice_load rs 0 k) → cond f (load k - r.amount) (load k + r.amount) ≡ base k + cond f 0 r.amount + choice_load rs 0 k
          go true e = omega (arith, e)
          go false e = omega (arith, e)
