-- At most half as many rows as links are split in the end: the split rows cross, so their first nodes rise up to the first row's second node, and
-- their second nodes rise from it.
use Prim.Native.Nat.{ℕ, suc, ◌+◌, ◌*◌, ◌≤◌, ◌<◌}
use mathlib.Core.List.{List, ◌∷◌}
use native.Mathlib.Omega.{arith}
use Rattle.ring.specs.Lists.{Each, none, more, Pairs, no_pair, and_pairs}
use Rattle.ring.specs.Demand.{OnRing}
use Rattle.ring.specs.declared.types.Sent.{Sent}
use Rattle.ring.specs.Routing.{Split}
use Rattle.ring.specs.Rules.{Staggered}
use Rattle.best.specs.Best.{splits}
use Rattle.ring.proofs.Lists.{each, each_both, pairs-both}
use Rattle.ring.proofs.Splits.{Splitting, split, whole, splitting}

module _ (node : Sent → ℕ) where
  -- split rows whose nodes rise, from x and below y
  Rises : Sent → Sent → Type 0
  Rises a b = Split a → Split b → node a < node b

  Between : ℕ → ℕ → Sent → Type 0
  Between x y s = Split s → (x ≤ node s) × (node s < y)

  few : (x y : ℕ) → x ≤ y → {ss : List Sent} → Pairs Rises ss → Each (Between x y) ss → x + splits ss ≤ y
  unfolding Rises Between splits
  few x y l no_pair none = omega arith
  few x y l (and_pairs {a = a} {l = ss} e p) (more b bs) = go (splitting a) (few x y l p bs) (λ f k. few (suc (node a)) y k p f)
    where
      go : Splitting a → x + splits ss ≤ y → (Each (Between (suc (node a)) y) ss → suc (node a) ≤ y → suc (node a) + splits ss ≤ y) → x + splits (a ∷ ss) ≤ y
      go (whole n t) rest on = rw t rest
      go (split q t) rest on =
          let f = on (each_both (λ s r c q'. (r q q', (c q').1)) e bs) (b q).1 in
          rw t (omega (arith, (b q).0, f))

pub few-splits : (n : ℕ) {ss : List Sent} → Each (λ s. OnRing n s.demand) ss → Pairs Staggered ss → 2 * splits ss ≤ n
unfolding Rises Between splits
few-splits n none no_pair = omega arith
few-splits n (more {a = a} {l = ss} on ons) (and_pairs e p) = go (splitting a) (few-splits n ons p)
  where
    go : Splitting a → 2 * splits ss ≤ n → 2 * splits (a ∷ ss) ≤ n
    go (whole n t) rest = rw t rest
    go (split q t) rest =
        let begins = few (λ s. s.demand.first) (suc a.demand.first) a.demand.second on.order (pairs-both (λ a b s r q q'. (s q q').begins) p p) (each (λ b s q'. ((s q q').begins, (s q q').meets)) e) in
        let ends = few (λ s. s.demand.second) (suc a.demand.second) (suc n) (omega (arith, on.high)) (pairs-both (λ a b s r q q'. (s q q').ends) p p) (each_both (λ b s o q'. ((s q q').ends, omega (arith, o.high))) e ons) in
        rw t (omega (arith, on.low))
