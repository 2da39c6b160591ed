-- The largest load of a run of links, link after link; and the largest load off a path, which is that of one run, or of two.
use Rattle.std.proofs.Common.{◌≡◌, ℕ, suc, ◌+◌, ◌-◌, ◌≤◌, ◌<◌, max, cond, not, List, length, get_or, sym, ◌∙◌, arith, leb, le-leb}
use native.Mathlib.Decide.{dec_le, ℕ_discrete}
use borrow.Author.Tests.{lt-leb}
use Rattle.ring.specs.declared.types.Demand.{Demand}
use Rattle.ring.specs.declared.types.Routed.{Routed}
use Rattle.ring.specs.declared.types.Way.TheVariants.{Front, Back}
use Rattle.ring.specs.Demand.{in_front, OnRing}
use Rattle.ring.specs.Routing.{peak}
use Rattle.ring.proofs.Side.{before, within, after, side}
use Rattle.ring.proofs.Peaks.{peak-above, peak-least}
use Rattle.weight.specs.LinkSteps.{link_at}
use Rattle.turns.specs.declared.loads.Loads.TheInside.{Inside}
use Rattle.turns.specs.Choosing.{off_top, span_top}
use Rattle.turns.specs.Loads.{loads_in, Figured}
use Rattle.turns.proofs.LoadsSteps.{links_are}

-- ---- a run's largest load

module _ (load : ℕ → ℕ) (g : ℕ) where
  span-above : (h k : ℕ) → 1 ≤ k → g ≤ k → k ≤ h → load k ≤ span_top load g h
  unfolding span_top
  span-above h k a b c = let p = peak-above (λ x. cond (leb g x) (load x) 0) h k a c in rw (le-leb g k b) at p

  span-least : (h top : ℕ) → ((k : ℕ) → 1 ≤ k → g ≤ k → k ≤ h → load k ≤ top) → span_top load g h ≤ top
  unfolding span_top
  span-least h top f = peak-least (λ x. cond (leb g x) (load x) 0) h top (λ k a b. elim (dec_le g k) [ yes l ↦ rw (le-leb g k l) (f k a l b) | no l ↦ rw (lt-leb g k (omega arith)) (omega arith) ])

  span-none : (h : ℕ) → h < g → span_top load g h ≡ 0
  span-none h l = omega (arith, span-least h 0 (λ k a b c. absurd (omega arith)))

  span-next : (h : ℕ) → g ≤ suc h → span_top load g (suc h) ≡ max (span_top load g h) (load (suc h))
  span-next h a =
      omega (
        arith,
        span-above (suc h) (suc h) (omega arith) a (omega arith),
        span-least h (span_top load g (suc h)) (λ k p q s. span-above (suc h) k p q (omega arith)),
        span-least (suc h) (max (span_top load g h) (load (suc h))) (λ k p q s. elim (ℕ_discrete k (suc h)) [ yes e ↦ rw e (omega arith) | no e ↦ omega (arith, span-above h k p q (omega arith)) ]),
      )

-- ---- link after link

module _ (loads : List ℕ) (p : ℕ) where
  pub top_start : 0 ≡ span_top (link_at loads) (suc p) (p + 0)
  top_start = omega (arith, span-none (link_at loads) (suc p) (p + 0) (omega arith))

  pub top_turn : (k most load z : ℕ) → most ≡ span_top (link_at loads) (suc p) (p + k) → load ≡ get_or loads (p + k) 0 → z ≡ max most load → z ≡ span_top (link_at loads) (suc p) (p + (k + 1))
  top_turn k most load z o e f =
      let a : p + (k + 1) ≡ suc (p + k) = omega arith in
      let b : suc (p + k) - 1 ≡ p + k = omega arith in
      rw a (f ∙ (rw (o, e) (sym (rw b at (span-next (link_at loads) (suc p) (p + k) (omega arith))))))

  pub top_done : (q k most : ℕ) → p + k ≡ q → most ≡ span_top (link_at loads) (suc p) (p + k) → most ≡ span_top (link_at loads) (suc p) q
  top_done q k most e o = rw e at o

-- ---- off a path

module _ (load : ℕ → ℕ) (n : ℕ) (r : Demand) (on : OnRing n r) where
  -- the marks of its nodes
  abbrev from : ℕ
  from = r.first - 1

  abbrev to : ℕ
  to = r.second - 1

  -- off the back: the front
  off-back : peak (λ k. cond (not (in_front r k)) 0 (load k)) n ≡ span_top load (suc from) to
  off-back =
      omega (
        arith,
        peak-least (λ k. cond (not (in_front r k)) 0 (load k)) n (span_top load (suc from) to) (λ k a b. elim (side r k) [
          | before l e ↦ rw e (omega arith)
          | within l m e ↦ rw e (span-above load (suc from) to k a (omega arith) (omega arith))
          | after l e ↦ rw e (omega arith)
        ]),
        span-least load (suc from) to (peak (λ k. cond (not (in_front r k)) 0 (load k)) n) (λ k a b c. elim (side r k) [
          | before l e ↦ absurd (omega (arith, on.low))
          | within l m e ↦ let p = peak-above (λ k. cond (not (in_front r k)) 0 (load k)) n k a (omega (arith, on.high)) in rw e at p
          | after l e ↦ absurd (omega (arith, on.order))
        ]),
      )

  -- off the front: the links before it and the links behind it
  off-front : peak (λ k. cond (in_front r k) 0 (load k)) n ≡ max (span_top load 1 from) (span_top load (suc to) n)
  off-front =
      omega (
        arith,
        peak-least (λ k. cond (in_front r k) 0 (load k)) n (max (span_top load 1 from) (span_top load (suc to) n)) (λ k a b. elim (side r k) [
          | before l e ↦ rw e (omega (arith, span-above load 1 from k a a (omega arith)))
          | within l m e ↦ rw e (omega arith)
          | after l e ↦ rw e (omega (arith, span-above load (suc to) n k a (omega (arith, on.order)) b))
        ]),
        span-least load 1 from (peak (λ k. cond (in_front r k) 0 (load k)) n) (λ k a b c. elim (side r k) [
          | before l e ↦ let p = peak-above (λ k. cond (in_front r k) 0 (load k)) n k a (omega (arith, on.order, on.high)) in rw e at p
          | within l m e ↦ absurd (omega (arith, on.low))
          | after l e ↦ absurd (omega (arith, on.low, on.order))
        ]),
        span-least load (suc to) n (peak (λ k. cond (in_front r k) 0 (load k)) n) (λ k a b c. elim (side r k) [
          | before l e ↦ absurd (omega (arith, on.order))
          | within l m e ↦ absurd (omega arith)
          | after l e ↦ let p = peak-above (λ k. cond (in_front r k) 0 (load k)) n k a c in rw e at p
        ]),
      )

module _ (s : Inside) (now : List ℕ) (is : loads_in s ≡ now) (all : Figured s) (r : Routed) (on : OnRing (length now) r.sent.demand) where
  abbrev n : ℕ
  n = length now

  -- the marks of its nodes
  abbrev first : ℕ
  first = r.sent.demand.first - 1

  abbrev second : ℕ
  second = r.sent.demand.second - 1

  abbrev top : ℕ → ℕ → ℕ
  top p q = span_top (link_at now) (suc p) q

  pub off_two : (x y z : ℕ) → r.way ≡ Front → x ≡ top 0 first → y ≡ top second s.links → z ≡ max x y → z ≡ off_top n (link_at now) r
  unfolding off_top
  off_two x y z w a b c = rw w (omega (arith, off-front (link_at now) n r.sent.demand on, rw (links_are s now is all) at b))

  pub off_one : (x : ℕ) → r.way ≡ Back → x ≡ top first second → x ≡ off_top n (link_at now) r
  unfolding off_top
  off_one x w a = rw w (omega (arith, off-back (link_at now) n r.sent.demand on))

-- ---- the peak

whole-span : (load : ℕ → ℕ) (n : ℕ) → span_top load 1 n ≡ peak load n
whole-span load n = omega (arith, span-least load 1 n (peak load n) (λ k a b c. peak-above load n k a c), peak-least load n (span_top load 1 n) (λ k a b. span-above load 1 n k a a b))

pub peak_is : (s : Inside) (now : List ℕ) (x : ℕ) → loads_in s ≡ now → Figured s → x ≡ span_top (link_at now) 1 s.links → x ≡ peak (link_at now) (length now)
peak_is s now x is all e = rw (links_are s now is all) at e ∙ whole-span (link_at now) (length now)

-- ---- the laws of each function

pub ruleset top_laws = (top_start, top_turn, top_done)

pub ruleset off_laws = (off_two, off_one)
