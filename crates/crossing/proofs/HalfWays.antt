-- Theorem 7.1 of Schrijver, Seymour and Winkler (Rules, papers): where each split row has front and back alike there are ways for the split rows with which twice the unsplit load of a
-- link is above its split load by at most twice the largest amount. The ways are those of a walk in steps of 2d that ends as far above E as it began
-- below; a link in the fronts of the first split rows and the backs of the others is off by the place of the walk between them, or by its negative.
use Prim.Native.Nat.{ℕ, ◌+◌, ◌*◌, ◌-◌, ◌≤◌, ◌<◌}
use mathlib.Core.Bool.{Bool, true, false, cond}
use mathlib.Core.List.{List, [], ◌∷◌, map}
use mathlib.Core.Logic.{⊎_elim}
use mathlib.Core.Path.{◌≡◌, refl, ap, ap₂, subst}
use native.Mathlib.Omega.{arith}
use native.Mathlib.Decide.{dec_lt}
use borrow.Author.Tests.{lt-ltb, le-ltb}
use Rattle.ring.specs.Lists.{Each, none, more, Pairs}
use Rattle.ring.specs.declared.types.Demand.{Demand}
use Rattle.ring.specs.declared.types.Sent.{Sent}
use Rattle.ring.specs.declared.types.Routed.{Routed}
use Rattle.ring.specs.declared.types.Way.TheVariants.{Front, Back}
use Rattle.ring.specs.Demand.{in_front}
use Rattle.ring.specs.Routing.{Split, routed, split_load, unsplit_load}
use Rattle.ring.specs.RuleD.{largest_split}
use Rattle.ring.specs.Sheet.{sents, demands}
use Rattle.ring.specs.True.{SumsTo2d, GoesByRuleD}
use Rattle.ring.specs.Rules.{Staggered}
use Rattle.crossing.specs.AllCross.{largest_amount, with_amount, halves}
use Rattle.best.specs.Best.{splits}
use Rattle.ring.proofs.Lists.{each, each_both, each-of-map}
use Rattle.ring.proofs.Splits.{Splitting, split, whole, splitting}
use Rattle.best.proofs.Keeping.{kept-F, split-kept}
use Rattle.ring.proofs.Move.{InOrder}
use Rattle.ring.proofs.Crossover.{OnSide, Crossover, from_here, not_yet, crossover}
use Rattle.crossing.proofs.Halved.{Halved}
use Rattle.crossing.proofs.Walk.{next, end, Next, up, down, nexts, Fit, start}

-- a row of front and back alike, with its sum, in steps of at most `top`
record Half (top : ℕ) (s : Sent) : Type 0 where
  halved : Halved s
  sum : SumsTo2d s
  fit : Fit top (2 * s.demand.amount)

module _ (top : ℕ) where
  abbrev steps : List Sent → List ℕ
  steps ss = map (λ (s : Sent). 2 * s.demand.amount) ss

  -- the ways of a walk from q to z: up is F, down is B; a row of amount 0 does not move it
  data Walks (z : ℕ) : ℕ → List Sent → List Routed → Type 0 where
    done : Walks z z [] []
    goes-F : {q : ℕ} {s : Sent} {ss : List Sent} {rs : List Routed} → Split s → q ≤ top → Walks z (q + 2 * s.demand.amount) ss rs → Walks z q (s ∷ ss) (routed s Front ∷ rs)
    goes-B : {q x : ℕ} {s : Sent} {ss : List Sent} {rs : List Routed} → Split s → x + 2 * s.demand.amount ≡ q → Walks z x ss rs → Walks z q (s ∷ ss) (routed s Back ∷ rs)
    stays : {q : ℕ} {s : Sent} {ss : List Sent} {rs : List Routed} → s.demand.amount ≡ 0 → Walks z q ss rs → Walks z q (s ∷ ss) (routed s Front ∷ rs)

  record Walked (z q : ℕ) (ss : List Sent) : Type 0 where
    ways : List Routed
    is : Walks z q ss ways

  no-amount : (s : Sent) → Half top s → (Split s → ⊥) → s.demand.amount ≡ 0
  no-amount s h n =
      elim (dec_lt 0 s.front) [
        | yes p ↦ absurd (n (p, omega (arith, h.halved)))
        | no p ↦ omega (arith, h.halved, h.sum)
      ]

  walked : (q : ℕ) {ss : List Sent} → Each (Half top) ss → Walked (end top q (steps ss)) q ss
  unfolding end
  walked q none = record { ways = []; is = done }
  walked q (more {a = s} {l = ss} h hs) = go (splitting s) (nexts top q e) (walked (next top q e) hs)
    where
      e : ℕ
      e = 2 * s.demand.amount

      go : Splitting s → {x : ℕ} → Next top q e x → Walked (end top x (steps ss)) x ss → Walked (end top x (steps ss)) q (s ∷ ss)
      go (split p t) (up l) w = record { ways = routed s Front ∷ w.ways; is = goes-F p l w.is }
      go (split p t) (down l) w = record { ways = routed s Back ∷ w.ways; is = goes-B {q = q} {x = q - e} {s = s} p (omega (arith, h.fit.most)) w.is }
      go (whole n t) {x} v w = record { ways = routed s Front ∷ w.ways; is = stays {s = s} z (subst (λ y. Walks (end top x (steps ss)) y ss w.ways) (same v) w.is) }
        where
          z : s.demand.amount ≡ 0
          z = no-amount s h n

          same : {x : ℕ} → Next top q e x → x ≡ q
          same (up l) = omega (arith, z)
          same (down l) = omega (arith, z)

  walks-sents : {z q : ℕ} {ss : List Sent} {rs : List Routed} → Walks z q ss rs → sents rs ≡ ss
  walks-sents done = refl
  walks-sents (goes-F {s = s} p l w) = ap (λ (l : List Sent). s ∷ l) (walks-sents w)
  walks-sents (goes-B {s = s} p e w) = ap (λ (l : List Sent). s ∷ l) (walks-sents w)
  walks-sents (stays {s = s} e w) = ap (λ (l : List Sent). s ∷ l) (walks-sents w)

  walks-keep : {z q : ℕ} {ss : List Sent} {rs : List Routed} → Each (Half top) ss → Walks z q ss rs → Each GoesByRuleD rs
  walks-keep none done = none
  walks-keep {q = q} (more h hs) (goes-F {s = s} p l w) = more (split-kept s p Front) (walks-keep {q = q + 2 * s.demand.amount} hs w)
  walks-keep (more h hs) (goes-B {x = x} {s = s} p e w) = more (split-kept s p Back) (walks-keep {q = x} hs w)
  walks-keep (more h hs) (stays {s = s} z w) = more (kept-F s (λ e b. omega (arith, h.sum))) (walks-keep hs w)

  -- ---- one link

  nothing-over : (s : Sent) → Half top s → s.demand.amount ≡ 0 → (b : Bool) → (cond b s.front s.back ≡ 0) × (cond b s.demand.amount 0 ≡ 0)
  nothing-over s h z true = (omega (arith, h.sum), z)
  nothing-over s h z false = (omega (arith, h.sum), refl)

  -- four times the whole load is above twice the split load by what the walk rises, or, on a link of the backs, by what it falls
  one_side : (c : Bool) (k : ℕ) {z q : ℕ} {ss : List Sent} {rs : List Routed} → Walks z q ss rs → Each (Half top) ss → Each (OnSide c k) ss
      → 4 * unsplit_load rs k + cond c q z ≡ 2 * split_load ss k + cond c z q
  unfolding unsplit_load split_load
  one_side true k done none none = refl
  one_side false k done none none = refl
  one_side true k (goes-F p m w) (more h hs) (more on ons) = rw (on p) (omega (arith, h.halved, h.sum, one_side true k w hs ons))
  one_side false k (goes-F p m w) (more h hs) (more on ons) = rw (on p) (omega (arith, h.halved, h.sum, one_side false k w hs ons))
  one_side true k (goes-B p x w) (more h hs) (more on ons) = rw (on p) (omega (arith, h.halved, h.sum, one_side true k w hs ons))
  one_side false k (goes-B p x w) (more h hs) (more on ons) = rw (on p) (omega (arith, h.halved, h.sum, one_side false k w hs ons))
  one_side c k (stays {s = s} e w) (more h hs) (more on ons) = omega (arith, nothing-over s h e (in_front s.demand k), one_side c k w hs ons)

  -- in the fronts of the first split rows, then in the backs of the others: the walk between them is at most at 2E
  front-first : (k : ℕ) {z q : ℕ} {ss : List Sent} {rs : List Routed} → Crossover true k ss → Walks z q ss rs → Each (Half top) ss → q ≤ 2 * top
      → 4 * unsplit_load rs k + (q + z) ≤ 2 * split_load ss k + 4 * top
  unfolding unsplit_load split_load
  front-first k (from_here ons) w hs l = omega (arith, one_side false k w hs ons)
  front-first k {q = q} (not_yet {s = s} on x) (goes-F p m w) (more h hs) l = rw (on p) (omega (arith, h.halved, h.sum, front-first k {q = q + 2 * s.demand.amount} x w hs (omega (arith, h.fit.most))))
  front-first k (not_yet on x) (goes-B {x = y} p e w) (more h hs) l = rw (on p) (omega (arith, h.halved, h.sum, front-first k {q = y} x w hs (omega arith)))
  front-first k (not_yet on x) (stays {s = s} e w) (more h hs) l = omega (arith, nothing-over s h e (in_front s.demand k), front-first k x w hs l)

  -- the other way round: it is at least at 0
  back-first : (k : ℕ) {z q : ℕ} {ss : List Sent} {rs : List Routed} → Crossover false k ss → Walks z q ss rs → Each (Half top) ss
      → 4 * unsplit_load rs k ≤ 2 * split_load ss k + (q + z)
  unfolding unsplit_load split_load
  back-first k (from_here ons) w hs = omega (arith, one_side true k w hs ons)
  back-first k {q = q} (not_yet {s = s} on x) (goes-F p m w) (more h hs) = rw (on p) (omega (arith, h.halved, h.sum, back-first k {q = q + 2 * s.demand.amount} x w hs))
  back-first k (not_yet on x) (goes-B {x = y} p e w) (more h hs) = rw (on p) (omega (arith, h.halved, h.sum, back-first k {q = y} x w hs))
  back-first k (not_yet on x) (stays {s = s} e w) (more h hs) = omega (arith, nothing-over s h e (in_front s.demand k), back-first k x w hs)

-- ---- the theorem

-- ways for the split rows, within E of the split loads
pub record Within (top : ℕ) (ss : List Sent) : Type 0 where
  pub ways : List Routed
  pub same : sents ways ≡ ss
  pub kept : Each GoesByRuleD ways
  pub bound : (k : ℕ) → 2 * unsplit_load ways k ≤ split_load ss k + top

within : (top : ℕ) (ss : List Sent) → Each (Half top) ss → Each InOrder ss → Pairs Staggered ss → Within top ss
within top ss hs order rise =
    let from = start top (fits hs) in
    let w = walked top from.q hs in
    record {
      ways = w.ways;
      same = walks-sents top w.is;
      kept = walks-keep top hs w.is;
      bound = λ k. ⊎_elim (λ x. omega (arith, from.is, front-first top k x w.is hs (omega (arith, from.most)))) (λ x. omega (arith, from.is, back-first top k x w.is hs)) (crossover k order rise);
    }
  where
    fits : {ss : List Sent} → Each (Half top) ss → Each (Fit top) (steps top ss)
    fits none = none
    fits (more h hs) = more h.fit (fits hs)

amounts-at-most : (rs : List Demand) → Each (λ r. r.amount ≤ largest_amount rs) rs
unfolding largest_amount
amounts-at-most [] = none
amounts-at-most (r ∷ rs) = more {a = r} (omega arith) (each (λ s l. omega arith) (amounts-at-most rs))

pub half-ways : (ss : List Sent) → Each Halved ss → Each SumsTo2d ss → Each InOrder ss → Pairs Staggered ss → Within (2 * largest_amount (demands ss)) ss
half-ways ss halved sums order rise = within top ss (each_both {R = Half top} (λ s h x. record { halved = h; sum = x.0; fit = x.1 }) halved fit) order rise
  where
    top : ℕ
    top = 2 * largest_amount (demands ss)

    fit : Each (λ s. SumsTo2d s × Fit top (2 * s.demand.amount)) ss
    fit =
        each_both (λ s x l. (x, record { most = omega arith; even = omega arith })) sums
        (each-of-map (λ (s : Sent). s.demand) {P = λ r. r.amount ≤ largest_amount (demands ss)} ss (amounts-at-most (demands ss)))

-- ---- every row with an amount is split, half either way, and no other

pub record SentHalf (s : Sent) : Type 0 where
  pub front : s.front ≡ s.demand.amount
  pub back : s.back ≡ s.demand.amount

pub sent-half : {ss : List Sent} → Each Halved ss → Each SumsTo2d ss → Each SentHalf ss
sent-half hs sums = each_both (λ s h sum. record { front = omega arith; back = omega arith }) hs sums

pub splits-are : {ss : List Sent} → Each SentHalf ss → splits ss ≡ with_amount (demands ss)
unfolding splits with_amount
splits-are none = refl
splits-are (more {a = s} {l = ss} h hs) = go (splitting s) (splits-are hs)
  where
    go : Splitting s → splits ss ≡ with_amount (demands ss) → splits (s ∷ ss) ≡ with_amount (demands (s ∷ ss))
    go (split p e) ih = let l : 0 < s.demand.amount = omega (arith, h.front, p.0) in rw (e, lt-ltb 0 s.demand.amount l) (omega (arith, ih))
    go (whole n e) ih =
        let z : s.demand.amount ≤ 0 = elim (dec_lt 0 s.demand.amount) [ yes l ↦ absurd (n (omega (arith, h.front), omega (arith, h.back))) | no l ↦ omega arith ] in
        rw (e, le-ltb 0 s.demand.amount z) (omega (arith, ih))

pub largest-is : {ss : List Sent} → Each SentHalf ss → largest_split ss ≡ largest_amount (demands ss)
unfolding largest_split largest_amount
largest-is none = refl
largest-is (more {a = s} {l = ss} h hs) = go (splitting s) (largest-is hs)
  where
    go : Splitting s → largest_split ss ≡ largest_amount (demands ss) → largest_split (s ∷ ss) ≡ largest_amount (demands (s ∷ ss))
    go (split p e) ih = rw e (omega (arith, ih))
    go (whole n e) ih =
        let z : s.demand.amount ≤ 0 = elim (dec_lt 0 s.demand.amount) [ yes l ↦ absurd (n (omega (arith, h.front), omega (arith, h.back))) | no l ↦ omega arith ] in
        rw e (omega (arith, ih))

pub halves_are : {ss : List Sent} → Each SentHalf ss → ss ≡ halves (demands ss)
halves_are none = refl
halves_are (more {a = s} {l = ss} h hs) =
    ap₂ {B = List Sent} {C = List Sent} (λ (a : Sent) l. a ∷ l) (ap₂ {C = Sent} (λ f b. record { demand = s.demand; front = f; back = b }) h.front h.back) (halves_are hs)
