-- Where every two rows with amounts cross, each routing in halves that loads no link above M sends half of each row either way: all rows lie across
-- the links behind a row's two nodes, and across those before them, so both links at its first node carry M; and of all rows only this one tells
-- the two apart.
use Prim.Native.Nat.{ℕ, zero, suc, ◌+◌, ◌*◌, ◌≤◌, ◌<◌}
use mathlib.Core.Bool.{Bool, true, false, not, true≢false}
use mathlib.Core.List.{List, [], ◌∷◌}
use mathlib.Core.Path.{◌≡◌, refl, sym, ◌∙◌, ap, subst}
use native.Mathlib.Omega.{arith}
use native.Mathlib.Decide.{dec_lt}
use Rattle.ring.specs.Lists.{Each, none, more, Pairs, no_pair, and_pairs}
use Rattle.ring.specs.declared.types.Demand.{Demand}
use Rattle.ring.specs.declared.types.Sent.{Sent}
use Rattle.ring.specs.Demand.{OnRing, in_front}
use Rattle.ring.specs.Cut.{IsCut, part, across}
use Rattle.ring.specs.Routing.{SumsTo, sent_over, split_load}
use Rattle.ring.specs.Crossing.{crosses, parallel}
use Rattle.ring.specs.RuleA.{cut_at, rule_a, largest_across}
use Rattle.ring.specs.Sheet.{demands}
use Rattle.ring.specs.Division.{Divides}
use Rattle.ring.specs.Rules.{Best, Crossed}
use Rattle.crossing.specs.AllCross.{CrossIfSome, AllCross}
use Rattle.ring.proofs.Lists.{each, each_both, pairs-both, pairs-of-each, each-of-map, pairs-of-map}
use Rattle.ring.proofs.Side.{before, within, after, side, in-front, before-front, after_front}
use Rattle.ring.proofs.Parallel.{Stand, apart, outer, inner, first, second, stand}
use Rattle.ring.proofs.Cuts.{links-carry}
use Rattle.ring.proofs.LargestCut.{rule-A}
use Rattle.ring.proofs.Totals.{part_small, sent-small}

-- the link that ends at node x; node 1 ends link n
link_to : ℕ → ℕ → ℕ
link_to n zero = n
link_to n (suc zero) = n
link_to n (suc (suc x)) = suc x

-- only its own nodes part a row's front from its back
beside : (n : ℕ) (b : Demand) (x : ℕ) → OnRing n b → 1 ≤ x → (x ≡ b.first → ⊥) → (x ≡ b.second → ⊥) → in_front b (link_to n x) ≡ in_front b x
unfolding link_to
beside n b zero on low p q = absurd (omega arith)
beside n b (suc zero) on low p q = after_front b n on.high ∙ sym (before-front b 1 (omega (arith, on.low)))
beside n b (suc (suc x)) on low p q =
    elim (side b (suc (suc x))) [
      | before l e ↦ before-front b (suc x) (omega arith) ∙ sym e
      | within l h e ↦ in-front b (suc x) (omega arith) (omega arith) ∙ sym e
      | after l e ↦ after_front b (suc x) (omega arith) ∙ sym e
    ]

-- the links that end at a row's own nodes
ends-at-first : (n : ℕ) (a : Demand) → OnRing n a → in_front a (link_to n a.first) ≡ false
unfolding link_to
ends-at-first n a on = go a.first refl
  where
    go : (x : ℕ) → x ≡ a.first → in_front a (link_to n x) ≡ false
    go zero e = after_front a n on.high
    go (suc zero) e = after_front a n on.high
    go (suc (suc x)) e = before-front a (suc x) (omega arith)

ends-at-second : (n : ℕ) (a : Demand) → OnRing n a → in_front a (link_to n a.second) ≡ true
unfolding link_to
ends-at-second n a on = go a.second refl
  where
    go : (x : ℕ) → x ≡ a.second → in_front a (link_to n x) ≡ true
    go zero e = absurd (omega (arith, on.order))
    go (suc zero) e = absurd (omega (arith, on.low, on.order))
    go (suc (suc x)) e = in-front a (suc x) (omega (arith, on.order)) (omega arith)

on-ring : (n x : ℕ) → 1 ≤ x → x ≤ n → (1 ≤ link_to n x) × (link_to n x ≤ n)
unfolding link_to
on-ring n zero l h = (omega arith, omega arith)
on-ring n (suc zero) l h = (omega arith, omega arith)
on-ring n (suc (suc x)) l h = (omega arith, omega arith)

-- ---- a row b, seen from the nodes of a row a

record Seen (n : ℕ) (a b : Demand) : Type 0 where
  behind : part b a.first a.second ≡ b.amount
  ahead : part b (link_to n a.first) (link_to n a.second) ≡ b.amount

parts : (b : Demand) (g h : ℕ) (x : Bool) → in_front b g ≡ x → in_front b h ≡ not x → part b g h ≡ b.amount
unfolding part
parts b g h true e f = rw (e, f)
parts b g h false e f = rw (e, f)

-- a row that crosses a lies across both pairs, and is not told apart by a's first node
crossing-seen : (n : ℕ) (a b : Demand) → OnRing n a → OnRing n b → (x : Bool) → in_front b a.first ≡ x → in_front b a.second ≡ not x
    → (a.first ≡ b.first → ⊥) → (a.first ≡ b.second → ⊥) → (a.second ≡ b.first → ⊥) → (a.second ≡ b.second → ⊥) → Seen n a b
crossing-seen n a b oa ob x e f p q r s =
    record {
      behind = parts b a.first a.second x e f;
      ahead =
          parts b (link_to n a.first) (link_to n a.second) x (beside n b a.first ob oa.low p q ∙ e)
          (beside n b a.second ob (omega (arith, oa.low, oa.order)) r s ∙ f);
    }

record Both (n : ℕ) (a b : Demand) : Type 0 where
  one : Seen n a b
  two : Seen n b a
  one_same : in_front b (link_to n a.first) ≡ in_front b a.first
  two-same : in_front a (link_to n b.first) ≡ in_front a b.first

both-seen : (n : ℕ) (a b : Demand) → OnRing n a → OnRing n b → Crossed a b → Both n a b
both-seen n a b oa ob c =
    record {
      one =
          crossing-seen n a b oa ob false (before-front b a.first c.begins) (in-front b a.second (omega (arith, c.meets)) c.ends)
          (λ z. omega (arith, c.begins)) (λ z. omega (arith, c.begins, ob.order)) (λ z. omega (arith, c.meets)) (λ z. omega (arith, c.ends));
      two =
          crossing-seen n b a ob oa true (in-front a b.first (omega (arith, c.begins)) c.meets) (after_front a b.second (omega (arith, c.ends)))
          (λ z. omega (arith, c.begins)) (λ z. omega (arith, c.meets)) (λ z. omega (arith, c.begins, ob.order)) (λ z. omega (arith, c.ends));
      one_same = beside n b a.first ob oa.low (λ z. omega (arith, c.begins)) (λ z. omega (arith, c.begins, ob.order));
      two-same = beside n a b.first oa ob.low (λ z. omega (arith, c.begins)) (λ z. omega (arith, c.meets));
    }

cross-seen : (n : ℕ) (a b : Demand) → OnRing n a → OnRing n b → crosses a b ≡ true → Both n a b
unfolding parallel
cross-seen n a b oa ob e = go (stand a b oa.order ob.order)
  where
    not-parallel : parallel a b ≡ false
    not-parallel = ap not e

    go : Stand a b → Both n a b
    go (apart d x c) = absurd (true≢false (sym c ∙ not-parallel))
    go (outer d h x c) = absurd (true≢false (sym c ∙ not-parallel))
    go (inner d h x c) = absurd (true≢false (sym c ∙ not-parallel))
    go (first x c) = both-seen n a b oa ob x
    go (second x c) = let s = both-seen n b a ob oa x in record { one = s.two; two = s.one; one_same = s.two-same; two-same = s.one_same }

itself-seen : (n : ℕ) (a : Demand) → OnRing n a → Seen n a a
itself-seen n a on =
    record {
      behind = parts a a.first a.second true (in-front a a.first (omega arith) on.order) (after_front a a.second (omega arith));
      ahead = parts a (link_to n a.first) (link_to n a.second) false (ends-at-first n a on) (ends-at-second n a on);
    }

-- a row of amount 0 adds nothing anywhere
nothing_seen : (n : ℕ) (a b : Demand) → b.amount ≡ 0 → Seen n a b
nothing_seen n a b z = record { behind = omega (arith, part_small b a.first a.second); ahead = omega (arith, part_small b (link_to n a.first) (link_to n a.second)) }

-- ---- all rows, seen from each row with an amount

-- what holds of each member with itself, and of each two members both ways, holds of every two
all_two : {A : Type 0} {P : A → Type 0} {R Q : A → A → Type 0} {l : List A} → ((a : A) → P a → Q a a) → ((a b : A) → P a → P b → R a b → Q a b × Q b a)
    → Each P l → Pairs R l → Each (λ a. Each (Q a) l) l
all_two self two none no_pair = none
all_two {Q} self two (more {a = a} {l = l} p ps) (and_pairs e pairs) =
    more (more (self a p) (each_both (λ b q r. (two a b p q r).0) ps e))
    (each_both {R = λ b. Each (Q b) (a ∷ l)} (λ b x ih. more x ih) (each_both {R = λ b. Q b a} (λ b q r. (two a b p q r).1) ps e) (all_two self two ps pairs))

SeenIfSome : ℕ → Demand → Demand → Type 0
SeenIfSome n a b = 0 < a.amount → Seen n a b

all_seen : (n : ℕ) (rs : List Demand) → Each (OnRing n) rs → AllCross rs → Each (λ a. Each (SeenIfSome n a) rs) rs
unfolding SeenIfSome
all_seen n rs nodes cross = all_two (λ a on _. itself-seen n a on) two nodes cross
  where
    two : (a b : Demand) → OnRing n a → OnRing n b → CrossIfSome a b → SeenIfSome n a b × SeenIfSome n b a
    two a b oa ob c = (one, other)
      where
        one : 0 < a.amount → Seen n a b
        one p = elim (dec_lt 0 b.amount) [ yes q ↦ (cross-seen n a b oa ob (c p q)).one | no q ↦ nothing_seen n a b (omega arith) ]

        other : 0 < b.amount → Seen n b a
        other q = elim (dec_lt 0 a.amount) [ yes p ↦ (cross-seen n a b oa ob (c p q)).two | no p ↦ nothing_seen n b a (omega arith) ]

-- ---- both links at a first node carry M

total : List Demand → ℕ
total [] = 0
total (r ∷ rs) = r.amount + total rs

across-at-most : (rs : List Demand) (g h : ℕ) → across rs g h ≤ total rs
unfolding across total
across-at-most [] g h = omega arith
across-at-most (r ∷ rs) g h = omega (arith, part_small r g h, across-at-most rs g h)

all-across : (g h : ℕ) {rs : List Demand} → Each (λ b. part b g h ≡ b.amount) rs → across rs g h ≡ total rs
unfolding across total
all-across g h none = refl
all-across g h (more p e) = omega (arith, p, all-across g h e)

-- the two links at node x carry the same
abbrev EvenAt : ℕ → List Sent → ℕ → Type 0
EvenAt n ss x = split_load ss (link_to n x) ≡ split_load ss x

even-at-first : (n : ℕ) (rs : List Demand) → 2 ≤ n → Each (OnRing n) rs → AllCross rs → (ss : List Sent) → Divides 2 rs ss
    → ((k : ℕ) → 1 ≤ k → k ≤ n → split_load ss k ≤ largest_across n rs) → Each (λ a. 0 < a.amount → EvenAt n ss a.first) rs
unfolding SeenIfSome
even-at-first n rs two nodes cross ss d fits = each_both at nodes (all_seen n rs nodes cross)
  where
    best : Best (across rs) (IsCut n) (rule_a n rs)
    best = rule-A n rs two

    carry : (g h : ℕ) → 2 * across rs g h ≤ split_load ss g + split_load ss h
    carry g h = rw d.same at (links-carry 2 ss d.sums g h)

    at : (a : Demand) → OnRing n a → Each (SeenIfSome n a) rs → 0 < a.amount → EvenAt n ss a.first
    at a on seen p =
        let y = link_to n a.first in
        let z = link_to n a.second in
        let on-y = on-ring n a.first on.low (omega (arith, on.order, on.high)) in
        let on-z = on-ring n a.second (omega (arith, on.low, on.order)) on.high in
        let behind = all-across a.first a.second (each (λ b s. (s p).behind) seen) in
        let ahead = all-across y z (each (λ b s. (s p).ahead) seen) in
        let most = across-at-most rs (rule_a n rs).g (rule_a n rs).h in
        let least = best.largest (cut_at (across rs) a.first a.second) (record { low = on.low; order = on.order; high = on.high }) in
        omega (
          arith,
          best.is,
          carry a.first a.second,
          carry y z,
          fits a.first on.low (omega (arith, on.order, on.high)),
          fits a.second (omega (arith, on.low, on.order)) on.high,
          fits y on-y.0 on-y.1,
          fits z on-z.0 on-z.1,
        )

-- ---- so each row has front and back alike

-- a row with its nodes on the ring, its sum, and what the other rows' first nodes make of it
record Whole (n : ℕ) (s : Sent) : Type 0 where
  on : OnRing n s.demand
  sum : SumsTo 2 s

-- at the first node of a, b sends the same over both links
abbrev Unmoved : ℕ → Sent → Sent → Type 0
Unmoved n a b = 0 < a.demand.amount → sent_over b (link_to n a.demand.first) ≡ sent_over b a.demand.first

nothing-sent : (s : Sent) → SumsTo 2 s → s.demand.amount ≡ 0 → (k : ℕ) → sent_over s k ≡ 0
nothing-sent s sum z k = omega (arith, sent-small s k)

unmoved-both : (n : ℕ) (a b : Sent) → Whole n a → Whole n b → CrossIfSome a.demand b.demand → Unmoved n a b × Unmoved n b a
unfolding sent_over
unmoved-both n a b wa wb c = (one, other)
  where
    one : Unmoved n a b
    one p =
        elim (dec_lt 0 b.demand.amount) [
          | yes q ↦ rw (cross-seen n a.demand b.demand wa.on wb.on (c p q)).one_same
          | no q ↦ nothing-sent b wb.sum (omega arith) (link_to n a.demand.first) ∙ sym (nothing-sent b wb.sum (omega arith) a.demand.first)
        ]

    other : Unmoved n b a
    other q =
        elim (dec_lt 0 a.demand.amount) [
          | yes p ↦ rw (cross-seen n a.demand b.demand wa.on wb.on (c p q)).two-same
          | no p ↦ nothing-sent a wa.sum (omega arith) (link_to n b.demand.first) ∙ sym (nothing-sent a wa.sum (omega arith) b.demand.first)
        ]

abbrev pub Halved : Sent → Type 0
Halved s = s.front ≡ s.back

all-unmoved : (n x : ℕ) {bs : List Sent} → Each (λ b. sent_over b (link_to n x) ≡ sent_over b x) bs → split_load bs (link_to n x) ≡ split_load bs x
unfolding split_load
all-unmoved n x none = refl
all-unmoved n x (more p e) = omega (arith, p, all-unmoved n x e)

-- behind rows with loads `loads`
halved-behind : (n : ℕ) (loads : ℕ → ℕ) {ss : List Sent} → Each (Whole n) ss → Pairs (λ a b. Unmoved n a b × Unmoved n b a) ss
    → Each (λ a. 0 < a.demand.amount → loads (link_to n a.demand.first) ≡ loads a.demand.first) ss
    → Each (λ a. 0 < a.demand.amount → loads (link_to n a.demand.first) + split_load ss (link_to n a.demand.first) ≡ loads a.demand.first + split_load ss a.demand.first) ss
    → Each Halved ss
unfolding split_load sent_over
halved-behind n loads none no_pair none none = none
halved-behind n loads (more {a = a} {l = l} w ws) (and_pairs e pairs) (more u us) (more v vs) =
    more halved
    (halved-behind n (λ k. loads k + sent_over a k) ws pairs (each_both (λ b q h p. omega (arith, q.1 p, h p)) e us) (each (λ b h p. omega (arith, h p)) vs))
  where
    halved : a.front ≡ a.back
    halved =
        elim (dec_lt 0 a.demand.amount) [
          | yes p ↦
              let here : sent_over a a.demand.first ≡ a.front = rw (in-front a.demand a.demand.first (omega arith) w.on.order) in
              let there : sent_over a (link_to n a.demand.first) ≡ a.back = rw (ends-at-first n a.demand w.on) in
              omega (arith, u p, v p, here, there, all-unmoved n a.demand.first (each (λ b q. q.0 p) e))
          | no p ↦ omega (arith, w.sum)
        ]

pub halved : (n : ℕ) (rs : List Demand) → 2 ≤ n → Each (OnRing n) rs → AllCross rs → (ss : List Sent) → Divides 2 rs ss
    → ((k : ℕ) → 1 ≤ k → k ≤ n → split_load ss k ≤ largest_across n rs) → Each Halved ss
halved n rs two nodes cross ss d fits =
    halved-behind n (λ k. 0) wholes (pairs-both (λ a b w c. unmoved-both n a b w.0 w.1 c) (pairs-of-each wholes) crossing)
    (each (λ s w p. refl) wholes) (each (λ s h p. omega (arith, h p)) (each-of-map (λ (s : Sent). s.demand) {P = λ a. 0 < a.amount → EvenAt n ss a.first} ss even))
  where
    even : Each (λ a. 0 < a.amount → EvenAt n ss a.first) (demands ss)
    even = subst (Each (λ a. 0 < a.amount → EvenAt n ss a.first)) (sym d.same) (even-at-first n rs two nodes cross ss d fits)

    on : Each (λ s. OnRing n s.demand) ss
    on = each-of-map (λ (s : Sent). s.demand) {P = OnRing n} ss (subst (Each (OnRing n)) (sym d.same) nodes)

    wholes : Each (Whole n) ss
    wholes = each_both (λ s o sum. record { on = o; sum = sum }) on d.sums

    crossing : Pairs (λ a b. CrossIfSome a.demand b.demand) ss
    crossing = pairs-of-map (λ (s : Sent). s.demand) {R = CrossIfSome} ss (subst AllCross (sym d.same) cross)
