-- A split row lies across every tight cut: a row sends nothing over a tight cut that it does not cross. So where each link lies in a tight cut, the routing is
-- minimal, and two split rows that are parallel have the same two nodes: a link outside both fronts, or between them, faces a link that cannot be. Section 4 of
-- Schrijver, Seymour and Winkler (Rules, papers).
use Prim.Native.Nat.{ℕ, ◌+◌, ◌*◌, ◌-◌, ◌≤◌}
use mathlib.Core.Bool.{Bool, true, false, not, cond, xor, true≢false}
use mathlib.Core.List.{List, ◌∷◌}
use mathlib.Core.Path.{◌≡◌, refl, sym, ◌∙◌, subst}
use native.Mathlib.Omega.{arith}
use native.Mathlib.Decide.{dec_lt}
use Rattle.ring.specs.Lists.{Each, none, more, Pairs, no_pair, and_pairs}
use Rattle.ring.specs.declared.types.Demand.{Demand}
use Rattle.ring.specs.Demand.{OnRing, in_front}
use Rattle.ring.specs.Cut.{part, across}
use Rattle.ring.specs.declared.types.Sent.{Sent}
use Rattle.ring.specs.Routing.{SumsTo, Split, sent_over, split_load}
use Rattle.ring.specs.Crossing.{parallel, Disjoint, Encloses}
use Rattle.ring.specs.Sheet.{demands}
use Rattle.ring.specs.Division.{Divides}
use Rattle.ring.specs.Rules.{SameNodes}
use Rattle.engines.specs.Minimal.{Minimal}
use Rattle.ring.proofs.Lists.{each, first-of, rest-of, each-of-map}
use Rattle.ring.proofs.Side.{in-front, before-front, after_front, front_ends}
use Rattle.ring.proofs.Cuts.{one-row, links-carry}
use Rattle.ring.proofs.Parallel.{Stand, apart, outer, inner, first, second, stand}

-- a link h that with g makes a tight cut: the two carry no more than they must
pub record Faces (n : ℕ) (rs : List Demand) (ss : List Sent) (g : ℕ) : Type 0 where
  pub h : ℕ
  pub low : 1 ≤ h
  pub high : h ≤ n
  pub is : split_load ss g + split_load ss h ≡ 2 * across rs g h

-- each link lies in a tight cut
abbrev pub AllFace : ℕ → List Demand → List Sent → Type 0
AllFace n rs ss = (g : ℕ) → 1 ≤ g → g ≤ n → Faces n rs ss g

-- ---- minimal

pub minimal : (n : ℕ) (rs : List Demand) (ss : List Sent) → AllFace n rs ss → Minimal n rs ss
minimal n rs ss face q other d lower =
    let g = lower.link in
    let f = face g lower.low lower.high in
    let carry : q * across rs g f.h ≤ split_load other g + split_load other f.h = rw d.same at (links-carry q other d.sums g f.h) in
    let is : q * (split_load ss g + split_load ss f.h) ≡ q * (2 * across rs g f.h) = rw f.is in
    omega (arith, carry, is, lower.smaller, lower.everywhere f.h f.low f.high)

-- ---- split rows lie across

abbrev LiesAcross : ℕ → ℕ → Sent → Type 0
LiesAcross g h s = Split s → in_front s.demand g ≡ not (in_front s.demand h)

-- each row carries no more than it must
rows-tight : (g h : ℕ) {ss : List Sent} → Each (SumsTo 2) ss → split_load ss g + split_load ss h ≡ 2 * across (demands ss) g h
    → Each (λ s. sent_over s g + sent_over s h ≡ 2 * part s.demand g h) ss
unfolding across split_load
rows-tight g h none e = none
rows-tight g h (more {a = s} {l = ss} sum sums) e =
    let head = one-row 2 s g h sum in
    let tail = links-carry 2 ss sums g h in
    more {a = s} (omega arith) (rows-tight g h sums (omega arith))

lies-across : (g h : ℕ) (s : Sent) → sent_over s g + sent_over s h ≡ 2 * part s.demand g h → LiesAcross g h s
unfolding sent_over part
lies-across g h s e p = go (in_front s.demand g) (in_front s.demand h) e
  where
    go : (a b : Bool) → cond a s.front s.back + cond b s.front s.back ≡ 2 * cond (xor a b) s.demand.amount 0 → a ≡ not b
    go true true e = absurd (omega (arith, p.0))
    go true false e = refl
    go false true e = refl
    go false false e = absurd (omega (arith, p.1))

record Across (n g : ℕ) (ss : List Sent) : Type 0 where
  h : ℕ
  all : Each (LiesAcross g h) ss

-- all split rows lie across the tight cut of a link
all-across : (n : ℕ) (rs : List Demand) (ss : List Sent) → Divides 2 rs ss → AllFace n rs ss → (g : ℕ) → 1 ≤ g → g ≤ n → Across n g ss
all-across n rs ss d face g low high =
    let f = face g low high in
    record { h = f.h; all = each (λ s. lies-across g f.h s) (rows-tight g f.h d.sums (rw d.same f.is)) }

-- ---- two split rows

-- two rows that are split and parallel have the same two nodes
abbrev pub OnlySame : Sent → Sent → Type 0
OnlySame a b = Split a → Split b → parallel a.demand b.demand ≡ true → SameNodes a.demand b.demand

other-side : (b : Bool) → false ≡ not b → b ≡ true
other-side true e = refl
other-side false e = absurd (true≢false (sym e))

this-side : (b : Bool) → true ≡ not b → b ≡ false
this-side true e = absurd (true≢false e)
this-side false e = refl

module _ (n : ℕ) where
  -- each link faces one on the other side of both rows
  abbrev Opposed : Demand → Demand → Type 0
  Opposed a b = (g : ℕ) → 1 ≤ g → g ≤ n → (h : ℕ) × (in_front a g ≡ not (in_front a h)) × (in_front b g ≡ not (in_front b h))

  -- no two fronts are disjoint: link n is in neither
  not-apart : (a b : Demand) → OnRing n a → OnRing n b → Opposed a b → Disjoint a b → ⊥
  not-apart a b oa ob o d =
      let f = o n (omega (arith, oa.low, oa.order, oa.high)) (omega arith) in
      d f.0 (other-side (in_front a f.0) (sym (after_front a n oa.high) ∙ f.1)) (other-side (in_front b f.0) (sym (after_front b n ob.high) ∙ f.2))

  -- no link is in the outer's front and not in the inner's
  none_between : (a b : Demand) → Opposed a b → Encloses a b → (g : ℕ) → 1 ≤ g → g ≤ n → in_front a g ≡ true → in_front b g ≡ false → ⊥
  none_between a b o holds g low high e f =
      let x = o g low high in
      true≢false (sym (holds x.0 (other-side (in_front b x.0) (sym f ∙ x.2))) ∙ this-side (in_front a x.0) (sym e ∙ x.1))

  -- one front inside the other: the two are the same
  nested_same : (a b : Demand) → OnRing n a → OnRing n b → Opposed a b → Encloses a b → SameNodes a b
  nested_same a b oa ob o holds =
      let u = front_ends a b.first (holds b.first (in-front b b.first (omega arith) ob.order)) in
      let v = front_ends a (b.second - 1) (holds (b.second - 1) (in-front b (b.second - 1) (omega (arith, ob.order)) (omega (arith, ob.order)))) in
      elim (dec_lt a.first b.first) [
        | yes l ↦ absurd (none_between a b o holds a.first oa.low (omega (arith, oa.order, oa.high)) (in-front a a.first (omega arith) oa.order) (before-front b a.first l))
        | no l ↦ elim (dec_lt b.second a.second) [
          | yes k ↦
              absurd (none_between a b o holds b.second (omega (arith, ob.low, ob.order)) ob.high (in-front a b.second (omega (arith, ob.order)) k) (after_front b b.second (omega arith)))
          | no k ↦ record { first = omega arith; second = omega (arith, ob.order) }
        ]
      ]

  opposed-same : (a b : Demand) → OnRing n a → OnRing n b → Opposed a b → parallel a b ≡ true → SameNodes a b
  opposed-same a b oa ob o t = go (stand a b oa.order ob.order)
    where
      go : Stand a b → SameNodes a b
      go (apart e d p) = absurd (not-apart a b oa ob o d)
      go (outer e h i p) = nested_same a b oa ob o i
      go (inner e h i p) =
          let s = nested_same b a ob oa (λ g l k. let x = o g l k in (x.0, x.2, x.1)) i in
          record { first = sym s.first; second = sym s.second }
      go (first c p) = absurd (true≢false (sym t ∙ p))
      go (second c p) = absurd (true≢false (sym t ∙ p))

  first-with : (a : Sent) {bs : List Sent} → OnRing n a.demand → Each (λ s. OnRing n s.demand) bs → ((g : ℕ) → 1 ≤ g → g ≤ n → Across n g (a ∷ bs))
      → Each (OnlySame a) bs
  first-with a oa none o = none
  first-with a oa (more {a = b} ob obs) o =
      more {a = b}
      (λ p q. opposed-same a.demand b.demand oa ob (λ g l k. let x = o g l k in (x.h, first-of x.all p, first-of (rest-of x.all) q)))
      (first-with a oa obs (λ g l k. let x = o g l k in record { h = x.h; all = more (first-of x.all) (rest-of (rest-of x.all)) }))

  pairs-with : {ss : List Sent} → Each (λ s. OnRing n s.demand) ss → ((g : ℕ) → 1 ≤ g → g ≤ n → Across n g ss) → Pairs OnlySame ss
  pairs-with none o = no_pair
  pairs-with (more {a = a} oa oas) o =
      and_pairs (first-with a oa oas o) (pairs-with oas (λ g l k. let x = o g l k in record { h = x.h; all = rest-of x.all }))

pub only_same : (n : ℕ) (rs : List Demand) (ss : List Sent) → Each (OnRing n) rs → Divides 2 rs ss → AllFace n rs ss → Pairs OnlySame ss
only_same n rs ss nodes d face =
    pairs-with n (each-of-map (λ (s : Sent). s.demand) {P = OnRing n} ss (subst (Each (OnRing n)) (sym d.same) nodes)) (all-across n rs ss d face)
