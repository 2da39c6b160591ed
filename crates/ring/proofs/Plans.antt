-- From any routing of the demands in halves that loads no link above M: rule C keeps its peak at M and leaves its split rows crossing, rule D's bound
-- holds of it, and the sheet of ways within that bound is true. How the routing was made is not asked here.
use Prim.Native.Nat.{ℕ, zero, suc, ◌+◌, ◌*◌, ◌/◌, ◌≤◌}
use mathlib.Core.List.{List, [], ◌∷◌, map}
use mathlib.Core.Logic.{inl, inr}
use mathlib.Core.Bool.{false, true≢false}
use mathlib.Core.Path.{◌≡◌, refl, sym, ◌∙◌, ap, subst}
use native.Mathlib.Omega.{arith}
use native.Mathlib.Decide.{dec_lt}
use Rattle.ring.specs.Lists.{Each, none, more, Pairs}
use Rattle.ring.specs.Ring.{Ring}
use Rattle.ring.specs.Demand.{Demand, OnRing}
use Rattle.ring.specs.TableRows.{InTableOrder, TableRows}
use Rattle.ring.specs.Cut.{IsCut, across}
use Rattle.ring.specs.Routing.{Sent, Routed, split_load, unsplit_load, peak}
use Rattle.ring.specs.Crossing.{parallel}
use Rattle.ring.specs.RuleA.{cut_at, rule_a, largest_across}
use Rattle.ring.specs.RuleC.{rule_c}
use Rattle.ring.specs.RuleD.{largest_split, rule_d}
use Rattle.ring.specs.Sheet.{Link, Sheet, sents, demands, numbers_from, true_link, sheet_of}
use Rattle.ring.specs.True.{GoesByRuleD, TrueLoads, TrueSheet}
use Rattle.ring.specs.Division.{Divides}
use Rattle.ring.specs.Rules.{Best, Enough, Quiet, Untangled, Crossed, Staggered, Directed}
use Rattle.ring.proofs.Lists.{each, steps, pairs-both, pairs-of-steps, pairs-of-each, each-of-map, pairs-of-map}
use Rattle.ring.proofs.Peaks.{peak-above, peak-least}
use Rattle.ring.proofs.Across.{one_link}
use Rattle.ring.proofs.Cuts.{cut-bounds}
use Rattle.ring.proofs.LargestCut.{rule-A}
use Rattle.ring.proofs.Parallel.{Stand, apart, outer, inner, first, second, stand}
use Rattle.ring.proofs.Move.{InOrder}
use Rattle.ring.proofs.Untangle.{rule-C, divides-kept}
use Rattle.ring.proofs.Directions.{rule-D}

-- ---- the figures of `sheet_of` are true of its rows

links-run : (rs : List Routed) (k m : ℕ) → map (λ (l : Link). l.link) (map (true_link rs) (numbers_from k m)) ≡ numbers_from k m
unfolding numbers_from
links-run rs k zero = refl
links-run rs k (suc m) = ap (λ l. k ∷ l) (links-run rs (suc k) m)

loads-true : (x : Sheet) (ks : List ℕ) → Each (TrueLoads x) (map (true_link x.rows) ks)
loads-true x [] = none
loads-true x (k ∷ ks) = more (record { split = refl; unsplit = refl }) (loads-true x ks)

-- ---- of two rows in table order that are split and not parallel, the later begins inside the earlier and ends behind it

-- all that the rules need of the order: first nodes do not fall
abbrev pub NoFall : Demand → Demand → Type 0
NoFall a b = a.first ≤ b.first

staggered : (a b : Sent) → InOrder a → InOrder b → NoFall a.demand b.demand → Quiet a b → Staggered a b
staggered a b oa ob l q p p' = go (stand a.demand b.demand oa ob) (q p p')
  where
    go : Stand a.demand b.demand → parallel a.demand b.demand ≡ false → Crossed a.demand b.demand
    go (apart d x c) e = absurd (true≢false (sym c ∙ e))
    go (outer d h x c) e = absurd (true≢false (sym c ∙ e))
    go (inner d h x c) e = absurd (true≢false (sym c ∙ e))
    go (first x c) e = x
    go (second x c) e = absurd (omega (arith, x.begins))

-- ---- the rows of a table, pair by pair

module _ (n : ℕ) (rs : List Demand) (table : TableRows n rs) where
  pub no-fall : Pairs NoFall rs
  no-fall = pairs-of-steps (λ a b c l m. omega arith) (steps one table.order)
    where
      one : (a b : Demand) → InTableOrder a b → NoFall a b
      one a b (inl l) = omega arith
      one a b (inr l) = omega arith

-- ---- rules A and C: rows in any order

module _ (n : ℕ) (rs : List Demand) (two : 2 ≤ n) where
  -- no cut has a larger across number than rule A's
  pub best-cut : Best (across rs) (IsCut n) (rule_a n rs)
  best-cut = rule-A n rs two

  -- rooms M are enough
  pub level-enough : Enough n (λ k. largest_across n rs) rs
  level-enough g h low ord high =
      elim (dec_lt g h) [
        | yes l ↦ omega (arith, best-cut.largest (cut_at (across rs) g h) (record { low = low; order = l; high = high }))
        | no l ↦ let e : h ≡ g = omega arith in rw e (omega (arith, one_link rs g))
      ]

  -- a routing in halves that loads no link above M has the peak M
  pub peak-is-M : (ss : List Sent) → Divides 2 rs ss → ((k : ℕ) → 1 ≤ k → k ≤ n → split_load ss k ≤ largest_across n rs) → peak (split_load ss) n ≡ largest_across n rs
  peak-is-M ss d fits = omega (arith, best-cut.is, cut-bounds 2 n rs ss d (rule_a n rs) best-cut.among, peak-least (split_load ss) n (largest_across n rs) fits)

  module _ (nodes : Each (OnRing n) rs) (ss : List Sent) (divides : Divides 2 rs ss) where
    pub in_order : Each InOrder ss
    in_order = each (λ s on. on.order) (each-of-map (λ (s : Sent). s.demand) {P = OnRing n} ss (subst (Each (OnRing n)) (sym divides.same) nodes))

module _ (n : ℕ) (rs : List Demand) (two : 2 ≤ n) (nodes : Each (OnRing n) rs)
    (ss : List Sent) (divides : Divides 2 rs ss) (fits : (k : ℕ) → 1 ≤ k → k ≤ n → split_load ss k ≤ largest_across n rs) where
  -- the routing behind rule C
  abbrev final : List Sent
  final = rule_c ss

  pub untangled-of : Untangled ss final
  untangled-of = rule-C ss (in_order n rs two nodes ss divides)

  pub divides-of : Divides 2 rs final
  divides-of = divides-kept 2 rs untangled-of.keeps divides

  pub fits-of : (k : ℕ) → 1 ≤ k → k ≤ n → split_load final k ≤ largest_across n rs
  fits-of k a b = omega (arith, untangled-of.loads k, fits k a b)

  pub peak-of : peak (split_load final) n ≡ largest_across n rs
  peak-of = peak-is-M n rs two final divides-of fits-of

  -- ---- rule D: first nodes do not fall, so that the split rows are taken by rising first node

  module _ (order : Pairs NoFall rs) where
    pub rise-of : Pairs Staggered final
    rise-of =
        let rows = pairs-of-map (λ (s : Sent). s.demand) {R = NoFall} final (subst (Pairs NoFall) (sym divides-of.same) order) in
        let if-quiet = pairs-both {R = λ a b. Quiet a b → Staggered a b} (λ a b o l q. staggered a b o.0 o.1 l q) (pairs-of-each (in_order n rs two nodes final divides-of)) rows in
        pairs-both (λ a b f q. f q) if-quiet untangled-of.quiet

    pub directed-of : Directed final (rule_d final)
    directed-of = rule-D final (in_order n rs two nodes final divides-of) divides-of.sums rise-of

    pub bound-of : 2 * peak (unsplit_load (rule_d final)) n ≤ peak (split_load final) n + 3 * largest_split final
    bound-of =
        let top = (peak (split_load final) n + 3 * largest_split final) / 2 in
        let half = peak-least (unsplit_load (rule_d final)) n top (λ k a b. omega (arith, directed-of.bound k, peak-above (split_load final) n k a b)) in
        omega arith

-- ---- the sheet of ways that keep the rows that are not split, within 1.5 D

module _ (ring : Ring) (rs : List Demand) (two : 2 ≤ ring.nodes) (nodes : Each (OnRing ring.nodes) rs)
    (ss : List Sent) (divides : Divides 2 rs ss) (fits : (k : ℕ) → 1 ≤ k → k ≤ ring.nodes → split_load ss k ≤ largest_across ring.nodes rs) where
  module _ (ways : List Routed) (same : sents ways ≡ rule_c ss) where
    -- it is of the table's own demands
    pub sheet-demands : demands (sents ways) ≡ rs
    sheet-demands = ap demands same ∙ (divides-of ring.nodes rs two nodes ss divides fits).same

    pub sheet-true : Each GoesByRuleD ways → 2 * peak (unsplit_load ways) ring.nodes ≤ peak (split_load (rule_c ss)) ring.nodes + 3 * largest_split (rule_c ss)
        → TrueSheet (sheet_of ring (rule_a ring.nodes rs) ways)
    unfolding sheet_of
    sheet-true kept bound =
        let n = ring.nodes in
        record {
          sums = rw same (divides-of n rs two nodes ss divides fits).sums;
          cut = (best-cut n rs two).among;
          across = rw sheet-demands (best-cut n rs two).is;
          links = links-run ways 1 n;
          loads = loads-true (sheet_of ring (rule_a n rs) ways) (numbers_from 1 n);
          peak = refl;
          size = refl;
          tight = rw same (peak-of n rs two nodes ss divides fits);
          ways = kept;
          bound = rw same bound;
        }

  pub true-of : Pairs NoFall rs → TrueSheet (sheet_of ring (rule_a ring.nodes rs) (rule_d (rule_c ss)))
  true-of order =
      let d = directed-of ring.nodes rs two nodes ss divides fits order in
      sheet-true (rule_d (rule_c ss)) d.same d.ways (bound-of ring.nodes rs two nodes ss divides fits order)
