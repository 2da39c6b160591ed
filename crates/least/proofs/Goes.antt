-- What the functions of the rules ensure is that rows go by these rules, with the peak that is answered; and the cut of a plan has M across.
use Rattle.std.proofs.Common.{ℕ, ◌≤◌, ◌<◌, List, ◌≡◌, refl, ap, ◌∙◌, arith}
use Rattle.std.specs.Int.{div_ceil}
use Rattle.ring.specs.RuleA.{rule_a}
use Rattle.ring.specs.Sheet.{sents, demands, sheet_of}
use Rattle.ring.specs.declared.types.Ring.{Ring}
use Rattle.ring.specs.declared.types.Routed.{Routed}
use Rattle.ring.specs.declared.types.Demand.{Demand}
use Rattle.engines.specs.declared.Engine.{Engine}
use Rattle.engines.specs.Engine.{split_routing_by, unsplit_routing_by}
use Rattle.best.specs.Best.{splits, most_split, IsBest}
use Rattle.router.specs.Plans.{by_rule_D, by_best_choice}
use Rattle.router.specs.Planned.{plan_in, plan_of}
use Rattle.router.specs.declared.Plan.{Plan}
use Rattle.turns.specs.Turns.{peak_of, least_start}
use Rattle.least.specs.Rule.{LeastRule, Turns, BestChoice, RuleD}
use Rattle.least.specs.Least.{WaysBy, goes_turned, goes_best, goes_rule_D, floor_of}
use Rattle.least.specs.Trying.{Goes, GivesNone}

-- the peak of a plan's figures is that of its rows
figures-peak : (n : ℕ) (ring : Ring) (rs : List Demand) (ways : List Routed) (p : Plan) → n ≡ ring.nodes → p ≡ plan_in (sheet_of ring (rule_a ring.nodes rs) ways) → p.figures.unsplit_peak ≡ peak_of n ways
unfolding plan_in sheet_of peak_of
figures-peak n ring rs ways p e is = rw e (ap (λ (p : Plan). p.figures.unsplit_peak) is)

module _ (ring : Ring) (rs : List Demand) (rule : LeastRule) (ways : List Routed) where
  pub goes-turned : rule ≡ Turns → ways ≡ (least_start ring.nodes rs).rows → (peak : ℕ) → peak ≡ peak_of ring.nodes ways → Goes ring.nodes rs rule ways peak
  goes-turned e w peak p = record { by = rw (e, w) goes_turned; comes_to = p }

  module _ (engine : Engine) where
    pub goes-best : rule ≡ BestChoice engine → splits (split_routing_by engine ring.nodes rs) ≤ most_split → IsBest ring.nodes (split_routing_by engine ring.nodes rs) ways →
        (p : Plan) → p ≡ plan_in (sheet_of ring (rule_a ring.nodes rs) ways) → Goes ring.nodes rs rule ways p.figures.unsplit_peak
    goes-best e few best p is = record { by = rw e (goes_best (by_best_choice few best)); comes_to = figures-peak ring.nodes ring rs ways p refl is }

    -- there is none where too many are split
    pub goes-none : rule ≡ BestChoice engine → most_split < splits (split_routing_by engine ring.nodes rs) → GivesNone ring.nodes rs rule
    goes-none e many its w = go (rw e at w)
      where
        go : WaysBy ring.nodes rs (BestChoice engine) its → ⊥
        go (goes_best (by_best_choice few best)) = omega (arith, few, many)

-- ---- rule D

module _ (engine : Engine) (ring : Ring) (old : List Routed) (p : Plan) (is : p ≡ plan_in (plan_of engine ring old)) where
  pub goes-rule-D : (rule : LeastRule) → rule ≡ RuleD engine → (new : List Routed) → new ≡ (plan_of engine ring old).rows → Goes ring.nodes (demands (sents old)) rule new p.figures.unsplit_peak
  unfolding sheet_of
  goes-rule-D rule e new w =
      record {
        by = rw (e, w) (goes_rule_D by_rule_D);
        comes_to = rw w (figures-peak ring.nodes ring (demands (sents old)) (unsplit_routing_by engine ring.nodes (demands (sents old))) p refl is);
      }

  -- the floor by the plan's cut
  pub floor-is : (floor : ℕ) → floor ≡ div_ceil p.figures.cut.across 2 → floor ≡ floor_of ring.nodes (demands (sents old))
  unfolding plan_in sheet_of
  floor-is floor e = e ∙ ap (λ (p : Plan). div_ceil p.figures.cut.across 2) is
