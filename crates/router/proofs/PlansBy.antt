-- Whatever engine splits its rows and whatever rule sends them whole, a plan is a true sheet of the table's rows, the only one by these, and no higher than rule D's by that engine.
use Rattle.std.proofs.Common.{◌≡◌, ℕ, ◌≤◌, List, refl, sym, ap, ◌∙◌, subst, arith}
use Rattle.ring.specs.declared.types.Ring.{Ring}
use Rattle.ring.specs.declared.types.Demand.{Demand}
use Rattle.ring.specs.declared.types.Sent.{Sent}
use Rattle.ring.specs.declared.types.Routed.{Routed}
use Rattle.ring.specs.RuleA.{rule_a}
use Rattle.ring.specs.Sheet.{Sheet, sents, demands, sheet_of}
use Rattle.ring.specs.TableRows.{TableRows}
use Rattle.ring.specs.True.{TrueSheet}
use Rattle.engines.specs.declared.Engine.{Engine}
use Rattle.engines.specs.Engine.{split_routing_by, unsplit_routing_by, plan_by}
use Rattle.engines.proofs.Engines.{divides-by, plan-true-by}
use Rattle.best.proofs.BestTrue.{best-true, no-higher}
use Rattle.best.proofs.BestWays.{best-unique}
use Rattle.router.specs.Plans.{Rule, rule_D, GoBy, by_rule_D, by_best_choice, PlanBy, NoPlanBy, too_many_split}
use Rattle.router.proofs.FourRules.{directed}

-- ---- the ways of rows

module _ {n : ℕ} {ss : List Sent} where
  pub go-sents : {rule : Rule} {ways : List Routed} → GoBy n ss rule ways → sents ways ≡ ss
  go-sents by_rule_D = directed ss
  go-sents (by_best_choice few best) = best.choice.same

  pub one-way : {rule : Rule} {a b : List Routed} → GoBy n ss rule a → GoBy n ss rule b → a ≡ b
  one-way by_rule_D by_rule_D = refl
  one-way (by_best_choice few best) (by_best_choice few' best') = best-unique n ss _ _ best best'

-- ---- the plan

-- there is one by a rule
pub one-plan : {engine : Engine} {rule : Rule} {ring : Ring} {rs : List Demand} {x y : Sheet} → PlanBy engine rule ring rs x → PlanBy engine rule ring rs y → x ≡ y
one-plan {ring = ring} {rs = rs} p q = p.is ∙ ap (sheet_of ring (rule_a ring.nodes rs)) (one-way p.go q.go) ∙ sym q.is

-- or none
pub plan-or-none : {engine : Engine} {rule : Rule} {ring : Ring} {rs : List Demand} {x : Sheet} → PlanBy engine rule ring rs x → NoPlanBy engine ring rs rule → ⊥
plan-or-none {engine} {ring = ring} {rs = rs} p none = go p.go none
  where
    go : {rule : Rule} {ways : List Routed} → GoBy ring.nodes (split_routing_by engine ring.nodes rs) rule ways → NoPlanBy engine ring rs rule → ⊥
    go by_rule_D none = elim none [ ]
    go (by_best_choice few best) (too_many_split many) = omega (arith, few, many)

-- rule D's is that of its engine
pub rule-D-plan : (engine : Engine) (ring : Ring) (rs : List Demand) → PlanBy engine rule_D ring rs (plan_by engine ring rs)
rule-D-plan engine ring rs = record { ways = unsplit_routing_by engine ring.nodes rs; go = by_rule_D; is = refl }

module _ {engine : Engine} {rule : Rule} (ring : Ring) (rs : List Demand) (x : Sheet) (p : PlanBy engine rule ring rs x) where
  pub plan-ring : x.ring ≡ ring
  unfolding sheet_of
  plan-ring = ap (λ (x : Sheet). x.ring) p.is

  pub plan-cut : x.cut ≡ rule_a ring.nodes rs
  unfolding sheet_of
  plan-cut = ap (λ (x : Sheet). x.cut) p.is

  pub plan-sents : sents x.rows ≡ split_routing_by engine ring.nodes rs
  unfolding sheet_of
  plan-sents = ap (λ (x : Sheet). sents x.rows) p.is ∙ go-sents p.go

  module _ (two : 2 ≤ ring.nodes) (table : TableRows ring.nodes rs) where
    pub planned-demands : demands (sents x.rows) ≡ rs
    planned-demands = ap demands plan-sents ∙ (divides-by engine ring.nodes rs two table.nodes).same

    pub planned-true : TrueSheet x
    planned-true = subst TrueSheet (sym p.is) (go p.go)
      where
        go : {rule : Rule} {ways : List Routed} → GoBy ring.nodes (split_routing_by engine ring.nodes rs) rule ways → TrueSheet (sheet_of ring (rule_a ring.nodes rs) ways)
        go by_rule_D = plan-true-by engine ring rs two table
        go (by_best_choice {ways} few best) = best-true engine ring rs two table ways best

    pub planned-no-higher : x.unsplit_peak ≤ (plan_by engine ring rs).unsplit_peak
    unfolding sheet_of
    planned-no-higher = subst (λ (x : Sheet). x.unsplit_peak ≤ (plan_by engine ring rs).unsplit_peak) (sym p.is) (go p.go)
      where
        go : {rule : Rule} {ways : List Routed} → GoBy ring.nodes (split_routing_by engine ring.nodes rs) rule ways → (sheet_of ring (rule_a ring.nodes rs) ways).unsplit_peak ≤ (plan_by engine ring rs).unsplit_peak
        go by_rule_D = omega arith
        go (by_best_choice {ways} few best) = no-higher engine ring.nodes rs two table ways best
