-- Routing a table: the rows of its columns are its demands; the router's plan of them is the sheet that is due, by whichever rule, and a refusal of the best choice is 23.
use Prim.Native.Nat.{ℕ, ◌≤◌, ◌<◌}
use mathlib.Core.List.{List}
use mathlib.Core.Path.{◌≡◌, refl, ap, sym, ◌∙◌}
use native.Mathlib.Omega.{arith}
use lib.ListN.{length, take, length-take}
use Rattle.ring.specs.Limits.{desk}
use Rattle.ring.specs.declared.types.Cut.{Cut}
use Rattle.ring.specs.declared.types.Link.{Link}
use Rattle.ring.specs.declared.types.Ring.{Ring}
use Rattle.ring.specs.declared.types.Demand.{Demand}
use Rattle.ring.specs.declared.types.Routed.{Routed}
use Rattle.ring.specs.RuleA.{rule_a}
use Rattle.ring.specs.Sheet.{Sheet, sheet_of, sents, demands, sheet_in}
use Rattle.ring.proofs.Lists.{each_both}
use Rattle.ring.proofs.Small.{demands-length}
use Rattle.engines.specs.declared.Engine.{Engine}
use Rattle.engines.specs.Engine.{split_routing_by, plan_by}
use Rattle.engines.proofs.Engines.{plan-demands-by, divides-by}
use Rattle.best.specs.Best.{splits, most_split, IsBest}
use Rattle.table.specs.Table.{InRange}
use Rattle.reasons.specs.Refusals.{refuse}
use Rattle.reasons.specs.declared.reason.Reason.TheVariants.{TooManySplit}
use Rattle.std.specs.Prelude.{Ok}
use Rattle.weight.proofs.Weighing.{links_true}
use Rattle.across.specs.Filled.{DemandsFit}
use Rattle.router.specs.Planned.{plan_in, plan_of}
use Rattle.router.specs.Plans.{best_choice, by_best_choice, PlanBy, too_many_split}
use Rattle.router.specs.declared.Plan.{Plan}
use Rattle.sheet.specs.WriteSheet.{write_sheet}
use Rattle.ringkit.specs.Outcome.{Fills}
use Rattle.ringkit.specs.Says.{Answer, CallSays, none_due}
use Rattle.ringkit.specs.Texts.{TableOf, PlanDue, PlanGiven, of_the_split}
use Rattle.ringkit.proofs.Calls.{is_due, every_call}
use Rattle.ringkit.proofs.FillSteps.{same-fills}

-- ---- the router's plan of rows, whatever rule sent them, is the sheet of their weight

module _ (ring : Ring) (cut : Cut) (rows : List Routed) (p : Plan) (e : p ≡ plan_in (sheet_of ring cut rows)) where
  links-are : take ring.nodes p.links ≡ (sheet_of ring cut rows).links
  unfolding plan_in sheet_of
  links-are = rw e (links_true ring.nodes rows)

  -- the links of a plan that a ring has
  module _ (n : ℕ) (nodes : n ≡ ring.nodes) where
    same-links : take n p.links ≡ (sheet_of ring cut rows).links
    same-links = rw nodes links-are

    is-sheet : sheet_in p.figures rows (take n p.links) ≡ sheet_of ring cut rows
    unfolding plan_in sheet_of
    is-sheet = λ x. sheet_in (e x).figures rows (same-links x)

-- a ring has few enough
pub links-few : (links : List Link) (n most : ℕ) → n ≤ most → length (take n links) ≤ most
links-few links n most few = omega (arith, length-take n links, few)

-- what was read the router takes
pub router-takes : (ring : Ring) (old : List Routed) → InRange desk ring (demands (sents old)) → DemandsFit ring.nodes (demands (sents old))
router-takes ring old range =
    record { links = range.within.many; few = range.within.count; each = each_both (λ r on small. record { on = on; small = small }) range.within.rows.nodes range.within.amounts }

-- ---- by rule D it is the plan of their demands by the engine

module _ (engine : Engine) (ring : Ring) (old : List Routed) (range : InRange desk ring (demands (sents old))) where
  abbrev rows : List Demand
  rows = demands (sents old)

  abbrev whole : Sheet
  whole = plan_of engine ring old

  module _ (new : List Routed) (is : new ≡ (plan_of engine ring old).rows) where
    pub rows-few : length new ≤ desk.rows
    rows-few = omega (arith, ap length is, demands-length whole.rows, ap length (plan-demands-by engine ring rows range.within.few range.within.rows), range.within.count)

    module _ (p : Plan) (e : p ≡ plan_in (plan_of engine ring old)) (n : ℕ) (nodes : n ≡ ring.nodes) where
      is-plan : sheet_in p.figures new (take n p.links) ≡ whole
      unfolding sheet_of
      is-plan = rw is (is-sheet ring (rule_a ring.nodes rows) whole.rows p e n nodes)

      pub plan-fills : (from to : List ℕ) (r : Answer) →
          Fills (Ok (write_sheet (sheet_in p.figures new (take n p.links)))) from to r →
          Fills (Ok (write_sheet (plan_by engine ring (demands (sents old))))) from to r
      plan-fills from to r = same-fills from to r (ap (λ x. Ok (write_sheet x)) (sym is-plan))

  -- ---- by the best choice

  module _ (t : List ℕ) (of : TableOf t ring rows) where
    pub split-refused : (from : List ℕ) → most_split < splits (split_routing_by engine ring.nodes rows) →
        CallSays (PlanDue engine best_choice t) (PlanGiven engine best_choice t) from from (refuse TooManySplit 0 0)
    split-refused from many = none_due (of_the_split of (too_many_split many)) (record { answer = refl; buffer = refl })

    module _ (new : List Routed) (few : splits (split_routing_by engine ring.nodes rows) ≤ most_split) (best : IsBest ring.nodes (split_routing_by engine ring.nodes rows) new) where
      best-plan : PlanBy engine best_choice ring rows (sheet_of ring (rule_a ring.nodes rows) new)
      best-plan = record { ways = new; go = by_best_choice few best; is = refl }

      pub best-says : (p : Plan) → p ≡ plan_in (sheet_of ring (rule_a ring.nodes rows) new) → (n : ℕ) → n ≡ ring.nodes → (from to : List ℕ) (r : Answer) →
          Fills (Ok (write_sheet (sheet_in p.figures new (take n p.links)))) from to r →
          CallSays (PlanDue engine best_choice t) (PlanGiven engine best_choice t) from to r
      best-says p e n nodes from to r f =
          every_call
          (is_due (record { ring = ring; rs = rows; of = of; x = sheet_of ring (rule_a ring.nodes rows) new; plan = best-plan; is = ap write_sheet (is-sheet ring (rule_a ring.nodes rows) new p e n nodes) }))
          f

  pub best-few : (new : List Routed) → IsBest ring.nodes (split_routing_by engine ring.nodes rows) new → length new ≤ desk.rows
  best-few new best =
      omega (arith, demands-length new, ap length (ap demands best.choice.same ∙ (divides-by engine ring.nodes rows range.within.few range.within.rows.nodes).same), range.within.count)
