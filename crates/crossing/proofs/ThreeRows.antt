-- An example, computed: three rows that all cross; and by it rule D does not keep to the bound.
use Prim.Native.Nat.{◌*◌, ◌^◌, ◌≤◌}
use mathlib.Core.List.{List}
use mathlib.Core.Path.{◌≡◌, refl, ap, ◌∙◌, subst}
use mathlib.Core.Logic.{inl}
use native.Mathlib.Omega.{arith}
use lib.Count.{ones}
use Rattle.ring.specs.Lists.{none, more, no_pair, and_pairs, one_member, step}
use Rattle.ring.specs.declared.types.Sent.{Sent}
use Rattle.ring.specs.declared.types.Routed.{Routed}
use Rattle.ring.specs.RuleA.{rule_a}
use Rattle.ring.specs.RuleD.{rule_d}
use Rattle.ring.specs.Routing.{unsplit_load, peak}
use Rattle.ring.specs.Crossing.{crosses}
use Rattle.ring.specs.Sheet.{sheet_of}
use Rattle.ring.specs.TableRows.{TableRows}
use Rattle.engines.specs.declared.Engine.{Engine}
use Rattle.engines.specs.Engine.{split_routing_by, plan_by}
use Rattle.best.specs.Best.{splits, IsBest}
use Rattle.best.specs.Choices.{choose, tried_of, best_over}
use Rattle.best.proofs.BestWays.{best-unique, best-leads, is-best}
use Rattle.router.proofs.PlansBy.{rule-D-plan}
use Rattle.crossing.specs.AllCross.{AllCross, largest_amount, halves}
use Rattle.crossing.proofs.Crossed.{halved-where-all-cross}
use Rattle.crossing.specs.Laws.{three, ring_of_six, ThreeCross, NotOfRuleD}

cross : AllCross three
unfolding crosses
cross =
    and_pairs (more (λ p q. refl) (more (λ p q. refl) none))
    (and_pairs (more (λ p q. refl) none)
    (and_pairs none no_pair))

table : TableRows 6 three
table =
    record {
      nodes =
          more (record { low = omega arith; order = omega arith; high = omega arith })
          (more (record { low = omega arith; order = omega arith; high = omega arith })
          (more (record { low = omega arith; order = omega arith; high = omega arith }) none));
      order = step (inl (omega arith)) (step (inl (omega arith)) one_member);
    }

-- half of each row goes either way, whichever engine splits them
halved-rows : (engine : Engine) → split_routing_by engine 6 three ≡ halves three
halved-rows engine = halved-where-all-cross engine 6 three (omega arith) table cross

rule-D-peak : peak (unsplit_load (rule_d (halves three))) 6 ≡ 19
unfolding rule_d unsplit_load peak
rule-D-peak = refl

best-peak : (ways : List Routed) → IsBest 6 (halves three) ways → peak (unsplit_load ways) 6 ≡ 16
unfolding best_over choose unsplit_load peak ones
best-peak ways best =
    let ss = halves three in
    let all = best_over (tried_of 6 ss) 0 (2 ^ splits ss) (tried_of 6 ss 0) in
    ap (λ (w : List Routed). peak (unsplit_load w) 6) (best-unique 6 ss ways (choose all.choice ss) best (is-best 6 ss all (best-leads 6 ss))) ∙ refl

plan-peak : (engine : Engine) → (plan_by engine ring_of_six three).unsplit_peak ≡ 19
unfolding sheet_of
plan-peak engine = ap (λ (ss : List Sent). peak (unsplit_load (rule_d ss)) 6) (halved-rows engine) ∙ rule-D-peak

pub three-cross : ThreeCross
unfolding rule_a largest_amount
three-cross =
    record {
      cross = cross;
      bound = refl;
      rule_d = plan-peak;
      best = λ engine ways is. best-peak ways (subst (λ (ss : List Sent). IsBest 6 ss ways) (halved-rows engine) is);
    }

pub not-of-rule-D : NotOfRuleD
unfolding rule_a largest_amount
not-of-rule-D engine within =
    let l = within ring_of_six three (omega arith) table cross (plan_by engine ring_of_six three) (rule-D-plan engine ring_of_six three) in
    absurd (too_high l)
  where
    too_high : 2 * (plan_by engine ring_of_six three).unsplit_peak ≤ 37 → ⊥
    too_high l = omega (arith, plan-peak engine)
