-- The least peak beside the peaks of the calls of its rules: what is due to one table are ways by these rules, of which none have a lower peak.
use Prim.Native.Nat.{ℕ, ◌≤◌}
use mathlib.Core.List.{List}
use mathlib.Core.Path.{◌≡◌, refl, ap, ◌∙◌, sym}
use native.Mathlib.Omega.{arith}
use lib.ListN.{length}
use Rattle.std.specs.Prelude.{IfOk}
use Rattle.ring.specs.Limits.{desk}
use Rattle.ring.specs.RuleA.{rule_a}
use Rattle.ring.specs.declared.types.Demand.{Demand}
use Rattle.ring.specs.declared.types.Ring.{Ring}
use Rattle.ring.specs.declared.types.Routed.{Routed}
use Rattle.ring.specs.Sheet.{Sheet, sheet_of}
use Rattle.engines.specs.declared.Engine.{Engine}
use Rattle.engines.specs.Engine.{split_routing_by}
use Rattle.router.specs.Plans.{Rule, rule_D, best_choice, GoBy, PlanBy}
use Rattle.sheet.specs.WriteSheet.{write_sheet}
use Rattle.table.proofs.TableText.{desk-spelled}
use Rattle.sheet.proofs.Promised.{same-sheet}
use Rattle.turns.specs.Turns.{peak_of, least_start}
use Rattle.turns.proofs.StartSteps.{promised}
use Rattle.least.specs.declared.rule.LeastRule.{LeastRule}
use Rattle.least.specs.declared.rule.LeastRule.TheVariants.{Turns, BestChoice, RuleD}
use Rattle.least.specs.declared.Least.{Least}
use Rattle.least.specs.Least.{WaysBy, goes_turned, goes_best, goes_rule_D}
use Rattle.ringkit.specs.LeastPeak.{least_table, LeastDue, LeastSays, is_given, is_not}
use Rattle.ringkit.specs.declared.least_peak.LeastTable.{LeastTable}
use Rattle.ringkit.specs.Texts.{PlanDue}
use Rattle.ringkit.specs.Turning.{TurnAnswer, TurnSays, are_turned, are_not, TurnPromise}
use Rattle.ringkit.proofs.PlanCalls.{due-sheet, due-short}
use Rattle.ringkit.proofs.TableCalls.{same-values, no-reason}
use Rattle.laws.specs.Calls.{LeastUpToTurned, LeastUpToRouted, LeastComesFrom, ComesTo, RoutedTo, TurnedPeak}

-- which of the five rules a rule of routing is
abbrev as_rule : Engine → Rule → LeastRule
as_rule engine rule_D = RuleD engine
as_rule engine best_choice = BestChoice engine

module _ {n : ℕ} {rs : List Demand} (engine : Engine) where
  ways-of-plan : (rule : Rule) {ways : List Routed} → GoBy n (split_routing_by engine n rs) rule ways → WaysBy n rs (as_rule engine rule) ways
  ways-of-plan rule_D g = goes_rule_D g
  ways-of-plan best_choice g = goes_best g

  plan-of-ways : (rule : Rule) {ways : List Routed} → WaysBy n rs (as_rule engine rule) ways → GoBy n (split_routing_by engine n rs) rule ways
  plan-of-ways rule_D (goes_rule_D g) = g
  plan-of-ways best_choice (goes_best g) = g

-- the unsplit peak of a plan's sheet is that of its ways
plan-peak : {engine : Engine} {rule : Rule} (ring : Ring) (rs : List Demand) (x : Sheet) (p : PlanBy engine rule ring rs x) → x.unsplit_peak ≡ peak_of ring.nodes p.ways
unfolding sheet_of peak_of
plan-peak ring rs x p = ap (λ (x : Sheet). x.unsplit_peak) p.is

-- ---- no call of a rule has a lower peak

pub least-up-to-turned : LeastUpToTurned
least-up-to-turned t old new r p from to q u = go p.cases u.cases
  where
    go : LeastSays t old new r → TurnSays t from to q → IfOk r (λ x. IfOk q (λ y. x.least.peak ≤ y.turned.peak))
    go (is_not g n) s = rw n.answer tt
    go (is_given d g) (are_not given n) = absurd (no-reason d.of given)
    go (is_given d g) (are_turned {ring} {rs} of s) =
        let v = same-values of d.of in
        let er = v.0 in
        let es = v.1 in
        let turned = promised d.ring.nodes d.rs d.of.range.within.few in
        let low = d.least.sent.least Turns (least_start d.ring.nodes d.rs).rows goes_turned in
        rw (g.answer, s.answer, er, es) (omega (arith, d.least.peak, low, turned.peak))

pub least-up-to-routed : LeastUpToRouted
least-up-to-routed t old new r p engine rule from to q u sheet y s of = go p.cases
  where
    go : LeastSays t old new r → IfOk r (λ x. x.least.peak ≤ y.unsplit_peak)
    go (is_not g n) = rw n.answer tt
    go (is_given d g) =
        let due = ((u.succeeds sheet).0 s).0 in
        let v = same-values due.of d.of in
        let er = v.0 in
        let es = v.1 in
        let plan = due.plan in
        let sure = due-sheet engine rule t sheet due in
        let same = same-sheet desk desk-spelled y due.x of.range sure.range (sym of.text ∙ due.is) in
        let low = d.least.sent.least (as_rule engine rule) plan.ways (ways-of-plan engine rule (rw (er, es) at plan.go)) in
        rw g.answer (omega (arith, d.least.peak, low, ap (λ (x : Sheet). x.unsplit_peak) same, plan-peak due.ring due.rs due.x plan, ap (λ (ring : Ring). peak_of ring.nodes plan.ways) er))

-- ---- and that of the rule has this one

-- of the turns the ways are those of the best start
turned-ways : {n : ℕ} {rs : List Demand} {ways : List Routed} → WaysBy n rs Turns ways → ways ≡ (least_start n rs).rows
turned-ways goes_turned = refl

module _ (t : List ℕ) (x : Least) (bytes : List ℕ) (d : LeastDue t x bytes) where
  turned-to : WaysBy d.ring.nodes d.rs Turns d.ways → (old new : List ℕ) (r : TurnAnswer) → TurnPromise t old new r → TurnedPeak x.peak r
  turned-to w old new r u =
      let n = d.ring.nodes in
      let s = u.turns d.ring d.rs d.of in
      record {
        x = (least_start n d.rs).figures;
        count = length d.rs;
        answer = s.answer;
        same = (promised n d.rs d.of.range.within.few).peak ∙ sym (d.least.peak ∙ ap (peak_of n) (turned-ways w));
      }

  routed-to : (engine : Engine) (rule : Rule) → WaysBy d.ring.nodes d.rs (as_rule engine rule) d.ways → RoutedTo engine rule t x.peak
  unfolding sheet_of peak_of
  routed-to engine rule w old new r u room =
      let y = sheet_of d.ring (rule_a d.ring.nodes d.rs) d.ways in
      let due : PlanDue engine rule t (write_sheet y) = record { ring = d.ring; rs = d.rs; of = d.of; x = y; plan = record { ways = d.ways; go = plan-of-ways engine rule w; is = refl }; is = refl } in
      record {
        sheet = write_sheet y;
        x = y;
        of = due-sheet engine rule t (write_sheet y) due;
        success = (u.succeeds (write_sheet y)).1 (due, omega (arith, room, due-short engine rule t (write_sheet y) due));
        same = sym d.least.peak;
      }

  comes-to : (rule : LeastRule) → WaysBy d.ring.nodes d.rs rule d.ways → ComesTo t x.peak rule
  comes-to Turns w = turned-to w
  comes-to (BestChoice engine) w = routed-to engine best_choice w
  comes-to (RuleD engine) w = routed-to engine rule_D w

pub least-comes-from : LeastComesFrom
least-comes-from t old new x count p = go p.cases
  where
    go : LeastSays t old new (least_table x count) → ComesTo t x.peak x.rule
    go (is_given {x = y} {bytes} d g) =
        let e = g.answer in
        let tables : ◌≡◌ {A = LeastTable} (record { least = x; rows = count }) (record { least = y; rows = length bytes }) = cc in
        let same : x ≡ y = ap (λ (t : LeastTable). t.least) tables in
        rw same (comes-to t y bytes d y.rule d.least.sent.by)
    go (is_not g n) = absurd (let w = n.answer in let z : ◌≡◌ {A = ℕ} 0 1 = cc in omega arith)
