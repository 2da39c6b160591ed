-- The calls that route a table keep their promise, by whichever rule (`Calls`): a sheet is due or a refusal given, and one only; `longest` is room for every sheet; and what is written the checker
-- accepts, finds no parallel split pair in, and it is no higher than rule D's.
use Prim.Native.Nat.{ℕ, ◌≤◌}
use mathlib.Core.List.{List}
use mathlib.Core.Path.{◌≡◌, refl, ap, ◌∙◌, sym, subst}
use native.Mathlib.Omega.{arith}
use lib.ListN.{length}
use Rattle.std.specs.Prelude.{Result, Ok, Err, IsOk, IfOk, IfErr, ◌≢◌}
use Rattle.ring.specs.Limits.{desk}
use Rattle.ring.specs.RuleA.{rule_a}
use Rattle.ring.specs.WithinLimits.{WithinLimits}
use Rattle.ring.specs.declared.types.Ring.{Ring}
use Rattle.ring.specs.declared.types.Demand.{Demand}
use Rattle.ring.specs.Sheet.{Sheet, sents, demands}
use Rattle.engines.specs.declared.Engine.{Engine}
use Rattle.engines.specs.Engine.{plan_by}
use Rattle.ring.specs.True.{TrueSheet}
use Rattle.best.proofs.BestTrue.{few-enough}
use Rattle.reasons.specs.Reasons.{number_of}
use Rattle.table.specs.ReadInto.{with_rows}
use Rattle.reasons.specs.AndThen.{and_then}
use Rattle.table.specs.ReadTable.{Table, table_of}
use Rattle.table.specs.Says.{Accepted}
use Rattle.table.specs.Table as table
use Rattle.reasons.specs.declared.reason.Reason.{Reason}
use Rattle.reasons.specs.declared.reason.Reason.TheVariants.{NoRoom, TooManySplit}
use Rattle.reasons.specs.declared.reason.Refusal.{Refusal}
use Rattle.table.proofs.Said.{not-15}
use Rattle.table.proofs.ReasonsGiven.{one-given, given}
use Rattle.table.proofs.Told.{read-table, read-refusal}
use Rattle.sheet.specs.Range.{longest}
use Rattle.sheet.specs.WriteSheet.{write_sheet}
use Rattle.sheet.proofs.Short.{desk-fits, true-short, true-in-range}
use Rattle.router.specs.Plans.{Rule, rule_D, best_choice, PlanBy, NoPlanBy, too_many_split}
use Rattle.router.proofs.PlansBy.{one-plan, plan-or-none, plan-ring, plan-cut, plan-sents, planned-demands, planned-true, planned-no-higher, rule-D-plan}
use Rattle.crossing.proofs.OurPair.{divided-no-pair}
use Rattle.crossing.proofs.PairLaws.{no-pair-is}
use Rattle.ringkit.specs.Outcome.{Fills}
use Rattle.ringkit.specs.Says.{Answer, CallSays, with_room, without_room, none_due, Only}
use Rattle.engines.specs.Minimal.{Minimal}
use Rattle.engines.proofs.LoweredLoads.{split-minimal}
use Rattle.ringkit.specs.Sheets.{RoutedWell, NothingBelowSheet}
use Rattle.ringkit.specs.TableCalls.{table_routed}
use Rattle.ringkit.specs.Texts.{TableOf, SheetOf, PlanDue, PlanGiven, of_the_rows, of_the_split, FewSplit, Takes, OnRingUpTo}
use Rattle.ringkit.specs.Promises.{PlanPromise}
use Rattle.ringkit.proofs.Calls.{Decided, is_due, is_given, every_call, One, promise-of, call-only, length-within, written}
use Rattle.ringkit.proofs.TableCalls.{read_is, accepted-table, same-values, no-reason}
use Rattle.ringkit.proofs.SheetCalls.{sheet-accepted, best_of}

-- ---- one text is due, or one refusal given

module _ (engine : Engine) (rule : Rule) (t : List ℕ) where
  one-refusal : {r s : Reason} {line other byte on : ℕ} → PlanGiven engine rule t r line byte → PlanGiven engine rule t s other on → (r ≡ s) × (line ≡ other) × (byte ≡ on)
  one-refusal (of_the_rows a) (of_the_rows b) = one-given a b
  one-refusal (of_the_rows a) (of_the_split of p) = absurd (no-reason of a)
  one-refusal (of_the_split of p) (of_the_rows b) = absurd (no-reason of b)
  one-refusal (of_the_split of p) (of_the_split of' q) = (refl, refl, refl)

  due-or-given : {text : List ℕ} {r : Reason} {line byte : ℕ} → PlanDue engine rule t text → PlanGiven engine rule t r line byte → ⊥
  due-or-given d (of_the_rows a) = no-reason d.of a
  due-or-given d (of_the_split of p) =
      let e = same-values of d.of in
      let er = e.0 in
      let es = e.1 in
      plan-or-none d.plan (rw (er, es) at p)

  not-full : {r : Reason} {line byte : ℕ} → PlanGiven engine rule t r line byte → r ≡ NoRoom → ⊥
  not-full (of_the_rows {reason} a) e = not-15 reason a.holds (ap number_of e)
  not-full (of_the_split of p) e = absurd (omega (arith, ap number_of e))

  pub one-due : One (PlanDue engine rule t) (PlanGiven engine rule t)
  one-due =
      record {
        text = λ a b. same a b;
        refusal = λ f g. one-refusal f g;
        apart = λ d g. due-or-given d g;
        other = λ g. not-full g;
      }
    where
      same : {x y : List ℕ} → PlanDue engine rule t x → PlanDue engine rule t y → x ≡ y
      same a b =
          let e = same-values a.of b.of in
          let er = e.0 in
          let es = e.1 in
          a.is ∙ ap write_sheet (one-plan (rw (er, es) at a.plan) b.plan) ∙ sym b.is

-- ---- the sheet that is due is a true one in range, so that the checker accepts it

module _ {engine : Engine} {rule : Rule} (ring : Ring) (rs : List Demand) (range : table.InRange desk ring rs) (x : Sheet) (p : PlanBy engine rule ring rs x) where
  is-true : TrueSheet x
  is-true = planned-true ring rs x p range.within.few range.within.rows

  keeps : WithinLimits desk x.ring (demands (sents x.rows))
  keeps = rw (plan-ring ring rs x p, planned-demands ring rs x p range.within.few range.within.rows) range.within

  is-sheet : SheetOf (write_sheet x) x
  is-sheet = record { text = refl; range = true-in-range desk desk-fits x is-true keeps; true_sheet = is-true }

  is-short : length (write_sheet x) ≤ longest desk
  is-short = true-short desk desk-fits x is-true keeps

module _ (engine : Engine) (rule : Rule) (t text : List ℕ) (d : PlanDue engine rule t text) where
  pub due-short : length text ≤ longest desk
  due-short = omega (arith, ap length d.is, is-short d.ring d.rs d.of.range d.x d.plan)

  pub due-cut : d.x.cut ≡ rule_a d.ring.nodes d.rs
  due-cut = plan-cut d.ring d.rs d.x d.plan

  pub due-sheet : SheetOf text d.x
  due-sheet = rw d.is (is-sheet d.ring d.rs d.of.range d.x d.plan)

  pub due-within : WithinLimits desk d.x.ring (demands (sents d.x.rows))
  due-within = keeps d.ring d.rs d.of.range d.x d.plan

-- ---- a table that the rule takes has a plan

few-or-many : {engine : Engine} {t : List ℕ} → FewSplit engine t → {ring : Ring} {rs : List Demand} → TableOf t ring rs → NoPlanBy engine ring rs best_choice → ⊥
few-or-many f of (too_many_split many) =
    let e = same-values of f.of in
    let er = e.0 in
    let es = e.1 in
    let more = rw (er, es) at many in
    omega (arith, f.few, more)

-- none of the refusals is given
none-given : (engine : Engine) (rule : Rule) (t : List ℕ) → Accepted desk t → Takes engine rule t → {reason : Reason} {line byte : ℕ} → PlanGiven engine rule t reason line byte → ⊥
none-given engine _ t a takes (of_the_rows {reason} {line} g) = a reason line g.holds
none-given engine rule_D t a takes (of_the_split of none) = elim none [ ]
none-given engine best_choice t a takes (of_the_split of none) = few-or-many takes of none

-- so a sheet is due
pub record SomePlan (engine : Engine) (rule : Rule) (t : List ℕ) : Type 0 where
  pub sheet : List ℕ
  pub due : PlanDue engine rule t sheet

pub some-plan : (engine : Engine) (rule : Rule) (t : List ℕ) → Accepted desk t → Takes engine rule t → {old new : List ℕ} {r : Answer} → CallSays (PlanDue engine rule t) (PlanGiven engine rule t) old new r → SomePlan engine rule t
some-plan engine _ t a takes (with_room {text} due fits s) = record { sheet = text; due = due }
some-plan engine _ t a takes (without_room {text} due large s) = record { sheet = text; due = due }
some-plan engine asked t a takes (none_due g s) = absurd (none-given engine asked t a takes g)

-- a table with few split rows is accepted, and on a ring of up to 33 nodes there are few
pub few-accepted : {engine : Engine} (t : List ℕ) → FewSplit engine t → Accepted desk t
few-accepted t f = (accepted-table t).1 (record { ring = f.ring; rs = f.rs; of = f.of })

pub small-few : (engine : Engine) (t : List ℕ) → OnRingUpTo 33 t → FewSplit engine t
small-few engine t s = record { ring = s.ring; rs = s.rs; of = s.of; few = few-enough engine s.ring.nodes s.rs s.of.range.within.few s.of.range.within.rows s.small }

-- ---- what the calls promise

module _ (engine : Engine) (rule : Rule) (t old new : List ℕ) (r : Answer) (says : CallSays (PlanDue engine rule t) (PlanGiven engine rule t) old new r) where
  -- the sheet of the plan is written, with room for it; else the table's first reason, 23 or 15
  pub plan-promise : PlanPromise engine rule t old new r
  plan-promise = promise-of (one-due engine rule t) says

  pub plan-only : Only (PlanPromise engine rule t old) new r
  plan-only = call-only plan-promise (one-due engine rule t)

  -- no sheet is longer than `longest`,
  pub plan-fits : IfOk r (λ n. n ≤ longest desk)
  plan-fits = length-within plan-promise (longest desk) (due-short engine rule t)

  module _ (a : Accepted desk t) (takes : Takes engine rule t) where
    -- so with that room each table that the rule takes is routed,
    pub always-planned : longest desk ≤ length old → IsOk r
    always-planned room = let p = some-plan engine rule t a takes says in written plan-promise p.due (omega (arith, room, due-short engine rule t p.sheet p.due))

    -- and its sheet is the best, is accepted and no higher than rule D's
    pub plan-well : RoutedWell engine rule t old new r
    unfolding best_of
    plan-well =
        let p = some-plan engine rule t a takes says in
        let d = p.due in
        let of = due-sheet engine rule t p.sheet d in
        let two = d.of.range.within.few in
        let rows = d.of.range.within.rows in
        record {
          sheet = p.sheet;
          due = d;
          written = λ fits. (plan-promise.succeeds p.sheet).1 (d, fits);
          best = best_of p.sheet d.x of;
          demands = planned-demands d.ring d.rs d.x d.plan two rows;
          checked = sheet-accepted p.sheet d.x of;
          no_pair =
              record {
                x = d.x;
                of = of;
                none = (no-pair-is (sents d.x.rows)).0 (divided-no-pair engine d.ring.nodes d.rs two rows (sents d.x.rows) (plan-sents d.ring d.rs d.x d.plan));
              };
          no_higher = planned-no-higher d.ring d.rs d.x d.plan two rows;
        }

-- of few split rows 23 is never given
pub few-not-23 : (engine : Engine) (t old new : List ℕ) (r : Answer) → CallSays (PlanDue engine best_choice t) (PlanGiven engine best_choice t) old new r → FewSplit engine t → IfErr r (λ why. why.reason ≢ TooManySplit)
few-not-23 engine t old new r (with_room due fits s) f = rw s.answer tt
few-not-23 engine t old new r (without_room due large s) f = rw s.answer (λ e. absurd (omega (arith, ap number_of e)))
few-not-23 engine t old new r (none_due g s) f = absurd (none-given engine best_choice t (few-accepted t f) f g)

-- ---- by lowered rooms

pub nothing-below : (rule : Rule) (t : List ℕ) → NothingBelowSheet rule t
nothing-below asked t sheet d =
    subst (Minimal d.ring.nodes d.rs) (sym (plan-sents d.ring d.rs d.x d.plan))
    (split-minimal d.ring.nodes d.rs d.of.range.within.few d.of.range.within.rows.nodes)

-- ---- by rule D

rule-D-decided : (engine : Engine) (t : List ℕ) (x : Result Table Refusal) → table_of desk t ≡ x
    → Decided (PlanDue engine rule_D t) (PlanGiven engine rule_D t) (and_then x λ y. Ok (write_sheet (plan_by engine y.0 y.1)))
rule-D-decided engine t (Ok y) e =
    is_due (record { ring = y.0; rs = y.1; of = (read_is t y.0 y.1).0 e; x = plan_by engine y.0 y.1; plan = rule-D-plan engine y.0 y.1; is = refl })
rule-D-decided engine t (Err r) e = is_given (of_the_rows ((given desk t r).0 e))

pub route-says : (engine : Engine) (t old new : List ℕ) (r : Answer) → Fills (table_routed engine t) old new r → CallSays (PlanDue engine rule_D t) (PlanGiven engine rule_D t) old new r
route-says engine t old new r f = every_call (rule-D-decided engine t (table_of desk t) refl) f

-- ---- a text that was read

module _ (t : List ℕ) (rs : List Demand) (answer : Result Ring Refusal) (e : with_rows rs answer ≡ table_of desk t) where
  -- a refusal is given to it,
  pub refused-says : (engine : Engine) (rule : Rule) (old : List ℕ) (x : Refusal) → answer ≡ Err x → CallSays (PlanDue engine rule t) (PlanGiven engine rule t) old old (Err x)
  refused-says engine asked old x a = none_due (of_the_rows ((given desk t x).0 (read-refusal t rs answer e x a))) (record { answer = refl; buffer = refl })

  -- and a ring is that of the table of these rows
  pub read-table-of : (ring : Ring) → answer ≡ Ok ring → TableOf t ring rs
  read-table-of ring a = (read_is t ring rs).0 (read-table t rs answer e ring a)
