-- The listed cases in the words of what the calls promise: from the answers that they have (`CasesHold`), case by case, by what a table and a sheet are read to.
use Prim.Native.Nat.{ℕ}
use mathlib.Core.List.{List, [], ◌∷◌, ◌++◌, map}
use mathlib.Core.Path.{◌≡◌, refl, sym}
use Rattle.std.specs.Prelude.{Result, Ok, Err}
use Rattle.ring.specs.Limits.{desk}
use Rattle.ring.specs.Lists.{Each, none, more}
use Rattle.ring.specs.Sheet.{Sheet}
use Rattle.reasons.specs.Reasons.{number_of}
use Rattle.table.specs.ReadTable.{Table, table_of}
use Rattle.reasons.specs.declared.reason.Refusal.{Refusal}
use Rattle.sheet.specs.Read.{read_sheet}
use Rattle.sheet.specs.WriteSheet.{write_sheet}
use Rattle.checker.specs.Check.{check}
use Rattle.checker.specs.Printed.{printed}
use Rattle.checker.specs.Says.{Accepted}
use Rattle.checker.specs.Cases.{Claim, Case, plan_case, refusal_case, CaseAnswer, text, Y, E, claim, routing, checking, claiming, computed, stated, cases}
use Rattle.checker.proofs.CasesHold.{cases-hold}
use Rattle.checker.proofs.Reasons.{given, accepted-is}
use Rattle.engines.specs.declared.Engine.{Engine}
use Rattle.engines.specs.Engine.{plan_by}
use Rattle.router.specs.Plans.{rule_D}
use Rattle.router.proofs.PlansBy.{rule-D-plan}
use Rattle.ringkit.specs.Texts.{PlanDue}
use Rattle.ringkit.proofs.TableCalls.{read_is}
use Rattle.laws.specs.Cases.{GivenNumber, planned, refused as refused_case, Promised, CasesPromised}

-- ---- one answer

due : (engine : Engine) (t sheet : List ℕ) (x : Result Table Refusal) → table_of desk t ≡ x → routing engine x ≡ text sheet → PlanDue engine rule_D t sheet
unfolding routing
due engine t sheet (Ok x) e a =
    let same : write_sheet (plan_by engine x.0 x.1) ≡ sheet = cc in
    record { ring = x.0; rs = x.1; of = (read_is t x.0 x.1).0 e; x = plan_by engine x.0 x.1; plan = rule-D-plan engine x.0 x.1; is = sym same }
due engine t sheet (Err r) e a = absurd (no-text a)
  where
    no-text : {reason line byte : ℕ} {sheet : List ℕ} → E reason line byte ≡ text sheet → ⊥
    no-text e = cc

sheet-accepted : (t : List ℕ) (x : Result Sheet Refusal) → check desk t ≡ x → checking x ≡ Y → Accepted desk t
unfolding checking
sheet-accepted t (Ok x) e a = (accepted-is t).0 (record { x = x; is = e })
sheet-accepted t (Err r) e a = absurd (no-yes a)
  where
    no-yes : {reason line byte : ℕ} → E reason line byte ≡ Y → ⊥
    no-yes e = cc

sheet-refused : (t : List ℕ) (number line byte : ℕ) (x : Result Sheet Refusal) → check desk t ≡ x → checking x ≡ E number line byte → GivenNumber t number line byte
unfolding checking
sheet-refused t number line byte (Ok x) e a = absurd (no-refusal a)
  where
    no-refusal : {reason line byte : ℕ} → Y ≡ E reason line byte → ⊥
    no-refusal e = cc
sheet-refused t number line byte (Err r) e a =
    let numbers : number_of r.reason ≡ number = cc in
    let lines : r.line ≡ line = cc in
    let bytes : r.byte ≡ byte = cc in
    let first = (given t r).0 e in
    record { reason = r.reason; numbered = numbers; given = rw (lines, bytes) at first }

-- ---- the list

-- behind as many answers to claims the lists go on alike
behind : (f g : Claim → CaseAnswer) (claims : List Claim) {us vs : List CaseAnswer} → map f claims ++ us ≡ map g claims ++ vs → us ≡ vs
behind f g [] e = e
behind f g (c ∷ cs) {us = us} {vs = vs} e =
    let tails : map f cs ++ us ≡ map g cs ++ vs = cc in
    behind f g cs {us = us} {vs = vs} tails

promised : (cs : List Case) → computed cs ≡ stated cs → Each Promised cs
unfolding computed stated
promised [] e = none
promised (plan_case engine rows sheet claims ∷ cs) e =
    let routed : routing engine (table_of desk (printed rows)) ≡ text (printed sheet) = cc in
    let checked : checking (check desk (printed sheet)) ≡ Y = cc in
    let rest : map (claiming (read_sheet desk (printed sheet))) claims ++ computed cs ≡ map claim claims ++ stated cs = cc in
    more (planned (due engine (printed rows) (printed sheet) _ refl routed) (sheet-accepted (printed sheet) _ refl checked))
    (promised cs (behind (claiming (read_sheet desk (printed sheet))) claim claims rest))
promised (refusal_case sheet reason line byte claims ∷ cs) e =
    let checked : checking (check desk (printed sheet)) ≡ E reason line byte = cc in
    let rest : map (claiming (read_sheet desk (printed sheet))) claims ++ computed cs ≡ map claim claims ++ stated cs = cc in
    more (refused_case (sheet-refused (printed sheet) reason line byte _ refl checked))
    (promised cs (behind (claiming (read_sheet desk (printed sheet))) claim claims rest))

pub cases-promised : CasesPromised
cases-promised = promised cases cases-hold
