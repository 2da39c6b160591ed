-- What the desk of the limits before these answers: by what it checks (`LowerChecks`) and reads of
-- a table (`LowerLimits`), in the words of what is given and accepted; and what it writes, by its
-- lines (`OldText`).
use Prim.Native.Nat.{ℕ, ◌+◌, ◌≤◌}
use mathlib.Core.Bool.{false≢true}
use mathlib.Core.List.{List}
use mathlib.Core.Path.{◌≡◌, refl, ap, ◌∙◌, sym, subst}
use native.Mathlib.Omega.{arith}
use lib.ListN.{length}
use Rattle.std.specs.Prelude.{Ok}
use Rattle.family.specs.Sizes.{Known}
use Rattle.family.specs.declared.family.Family.{Family}
use Rattle.family.specs.declared.family.Family.TheVariants.{Sonet, Sdh}
use Rattle.ring.specs.Limits.{Limits, old, desk}
use Rattle.ring.specs.WithinLimits.{WithinLimits}
use Rattle.ring.specs.declared.types.Ring.{Ring}
use Rattle.ring.specs.declared.types.Demand.{Demand}
use Rattle.ring.specs.Sheet.{Sheet, plan}
use Rattle.reasons.specs.Refusals.{refusal}
use Rattle.reasons.specs.declared.reason.Reason.TheVariants.{Misshapen, RingSize, TooMany}
use Rattle.reasons.proofs.LowerLimits.{old-lower}
use Rattle.table.specs.ReadTable.{table_of}
use Rattle.table.specs.Spelled.{LimitsSpelled}
use Rattle.table.specs.Table.{InRange, write_table}
use Rattle.table.proofs.LowerTables.{low-spelled, old-table-accepted}
use Rattle.table.proofs.ReasonsGiven.{accepted-is}
use Rattle.table.proofs.TableText.{desk-spelled, table-text}
use Rattle.sheet.specs.WriteSheet.{write_sheet}
use Rattle.sheet.proofs.Short.{old-fits, plan-within}
use Rattle.checker.specs.Check.{check}
use Rattle.checker.proofs.LowerChecks.{old-marked, old-nodes, old-rows, old-same, old-accepted, old-refused}
use Rattle.checker.proofs.Reasons.{given-by, accepted-by}
use Rattle.engines.specs.declared.Engine.TheVariants.{Level}
use Rattle.engines.specs.Engine.{plan_by}
use Rattle.engines.proofs.Engines.{as-before}
use Rattle.router.specs.Plans.{rule_D}
use Rattle.router.proofs.PlansBy.{rule-D-plan}
use Rattle.ringkit.specs.Texts.{PlanDue}
use Rattle.ringkit.proofs.TableCalls.{read_is}
use Rattle.ringkit.proofs.PlanCalls.{one-due}
use Rattle.laws.specs.OldText.{table_lines, sheet_lines, LinesSpelled}
use Rattle.laws.specs.Old.{RoutedBefore, SameBytes, byte_of_lf, AcceptedAs, BeyondOld, OldAccepted, OldRefused}
use Rattle.laws.proofs.OldText.{one-text, table-spelled, sheet-spelled}

pub old-spelled : LimitsSpelled old
old-spelled = low-spelled old-lower

-- ---- tables

-- within the limits before no ring is of the SDH family
sonet : (family : Family) → Known old.marks family → family ≡ Sonet
sonet Sonet known = refl
sonet Sdh known = absurd (false≢true known)

module _ (ring : Ring) (rs : List Demand) (w : WithinLimits old ring rs) where
  is_sonet : ring.family ≡ Sonet
  is_sonet = sonet ring.family w.family

  written-table : LinesSpelled old.digits (table_lines ring rs) (write_table ring rs)
  written-table = table-spelled old old-spelled ring rs w is_sonet

  written-sheet : InRange old ring rs
      → LinesSpelled old.digits (sheet_lines (plan ring rs)) (write_sheet (plan ring rs))
  unfolding plan
  written-sheet range =
      sheet-spelled old old-spelled (plan ring rs)
      (plan-within old old-fits (omega arith) ring rs range) is_sonet

-- the table that it reads, and the sheet of the plan, as they are written
module _ (t text : List ℕ) (q : RoutedBefore t text) where
  table-is : t ≡ write_table q.ring q.rs
  table-is = one-text old.digits old.countable q.table (written-table q.ring q.rs q.within)

  range-is : InRange old q.ring q.rs
  range-is =
      record { within = q.within; short = subst (λ t. length t ≤ old.bytes) table-is q.short }

  sheet-is : text ≡ write_sheet (plan q.ring q.rs)
  sheet-is = one-text old.digits old.countable q.sheet (written-sheet q.ring q.rs q.within range-is)

  now-read : table_of desk t ≡ Ok (q.ring, q.rs)
  now-read =
      old-table-accepted t q.ring q.rs
      ((table-text old old-spelled t q.ring q.rs).1 (table-is, range-is))

  now-due : PlanDue Level rule_D t (write_sheet (plan q.ring q.rs))
  now-due =
      record {
        ring = q.ring;
        rs = q.rs;
        of = (read_is t q.ring q.rs).0 now-read;
        x = plan_by Level q.ring q.rs;
        plan = rule-D-plan Level q.ring q.rs;
        is = sym (ap write_sheet (as-before q.ring q.rs));
      }

-- a table that it accepts
routed-before : (t : List ℕ) (ring : Ring) (rs : List Demand) → table_of old t ≡ Ok (ring, rs)
    → RoutedBefore t (write_sheet (plan ring rs))
routed-before t ring rs reads =
    let is = (table-text old old-spelled t ring rs).0 reads in
    let range = is.1 in
    let lines = written-table ring rs range.within in
    record {
      ring = ring;
      rs = rs;
      within = range.within;
      short = subst (λ t. length t ≤ old.bytes) (sym is.0) range.short;
      table = subst (LinesSpelled old.digits (table_lines ring rs)) (sym is.0) lines;
      sheet = written-sheet ring rs range.within range;
    }

pub same-text : SameBytes
unfolding routed-before
same-text t a =
    let reads = (accepted-is old t).1 a in
    let before = routed-before t reads.ring reads.rs reads.is in
    record {
      text = write_sheet (plan reads.ring reads.rs);
      before = before;
      now = now-due t (write_sheet (plan reads.ring reads.rs)) before;
      same = λ a b q r. sheet-is t a q ∙ (one-due Level rule_D t).text (now-due t a q) r;
    }

-- ---- sheets

module _ (limits : Limits) (spelled : LimitsSpelled limits) (t : List ℕ) (x : Sheet) where
  accepts : check limits t ≡ Ok x → AcceptedAs limits t x
  accepts e = let h = (accepted-by limits spelled t x).0 e in record { is = h.0; none = h.1 }

  checks : AcceptedAs limits t x → check limits t ≡ Ok x
  checks a = (accepted-by limits spelled t x).1 (a.is, a.none)

pub beyond-old : BeyondOld
beyond-old t x a =
    let e = checks desk desk-spelled t x a in
    record {
      marked = λ sdh. (given-by old old-spelled t (refusal Misshapen 1 (byte_of_lf x.ring))).0 (old-marked t x e sdh);
      nodes = λ sonet big. (given-by old old-spelled t (refusal RingSize 1 3)).0 (old-nodes t x e sonet big);
      rows = λ sonet small many. (given-by old old-spelled t (refusal TooMany (old.rows + 2) 1)).0 (old-rows t x e sonet small many);
      within = λ sonet small few. accepts old old-spelled t x (old-same t x e sonet small few);
    }

pub old-is-accepted : OldAccepted
old-is-accepted t x a = accepts desk desk-spelled t x (old-accepted t x (checks old old-spelled t x a))

pub old-is-refused : OldRefused
old-is-refused t r line byte g a b c = let s = refusal r line byte in (given-by desk desk-spelled t s).0 (old-refused t s ((given-by old old-spelled t s).1 g) a b c)
