-- To believe: the text that is due to a working table, and what routing it gives: a sheet whose C line is the cut that the last accepted answer named.
use Rattle.std.specs.Prelude.{ℕ, ◌≤◌, List, ◌≡◌, length}
use Rattle.ring.specs.Limits.{desk}
use Rattle.ring.specs.RuleA.{rule_a}
use Rattle.ring.specs.declared.types.Demand.{Demand}
use Rattle.ring.specs.Sheet.{Sheet}
use Rattle.table.specs.Table.{write_table, InRange, table_room}
use Rattle.reasons.specs.declared.reason.Reason.{Reason}
use Rattle.sheet.specs.Range.{longest}
use Rattle.sheet.specs.WriteSheet.{write_sheet}
use Rattle.work.specs.HeldRing.{ring_held}
use Rattle.work.specs.Places.{table_held}
use Rattle.work.specs.Calls.{Call}
use Rattle.work.specs.Sorted.{Sorted}
use Rattle.work.specs.True.{held}
use Rattle.work.specs.Made.{Made}
use Rattle.work.specs.Played.{Played}
use Rattle.work.specs.declared.Work.{Work}
use Rattle.engines.specs.declared.Engine.{Engine}
use Rattle.router.specs.Plans.{Rule}
use Rattle.ringkit.specs.Says.{Answer, Success}
use Rattle.ringkit.specs.Texts.{Takes}
use Rattle.ringkit.specs.Promises.{PlanPromise}

-- the table of the rows held, by nodes, then by place
pub record WorkDue (w : Work) (text : List ℕ) : Type 0 where
  pub rs : List Demand
  pub sorted : Sorted (table_held w).places rs
  pub is : text ≡ write_table (ring_held w.ring) rs

-- what is written of a table: the rows held, sorted; a table in range; with the cut of the rows held
pub record WritesOut (w : Work) (rs : List Demand) : Type 0 where
  pub sorted : Sorted (table_held w).places rs
  pub range : InRange desk (ring_held w.ring) rs
  pub cut : rule_a w.ring.nodes rs ≡ rule_a w.ring.nodes (held w)
  pub short : length (write_table (ring_held w.ring) rs) ≤ table_room desk

-- but for 15, writing it has no refusal
abbrev pub NoRefusal : Reason → ℕ → ℕ → Type 0
NoRefusal reason line byte = ⊥

-- ---- routing what was written

-- the sheet x is written at the start of the buffer, and its cut is the one that the calls played lead to
pub record RoutedCut (cs : List Call) (w : Work) (old new : List ℕ) (r : Answer) : Type 0 where
  pub x : Sheet
  pub success : Success (write_sheet x) old new r
  pub cut : Played cs (table_held w) x.cut

-- with room for the longest sheet, the table that is due to a struct made by calls is routed by an engine and a rule that takes it, and the cut is the one that
-- the last accepted answer named
abbrev pub RoutedAsNamed : Type 0
RoutedAsNamed =
    (engine : Engine) (rule : Rule) (calls : List Call) (w : Work) → Made calls w → (text : List ℕ) → WorkDue w text
    → Takes engine rule text → (old new : List ℕ) (r : Answer) → PlanPromise engine rule text old new r
    → longest desk ≤ length old → RoutedCut calls w old new r
