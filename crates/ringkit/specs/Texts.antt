-- To believe: which values a text is the table or the sheet of, and which text is due to it.
use Rattle.std.specs.Prelude.{ℕ, ◌≤◌, List, ◌≡◌}
use Rattle.ring.specs.Limits.{desk}
use Rattle.ring.specs.declared.types.Ring.{Ring}
use Rattle.ring.specs.declared.types.Demand.{Demand}
use Rattle.ring.specs.Sheet.{Sheet}
use Rattle.ring.specs.True.{TrueSheet}
use Rattle.sheet.specs.Range as sheet_range
use Rattle.sheet.specs.WriteSheet.{write_sheet}
use Rattle.table.specs.Says.{Given}
use Rattle.table.specs.Table.{write_table, InRange}
use Rattle.reasons.specs.declared.reason.Reason.{Reason}
use Rattle.reasons.specs.declared.reason.Reason.TheVariants.{TooManySplit}
use Rattle.best.specs.Best.{splits, most_split}
use Rattle.engines.specs.declared.Engine.{Engine}
use Rattle.engines.specs.Engine.{split_routing_by}
use Rattle.router.specs.Plans.{Rule, rule_D, best_choice, PlanBy, NoPlanBy}

-- t is the table of these values, and they are in the desk's range
pub record TableOf (t : List ℕ) (ring : Ring) (rs : List Demand) : Type 0 where
  pub text : t ≡ write_table ring rs
  pub range : InRange desk ring rs

-- t is the sheet of these values, they are in the desk's range, and the sheet is true
pub record SheetOf (t : List ℕ) (x : Sheet) : Type 0 where
  pub text : t ≡ write_sheet x
  pub range : sheet_range.InRange desk x
  pub true_sheet : TrueSheet x

-- it is one of some values
pub record SomeSheet (t : List ℕ) : Type 0 where
  pub x : Sheet
  pub of : SheetOf t x

-- t is the sheet of some values in the desk's range, true or not
pub record SomeForm (t : List ℕ) : Type 0 where
  pub x : Sheet
  pub text : t ≡ write_sheet x
  pub range : sheet_range.InRange desk x

-- ---- what is due

-- the sheet that is due to a table: that of its plan by the engine and the rule that are asked for
pub record PlanDue (engine : Engine) (rule : Rule) (t text : List ℕ) : Type 0 where
  pub ring : Ring
  pub rs : List Demand
  pub of : TableOf t ring rs
  pub x : Sheet
  pub plan : PlanBy engine rule ring rs x
  pub is : text ≡ write_sheet x

-- what is given to a table that is planned: its own reasons; then 23, where it has no plan by these
pub data PlanGiven (engine : Engine) (rule : Rule) (t : List ℕ) : Reason → ℕ → ℕ → Type 0 where
  of_the_rows : {reason : Reason} {line byte : ℕ} → Given desk t reason line byte
      → PlanGiven engine rule t reason line byte
  of_the_split : {ring : Ring} {rs : List Demand} → TableOf t ring rs → NoPlanBy engine ring rs rule
      → PlanGiven engine rule t TooManySplit 0 0

-- t is a table of which rules A to C, by this engine, leave at most 16 rows split
pub record FewSplit (engine : Engine) (t : List ℕ) : Type 0 where
  pub ring : Ring
  pub rs : List Demand
  pub of : TableOf t ring rs
  pub few : splits (split_routing_by engine ring.nodes rs) ≤ most_split

-- rule D takes every table, the best choice one of these
abbrev pub Takes : Engine → Rule → List ℕ → Type 0
Takes engine rule_D t = Unit
Takes engine best_choice t = FewSplit engine t

-- t is a table on a ring of at most so many nodes
pub record OnRingUpTo (most : ℕ) (t : List ℕ) : Type 0 where
  pub ring : Ring
  pub rs : List Demand
  pub of : TableOf t ring rs
  pub small : ring.nodes ≤ most

-- the text that is due where an accepted text is read and written again: the same bytes
pub record Itself (Accepted : Type 0) (t text : List ℕ) : Type 0 where
  pub accepted : Accepted
  pub same : text ≡ t
