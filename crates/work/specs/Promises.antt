-- To believe: what the calls of the working table promise: each reason exactly when it holds and none before it does; else the place, the cut and the table, or
-- the row at a place.
use Rattle.std.specs.Prelude.{ℕ, ◌≤◌, ◌<◌, Result, Ok, Err, List, ◌↔◌, ◌≡◌}
use Rattle.ring.specs.declared.types.Demand.{Demand}
use Rattle.across.specs.Triangle.{at}
use Rattle.reasons.specs.Findings.{Given, NoneHolds}
use Rattle.reasons.specs.declared.reason.Reason.{Reason}
use Rattle.reasons.specs.declared.reason.Reason.TheVariants.{NoRow}
use Rattle.work.specs.Places.{Place, PlaceTable, PlaceHolds, HoldsNone, table_held}
use Rattle.work.specs.Calls.{Call, WorkAnswer, findings, Makes, acceptance, Does}
use Rattle.work.specs.True.{TrueTable}
use Rattle.work.specs.declared.Work.{Work}

-- ---- the calls that alter a table

-- all that a call c on the table w promises of its answer a and of the table x that it leaves
pub record WorkPromise (w : Work) (c : Call) (a : WorkAnswer) (x : Work) : Type 0 where
  -- it does what the list of places does;
  pub cases : Does (table_held w) c a (table_held x)
  -- a reason is given exactly when it holds and none before it does;
  pub refuses : (reason : Reason) → (a ≡ Err reason) ↔ Given (findings (table_held w) c) reason 0
  -- and then nothing is changed;
  pub unchanged : (reason : Reason) → a ≡ Err reason → x ≡ w
  -- a place, rule A's cut of the rows then held, and the table that holds them, exactly when no reason holds and the call makes this
  pub accepts : (p : ℕ) (u : PlaceTable) → ((a ≡ acceptance p u) × (table_held x ≡ u)) ↔ (NoneHolds (findings (table_held w) c) × Makes (table_held w) c p u)

-- two structs keep one cut, and the same number for each pair of links of the ring
pub record SameNumbers (x y : Work) : Type 0 where
  pub cut : x.cut ≡ y.cut
  pub numbers : (g h : ℕ) → 1 ≤ g → g < h → h ≤ y.ring.nodes → at x.triangle g h ≡ at y.triangle g h

-- no other answer keeps such a promise, and no struct that is another table; and what it keeps is the same
pub record OnlyThis {A : Type 0} (Promise : A → Work → Type 0) (a : A) (x : Work) : Type 0 where
  pub answer : (b : A) (y : Work) → Promise b y → b ≡ a
  pub table : (b : A) (y : Work) → Promise b y → table_held y ≡ table_held x
  pub kept : (b : A) (y : Work) → Promise b y → TrueTable y → SameNumbers y x

-- ---- the row at a place

-- one of the two is the case
pub data RowSays (ps : List Place) (p : ℕ) (a : Result Demand Reason) : Type 0 where
  none_there : HoldsNone ps p → a ≡ Err NoRow → RowSays ps p a
  row_there : (r : Demand) → PlaceHolds ps p r → a ≡ Ok r → RowSays ps p a

-- 22 exactly when the place holds no row, else the row
pub record RowPromise (w : Work) (p : ℕ) (a : Result Demand Reason) : Type 0 where
  pub cases : RowSays (table_held w).places p a
  pub refuses : (a ≡ Err NoRow) ↔ HoldsNone (table_held w).places p
  pub says : (r : Demand) → (a ≡ Ok r) ↔ PlaceHolds (table_held w).places p r

-- no other answer keeps it
abbrev pub OnlyRow : Work → ℕ → Result Demand Reason → Type 0
OnlyRow w p a = (b : Result Demand Reason) → RowPromise w p b → b ≡ a
