-- What a caller of `read_table` learns from its answer: where it is a ring, the rows stand behind it and are in range; where it is a refusal, it is the
-- text's own.
use Prim.Native.Nat.{ℕ}
use mathlib.Core.List.{List}
use mathlib.Core.Path.{◌≡◌, ◌∙◌, sym}
use Rattle.ring.specs.Limits.{desk}
use Rattle.table.specs.ReadTable.{table_of}
use Rattle.std.specs.Prelude.{Result as Outcome, Ok, Err}
use Rattle.ring.specs.declared.types.Ring.{Ring}
use Rattle.ring.specs.declared.types.Demand.{Demand}
use Rattle.table.specs.Table.{InRange}
use Rattle.reasons.specs.declared.reason.Refusal.{Refusal}
use Rattle.table.specs.ReadInto.{with_rows}
use Rattle.table.proofs.TableText.{desk-spelled, table-text}

module _ (s : List ℕ) (rs : List Demand) (answer : Outcome Ring Refusal) (e : with_rows rs answer ≡ table_of desk s) where
  pub read-refusal : (x : Refusal) → answer ≡ Err x → table_of desk s ≡ Err x
  read-refusal x a = sym e ∙ rw a

  module _ (ring : Ring) (a : answer ≡ Ok ring) where
    pub read-table : table_of desk s ≡ Ok (ring, rs)
    read-table = sym e ∙ rw a

    pub read-range : InRange desk ring rs
    read-range = ((table-text desk desk-spelled s ring rs).0 read-table).1
