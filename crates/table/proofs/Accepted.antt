-- Reading and writing a table are each other's inverse, from `table-text` both ways.
use mathlib.Core.List.{List}
use mathlib.Core.Path.{◌≡◌, refl, ap, ◌∙◌, sym}
use Rattle.std.specs.Prelude.{Result, Ok}
use Rattle.ring.specs.declared.types.Ring.{Ring}
use Rattle.ring.specs.declared.types.Demand.{Demand}
use Rattle.ring.specs.Limits.{Limits}
use Rattle.table.specs.Table.{write_table, InRange}
use Rattle.table.specs.ReadTable.{Table, table_of}
use Rattle.reasons.specs.declared.reason.Refusal.{Refusal}
use Rattle.table.proofs.TableText.{table-text}
use Rattle.table.specs.Spelled.{LimitsSpelled}

-- what was read is one table
pub one-table : {ring other : Ring} {rs ss : List Demand} → ◌≡◌ {A = Result Table Refusal} (Ok (ring, rs)) (Ok (other, ss)) → (ring ≡ other) × (rs ≡ ss)
one-table {ring} {other} {rs} {ss} e =
    let pair : (ring, rs) ≡ (other, ss) = cc in
    (ap (λ (x : Table). x.0) pair, ap (λ (x : Table). x.1) pair)

module _ (limits : Limits) (spelled : LimitsSpelled limits) where
  -- reading what was written gives the same values
  pub read-written : (ring : Ring) (rs : List Demand) → InRange limits ring rs → table_of limits (write_table ring rs) ≡ Ok (ring, rs)
  read-written ring rs range = (table-text limits spelled (write_table ring rs) ring rs).1 (refl, range)

  -- two tables written the same are the same table
  pub same-table : (ring other : Ring) (rs ss : List Demand) → InRange limits ring rs → InRange limits other ss → write_table ring rs ≡ write_table other ss → (ring ≡ other) × (rs ≡ ss)
  same-table ring other rs ss r s e =
      one-table (sym (read-written ring rs r) ∙ ap (table_of limits) e ∙ read-written other ss s)
