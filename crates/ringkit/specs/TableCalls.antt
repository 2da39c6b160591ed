-- Internal: the outcome of the calls that read a table: its refusals (then 15), or the text that is due to its values; and of writing a working table out.
use Rattle.std.specs.Prelude.{ℕ, List, Ok}
use Rattle.ring.specs.Limits.{desk}
use Rattle.ring.specs.declared.types.Ring.{Ring}
use Rattle.ring.specs.declared.types.Demand.{Demand}
use Rattle.reasons.specs.AndThen.{and_then}
use Rattle.engines.specs.declared.Engine.{Engine}
use Rattle.engines.specs.Engine.{plan_by}
use Rattle.table.specs.Table.{write_table}
use Rattle.table.specs.ReadTable.{table_of}
use Rattle.work.specs.HeldRing.{ring_held}
use Rattle.work.specs.Keys.{sorted_rows}
use Rattle.work.specs.declared.Work.{Work}
use Rattle.sheet.specs.WriteSheet.{write_sheet}
use Rattle.ringkit.specs.Outcome.{Outcome}

-- reading a table and writing what is due to its values
abbrev pub table_due : (Ring → List Demand → List ℕ) → List ℕ → Outcome
table_due due t = and_then (table_of desk t) λ x. Ok (due x.0 x.1)

-- its values afresh
abbrev pub table_afresh : List ℕ → Outcome
table_afresh = table_due write_table

-- its sheet by an engine and rule D
abbrev pub table_routed : Engine → List ℕ → Outcome
table_routed engine = table_due λ ring rs. write_sheet (plan_by engine ring rs)

-- writing out a working table, whatever its bytes
abbrev pub work_written : Work → Outcome
work_written w = Ok (write_table (ring_held w.ring) (sorted_rows w))
