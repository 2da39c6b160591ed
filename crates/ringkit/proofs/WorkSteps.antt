-- Writing a working table out: the demands of the columns are the sorted rows, and have room.
use Prim.Native.Nat.{ℕ, ◌≤◌}
use mathlib.Core.List.{List, map}
use mathlib.Core.Path.{◌≡◌, ap, refl}
use native.Mathlib.Omega.{arith}
use lib.ListN.{length}
use Rattle.std.specs.Prelude.{Ok}
use Rattle.ring.specs.Limits.{desk}
use Rattle.ring.specs.Sheet.{sents, demands}
use Rattle.ring.specs.declared.types.Ring.{Ring}
use Rattle.ring.specs.declared.types.Routed.{Routed}
use Rattle.ring.proofs.Small.{demands-length}
use Rattle.rows.specs.Columns.{unsent}
use Rattle.rows.proofs.Demands.{demands-told}
use Rattle.table.specs.Table.{write_table}
use Rattle.work.specs.Keys.{sorted_rows}
use Rattle.work.specs.declared.Work.{Work}
use Rattle.work.proofs.SortedRows.{sorted-few}
use Rattle.work.specs.HeldRing.{ring_held}
use Rattle.ringkit.specs.Outcome.{Fills}
use Rattle.ringkit.specs.TableCalls.{work_written}
use Rattle.ringkit.specs.Says.{Answer}
use Rattle.ringkit.proofs.FillSteps.{same-fills}

module _ (w : Work) (rs : List Routed) (all : rs ≡ map unsent (sorted_rows w)) where
  e : demands (sents rs) ≡ sorted_rows w
  e = demands-told rs (sorted_rows w) all

  pub rows-have-room : length rs ≤ desk.rows
  rows-have-room = omega (arith, demands-length rs, ap length e, sorted-few w)

  pub rows_written : (ring : Ring) → ring ≡ ring_held w.ring → (old new : List ℕ) (r : Answer) → Fills (Ok (write_table ring (demands (sents rs)))) old new r → Fills (work_written w) old new r
  rows_written ring f old new r = same-fills old new r (rw (f, e) refl)
