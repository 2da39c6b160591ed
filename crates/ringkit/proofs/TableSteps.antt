-- A table that was read: what reading said gives the outcome each way out of a call, whatever comes of the table's values.
use Prim.Native.Nat.{ℕ, ◌≤◌}
use mathlib.Core.List.{List}
use mathlib.Core.Path.{◌≡◌}
use native.Mathlib.Omega.{arith}
use lib.ListN.{length}
use Rattle.ring.specs.Limits.{desk}
use Rattle.ring.specs.declared.types.Ring.{Ring}
use Rattle.ring.specs.declared.types.Demand.{Demand}
use Rattle.ring.specs.declared.types.Routed.{Routed}
use Rattle.ring.specs.Sheet.{sents, demands}
use Rattle.ring.proofs.Small.{demands-length}
use Rattle.reasons.specs.AndThen.{and_then}
use Rattle.table.specs.ReadTable.{Table, table_of}
use Rattle.table.specs.ReadInto.{with_rows}
use Rattle.std.specs.Prelude.{Result, Ok, Err}
use Rattle.reasons.specs.declared.reason.Refusal.{Refusal}
use Rattle.table.proofs.Told.{read-table, read-refusal, read-range}
use Rattle.ringkit.specs.Outcome.{Outcome, Fills}
use Rattle.ringkit.specs.Says.{Answer}
use Rattle.ringkit.proofs.FillSteps.{refuses, same-fills}

module _ (s : List ℕ) (rs : List Demand) (answer : Result Ring Refusal) (e : with_rows rs answer ≡ table_of desk s) (next : Table → Outcome) where
  pub table-refused : (old : List ℕ) (x : Refusal) → answer ≡ Err x → Fills (and_then (table_of desk s) next) old old (Err x)
  table-refused old x a = refuses (and_then (table_of desk s) next) old x (rw (read-refusal s rs answer e x a))

  pub table-fills : (ring : Ring) → answer ≡ Ok ring → (old new : List ℕ) (r : Answer) → Fills (next (ring, rs)) old new r → Fills (and_then (table_of desk s) next) old new r
  table-fills ring a old new r = same-fills old new r (rw (read-table s rs answer e ring a))

-- as many rows as their demands, which are in range
pub rows-have-room : (s : List ℕ) (rows : List Routed) (answer : Result Ring Refusal) → with_rows (demands (sents rows)) answer ≡ table_of desk s → (ring : Ring) → answer ≡ Ok ring
    → length rows ≤ desk.rows
rows-have-room s rows answer e ring a = let few = (read-range s (demands (sents rows)) answer e ring a).within.count in omega (arith, demands-length rows)
