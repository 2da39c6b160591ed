-- To believe: there and back: what one call wrote, read by another, gives what was there before.
use Rattle.std.specs.Prelude.{ℕ, ◌≤◌, List, ◌≡◌, length}
use Rattle.ring.specs.Limits.{desk}
use Rattle.ring.specs.declared.types.Ring.{Ring}
use Rattle.ring.specs.declared.types.Demand.{Demand}
use Rattle.table.specs.Says.{Accepted}
use Rattle.ringkit.specs.Says.{Answer, Success}
use Rattle.ringkit.specs.Texts.{TableOf}
use Rattle.ringkit.specs.Promises.{RewriteTablePromise}

-- a text is the table of some values
pub record SomeTable (t : List ℕ) : Type 0 where
  pub ring : Ring
  pub rs : List Demand
  pub of : TableOf t ring rs

-- a table there and back
pub record TableThereAndBack : Type 0 where
  -- an accepted text is the table of some values: these, written again, are the same bytes;
  pub read : (t : List ℕ) → Accepted desk t → SomeTable t
  -- values in range, written, are an accepted text ..
  pub written : (t : List ℕ) (ring : Ring) (rs : List Demand) → TableOf t ring rs → Accepted desk t
  -- .. that is read to no other values;
  pub same_ring : (t : List ℕ) (ring other : Ring) (rs qs : List Demand) → TableOf t ring rs → TableOf t other qs → ring ≡ other
  pub same_rows : (t : List ℕ) (ring other : Ring) (rs qs : List Demand) → TableOf t ring rs → TableOf t other qs → rs ≡ qs
  -- the call that reads a table and writes its values afresh gives, with room, the same bytes
  pub rewritten : (t old new : List ℕ) (r : Answer) → RewriteTablePromise t old new r
      → Accepted desk t → length t ≤ length old → Success t old new r
