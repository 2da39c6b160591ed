-- Reading a table line by line: the rows read so far stand in the columns, and reading the rest behind them is reading the whole. One law for each
-- way on and each way out.
use Prim.Native.Nat.{ℕ, ◌+◌, ◌≤◌, ◌<◌}
use mathlib.Core.List.{List, [], ◌∷◌, ◌++◌, map}
use mathlib.Core.Path.{◌≡◌, refl, ◌∙◌, sym}
use native.Mathlib.Omega.{arith}
use lib.ListN.{length, length-append}
use borrow.Author.Tests.{lt-ltb, le-ltb}
use Rattle.std.specs.Prelude.{Result as Outcome, Ok, Err, Option}
use Rattle.ring.specs.Limits.{desk}
use Rattle.ring.specs.declared.types.Ring.{Ring}
use Rattle.ring.specs.declared.types.Demand.{Demand}
use Rattle.ring.specs.declared.types.Routed.{Routed}
use Rattle.ring.specs.Sheet.{sents, demands}
use Rattle.rows.specs.Columns.{unsent}
use Rattle.text.specs.ReadLine.{Reading as LineReading, read_line}
use Rattle.text.specs.Shapes.{row_shape}
use Rattle.text.proofs.Apart.{clash}
use Rattle.lines.specs.Lines.{lines}
use Rattle.reasons.specs.Judge.{row_verdict}
use Rattle.reasons.specs.Faults.{row_found, last_demand}
use Rattle.reasons.specs.AndThen.{and_then}
use Rattle.lines.specs.OnLine.{values_on, passed, line_judged}
use Rattle.table.specs.ReadTable.{demand_in, ring_on, row_on, rows_on_lines, table_of}
use Rattle.table.specs.ReadInto.{with_rows}
use Rattle.reasons.specs.Refusals.{refuse}
use Rattle.reasons.specs.declared.reason.Reason.TheVariants.{TooLong, Misshapen}
use Rattle.reasons.specs.declared.reason.Refusal.{Refusal}
use Rattle.reasons.specs.declared.fault.Fault.{Fault}
use Rattle.reasons.proofs.Faults.{found-none}
use Rattle.reasons.proofs.Judged.{RowJudged, row_fine, row-judged}

-- where nothing is found against a row, there is room for it
has_room : (n k : ℕ) (above : Option Demand) (r : Demand) → row_verdict desk n k above r ≡ Ok tt → k < desk.rows
has_room n k above r e = go (rw e at (row-judged desk n k above r))
  where
    go : RowJudged desk n k above r (Ok tt) → k < desk.rows
    go (row_fine on order room most) = room

row-room : (ring : Ring) (rs : List Demand) (l : List ℕ) (r : Demand) → row_on desk ring rs l ≡ Ok r → length rs < desk.rows
unfolding row_on line_judged values_on passed row_found
row-room ring rs l r e = go (read_line desk.digits row_shape l) e
  where
    against : List ℕ → Outcome Unit Fault
    against vs = row_found desk ring.nodes (length rs) (last_demand rs) (demand_in vs)

    fine : (vs : List ℕ) (o : Outcome Unit Fault) → against vs ≡ o → passed (length rs + 2) row_shape vs o (demand_in vs) ≡ Ok r → length rs < desk.rows
    fine vs (Ok tt) n e = has_room _ _ _ _ (found-none _ _ n)
    fine vs (Err f) n e = clash (cc)

    go : (y : LineReading) → and_then (values_on (length rs + 2) y) (λ vs. passed (length rs + 2) row_shape vs (against vs) (demand_in vs)) ≡ Ok r → length rs < desk.rows
    go (Ok vs) e = fine vs (against vs) refl e
    go (Err p) e = clash (cc)

-- of no row nothing is sent
pub none-sent : (rs : List Routed) → rs ≡ [] → rs ≡ map unsent (demands (sents rs))
none-sent rs none = rw none refl

-- ---- the rows

-- the rows rs are read, and the lines ls are left
pub record Reading (s : List ℕ) (ring : Ring) (rs : List Demand) (ls : List (List ℕ)) : Type 0 where
  pub rest : table_of desk s ≡ rows_on_lines desk ring rs ls
  pub room : length rs ≤ desk.rows

module _ (s : List ℕ) where
  pub too_long : desk.bytes < length s → refuse TooLong 0 0 ≡ table_of desk s
  unfolding table_of
  too_long h = sym (rw (lt-ltb _ _ h))

  module _ (short : length s ≤ desk.bytes) where
    pub no_line : lines s ≡ [] → refuse Misshapen 1 1 ≡ table_of desk s
    unfolding table_of
    no_line none = sym (rw (le-ltb desk.bytes (length s) short, none))

    module _ (l : List ℕ) (ls : List (List ℕ)) (left : lines s ≡ l ∷ ls) (x : Outcome Ring Refusal) (is : x ≡ ring_on desk l) where
      -- the first line is read to x
      then-lines : table_of desk s ≡ and_then x λ ring. rows_on_lines desk ring [] ls
      unfolding table_of
      then-lines = rw (le-ltb desk.bytes (length s) short, left, ← is)

      pub ring-refused : (rs : List Demand) (r : Refusal) (y : Outcome Ring Refusal) → x ≡ Err r → y ≡ Err r → with_rows rs y ≡ table_of desk s
      ring-refused rs r y e f = rw f (sym (then-lines ∙ rw e))

      pub ring-read : (ring : Ring) → x ≡ Ok ring → (rs : List Demand) → rs ≡ [] → Reading s ring rs ls
      ring-read ring e rs n = rw n (record { rest = then-lines ∙ rw e; room = omega arith })

  module _ (ring : Ring) (rs : List Demand) (before : List (List ℕ)) (reading : Reading s ring rs before) where
    module _ (l : List ℕ) (ls : List (List ℕ)) (left : before ≡ l ∷ ls) (x : Outcome Demand Refusal) (is : x ≡ row_on desk ring rs l) where
      then-rows : table_of desk s ≡ and_then x λ r. rows_on_lines desk ring (rs ++ r ∷ []) ls
      unfolding rows_on_lines
      then-rows = reading.rest ∙ rw (left, ← is)

      pub row-refused : (qs : List Demand) (r : Refusal) (y : Outcome Ring Refusal) → x ≡ Err r → y ≡ Err r → with_rows qs y ≡ table_of desk s
      row-refused qs r y e f = rw f (sym (then-rows ∙ rw e))

      pub room : (r : Demand) → x ≡ Ok r → length rs < desk.rows
      room r e = row-room ring rs l r (sym is ∙ e)

      pub row-read : (r : Demand) (new : List Demand) → x ≡ Ok r → new ≡ rs ++ r ∷ [] → Reading s ring new ls
      row-read r new e n = rw n (record { rest = then-rows ∙ rw e; room = omega (arith, room r e, length-append rs (r ∷ [])) })

    -- no line is left
    pub all_read : before ≡ [] → Ok (ring, rs) ≡ table_of desk s
    unfolding rows_on_lines
    all_read none = sym (reading.rest ∙ rw none)
