-- A text is read to a table exactly when it is that table written and the table is in range: read line by line one way, written row by row the
-- other.
use Prim.Native.Nat.{ℕ, ◌+◌, ◌≤◌, ◌<◌}
use mathlib.Core.List.{List, [], ◌∷◌, ◌++◌, append_assoc, append-nil, flatten}
use mathlib.Core.Logic.{inl, inr, ◌↔◌}
use mathlib.Core.Path.{◌≡◌, refl, ap, ◌∙◌, sym, subst}
use native.Mathlib.Omega.{arith}
use lib.ListN.{length, length-append}
use borrow.Author.Tests.{le-ltb, ltb-false}
use Rattle.text.proofs.Digits.{tens}
use Rattle.ring.specs.Demand.{demand, OnRing}
use Rattle.ring.specs.declared.types.Demand.{Demand}
use Rattle.ring.proofs.Side.{cond-elim}
use Rattle.text.specs.Number.{limit}
use Rattle.text.specs.Shapes.{ring_shape, row_shape, row_line}
use Rattle.text.specs.RingLine.{ring_line, RingLineIs}
use Rattle.text.proofs.RingLaws.{RingRead, is_ring, no_ring}
use Rattle.family.specs.Sizes.{Known}
use Rattle.ring.specs.Limits.{Limits, desk}
use Rattle.ring.specs.declared.types.Ring.{Ring}
use Rattle.ring.specs.LineSize.{IsFibres}
use Rattle.lines.specs.Lines.{lines}
use Rattle.table.specs.Table.{write_rows, write_table, InRange}
use Rattle.reasons.specs.Faults.{verdict_found, ring_found, row_found, last_demand}
use Rattle.reasons.specs.AndThen.{and_then}
use Rattle.lines.specs.OnLine.{values_on, passed, line_judged}
use Rattle.table.specs.ReadTable.{Table, demand_in, ring_on, row_on, rows_on_lines, table_lines, table_of}
use Rattle.reasons.specs.declared.fault.Fault.{Fault}
use Rattle.reasons.specs.declared.reason.Refusal.{Refusal}
use Rattle.reasons.proofs.Faults.{last-more}
use Rattle.reasons.specs.declared.reason.Reason.{Reason}
use Rattle.reasons.specs.Verdict.{Verdict}
use Rattle.std.specs.Prelude.{Result, Option, Some, Ok, Err}
use Rattle.text.specs.ReadLine.{Reading}
use Rattle.reasons.proofs.Judged.{RingJudged, right_ring, ring-judged, InOrder, RowJudged, row_fine, row-judged}
use Rattle.reasons.proofs.Against.{fine-ring-judged, fine-row-judged}
use Rattle.reasons.proofs.FineRows.{FineRows, no_row, fine_row, fine-rows, table-rows, amounts-fine, count-fine}
use Rattle.table.proofs.LineRead.{RingSpelled, ring-values, as-ring, RowSpelled, row-values, RowLine, row_line_is, no_row_line, as-row}
use Rattle.lines.proofs.LinesOf.{join-lines}
use Rattle.table.proofs.TableLines.{ring-first, row_first}
use Rattle.table.specs.Spelled.{LimitsSpelled}

pub desk-spelled : LimitsSpelled desk
desk-spelled = record { nodes = omega arith; amount = omega arith }

-- ---- read, so written

-- rows behind the rows rs, as the lines ls are read to them
data RowsRead (limits : Limits) (ring : Ring) (rs : List Demand) (ls : List (List ℕ)) : Result Table Refusal → Type 0 where
  rows_are : {all : List Demand} (more : List Demand) → all ≡ rs ++ more → flatten ls ≡ write_rows more → FineRows limits ring.nodes (length rs) (last_demand rs) more
      → RowsRead limits ring rs ls (Ok (ring, all))
  rows_refused : {r : Refusal} → RowsRead limits ring rs ls (Err r)

module _ {limits : Limits} {ring : Ring} where
  -- one row more in front
  row_more : {i j d : ℕ} {rs : List Demand} {l : List ℕ} {ls : List (List ℕ)} {x : Result Table Refusal} → l ≡ row_line i j d
      → RowJudged limits ring.nodes (length rs) (last_demand rs) (demand i j d) (Ok tt) → RowsRead limits ring (rs ++ demand i j d ∷ []) ls x → RowsRead limits ring rs (l ∷ ls) x
  unfolding write_rows flatten
  row_more {i} {j} {d} {rs} e (row_fine o up c m) (rows_are more whole text fine) =
      let one = length-append rs (demand i j d ∷ []) in
      rows_are (demand i j d ∷ more) (whole ∙ append_assoc rs (demand i j d ∷ []) more) (rw (e, text))
      (fine_row o up c m (subst (λ k. FineRows limits ring.nodes k (Some (demand i j d)) more) one (rw (last-more rs (demand i j d)) at fine)))
  row_more e w rows_refused = rows_refused

  rows-read : (ls : List (List ℕ)) (rs : List Demand) → RowsRead limits ring rs ls (rows_on_lines limits ring rs ls)
  unfolding rows_on_lines row_on line_judged values_on row_found write_rows flatten
  rows-read [] rs = rows_are [] (sym (append-nil rs)) refl no_row
  rows-read (l ∷ ls) rs = go (as-row limits l) (λ r. rows-read ls (rs ++ r ∷ []))
    where
      next : Demand → Result Table Refusal
      next r = rows_on_lines limits ring (rs ++ r ∷ []) ls

      against : List ℕ → Result Unit Fault
      against vs = row_found limits ring.nodes (length rs) (last_demand rs) (demand_in vs)

      judging : {i j d : ℕ} {v : Verdict} (vs : List ℕ) (field : Reason → ℕ) → l ≡ row_line i j d → RowJudged limits ring.nodes (length rs) (last_demand rs) (demand i j d) v
          → RowsRead limits ring (rs ++ demand i j d ∷ []) ls (next (demand i j d)) → RowsRead limits ring rs (l ∷ ls) (and_then (passed (length rs + 2) row_shape vs (verdict_found v field) (demand i j d)) next)
      judging {v = Err r} vs field e w rest = rows_refused
      judging {v = Ok tt} vs field e w rest = row_more e w rest

      go : {x : Reading} → RowLine limits l x → ((r : Demand) → RowsRead limits ring (rs ++ r ∷ []) ls (next r))
          → RowsRead limits ring rs (l ∷ ls) (and_then (and_then (values_on (length rs + 2) x) λ vs. passed (length rs + 2) row_shape vs (against vs) (demand_in vs)) next)
      go (row_line_is {i} {j} {d} e w) rest = judging _ _ e (row-judged limits ring.nodes (length rs) (last_demand rs) (demand i j d)) (rest (demand i j d))
      go (no_row_line none fault) rest = rows_refused

-- what a text is read to
data TableRead (limits : Limits) (t : List ℕ) : Result Table Refusal → Type 0 where
  table_is : {ring : Ring} {rs : List Demand} → t ≡ write_table ring rs → InRange limits ring rs → TableRead limits t (Ok (ring, rs))
  table_refused : {r : Refusal} → TableRead limits t (Err r)

module _ {limits : Limits} {t : List ℕ} (short : length t ≤ limits.bytes) where
  ring-more : {ring : Ring} {l : List ℕ} {ls : List (List ℕ)} {x : Result Table Refusal} → t ≡ l ++ flatten ls → RingLineIs limits.marks limits.digits l ring
      → RingJudged limits ring (Ok tt) → RowsRead limits ring [] ls x → TableRead limits t x
  unfolding write_table
  ring-more {ring} whole w (right_ring few many fibres) (rows_are {all} rs is text fine) =
      let e = w.text in
      let written : t ≡ write_table ring all = whole ∙ rw (e, text, is) in
      table_is {rs = all} written (record {
        within =
            record {
              few = few;
              many = many;
              fibres = fibres;
              family = w.known;
              rows = rw is (table-rows fine);
              count = omega (arith, count-fine fine (omega arith), ap length is);
              amounts = rw is (amounts-fine fine);
            };
        short = omega (arith, ap length written);
      })
  ring-more whole h w rows_refused = table_refused

  lines-read : (ls : List (List ℕ)) → t ≡ flatten ls → TableRead limits t (table_lines limits ls)
  unfolding table_lines ring_on values_on ring_found flatten
  lines-read [] whole = table_refused
  lines-read (l ∷ ls) whole = go (as-ring limits l)
    where
      next : Ring → Result Table Refusal
      next ring = rows_on_lines limits ring [] ls

      judging : {ring : Ring} {v : Verdict} (vs : List ℕ) (field : Reason → ℕ) → RingLineIs limits.marks limits.digits l ring → RingJudged limits ring v
          → TableRead limits t (and_then (passed 1 ring_shape vs (verdict_found v field) ring) next)
      judging {v = Err r} vs field h w = table_refused
      judging {v = Ok tt} vs field h w = ring-more whole h w (rows-read ls [])

      go : {x : Result Ring ℕ} → RingRead limits.digits limits.countable limits.marks l x
          → TableRead limits t (and_then (and_then (values_on 1 x) λ ring. passed 1 ring_shape (0 ∷ ring.nodes ∷ ring.fibres ∷ []) (ring_found limits ring) ring) next)
      go (is_ring {ring} h) = judging _ _ h (ring-judged limits ring)
      go (no_ring none fault) = table_refused

table-read : (limits : Limits) (t : List ℕ) → TableRead limits t (table_of limits t)
unfolding table_of
table-read limits t =
    cond-elim (TableRead limits t) _ _ _ (λ e. table_refused) (λ e. lines-read (ltb-false limits.bytes (length t) e) (lines t) (sym (join-lines t)))

-- ---- written, so read

-- against a fine row nothing is found
pub row-again : (limits : Limits) (ring : Ring) (rs : List Demand) (r : Demand) → RowSpelled limits r.first r.second r.amount → OnRing ring.nodes r → InOrder (last_demand rs) r → length rs < limits.rows
    → r.amount ≤ limits.amount → row_on limits ring rs (row_line r.first r.second r.amount) ≡ Ok r
unfolding row_on line_judged values_on passed row_found verdict_found
row-again limits ring rs r w o up c m =
    rw (row-values limits r.first r.second r.amount w, fine-row-judged limits ring.nodes (length rs) (last_demand rs) r o up c m)

module _ (limits : Limits) (spelled : LimitsSpelled limits) (ring : Ring) (many : ring.nodes ≤ limits.nodes) where
  written-rows-read : (rs : List Demand) {k : ℕ} {above : Option Demand} {more : List Demand} → length rs ≡ k → last_demand rs ≡ above → FineRows limits ring.nodes k above more
      → rows_on_lines limits ring rs (lines (write_rows more)) ≡ Ok (ring, rs ++ more)
  unfolding rows_on_lines write_rows lines
  written-rows-read rs e f no_row = ap (λ qs. Ok (ring, qs)) (sym (append-nil rs))
  written-rows-read rs {k} {above} e f (fine_row {r = r} {rs = more} o up c m fine) =
      let w : RowSpelled limits r.first r.second r.amount = (omega (arith, o.order, o.high), (omega (arith, o.high), omega arith)) in
      rw (row_first limits r.first r.second r.amount w (write_rows more), row-again limits ring rs r w o (rw f up) (omega arith) m)
      (written-rows-read (rs ++ r ∷ []) (omega (arith, length-append rs (r ∷ []))) (last-more rs r) fine ∙ ap (λ qs. Ok (ring, qs)) (append_assoc rs (r ∷ []) more))

-- fibres have one digit
pub fibres-spelled : (limits : Limits) (fibres : ℕ) → IsFibres fibres → fibres < limit limits.digits
fibres-spelled limits fibres (inl e) = omega (arith, tens limits.digits limits.countable)
fibres-spelled limits fibres (inr e) = omega (arith, tens limits.digits limits.countable)

pub ring-spelled : (limits : Limits) → LimitsSpelled limits → (ring : Ring) → ring.nodes ≤ limits.nodes → IsFibres ring.fibres → Known limits.marks ring.family → RingSpelled limits ring
ring-spelled limits spelled ring many fibres known = record { known = known; text = refl; nodes = omega (arith, many, spelled.nodes); fibres = fibres-spelled limits ring.fibres fibres }

pub ring-again : (limits : Limits) (ring : Ring) → RingSpelled limits ring → limits.fewest ≤ ring.nodes → ring.nodes ≤ limits.nodes → IsFibres ring.fibres
    → ring_on limits (ring_line ring) ≡ Ok ring
unfolding ring_on values_on passed ring_found verdict_found
ring-again limits ring w few many fibres = rw (ring-values limits ring w, fine-ring-judged limits ring few many fibres)

written_read : (limits : Limits) → LimitsSpelled limits → (ring : Ring) (rs : List Demand) → InRange limits ring rs → table_of limits (write_table ring rs) ≡ Ok (ring, rs)
unfolding table_of table_lines write_table
written_read limits spelled ring rs range =
    let w : RingSpelled limits ring = ring-spelled limits spelled ring range.within.many range.within.fibres range.within.family in
    rw (
      le-ltb limits.bytes (length (write_table ring rs)) range.short,
      ring-first limits ring w (write_rows rs),
      ring-again limits ring w range.within.few range.within.many range.within.fibres,
    ) (written-rows-read limits spelled ring range.within.many [] refl refl (fine-rows range.within.rows range.within.count range.within.amounts))

-- ---- both

pub table-text : (limits : Limits) → LimitsSpelled limits → (t : List ℕ) (ring : Ring) (rs : List Demand)
    → (table_of limits t ≡ Ok (ring, rs)) ↔ ((t ≡ write_table ring rs) × InRange limits ring rs)
table-text limits spelled t ring rs = (λ e. go (subst (TableRead limits t) e (table-read limits t)), λ h. rw h.0 (written_read limits spelled ring rs h.1))
  where
    go : TableRead limits t (Ok (ring, rs)) → (t ≡ write_table ring rs) × InRange limits ring rs
    go (table_is text range) = (text, range)
