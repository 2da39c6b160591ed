-- A reason is given exactly when it holds and nothing before it in the order does, and a table is accepted exactly when none holds: shown by
-- going through the lines as the reader does, with nothing said of the lines passed.
use Prim.Native.Nat.{ℕ, ◌+◌, ◌≤◌}
use mathlib.Core.List.{List, [], ◌∷◌, ◌++◌}
use mathlib.Core.Logic.{◌↔◌}
use mathlib.Core.Path.{◌≡◌, refl}
use native.Mathlib.Omega.{arith}
use lib.ListN.{length, length-append}
use borrow.Author.Tests.{ltb-true, ltb-false}
use Rattle.ring.specs.Demand.{demand}
use Rattle.ring.specs.declared.types.Demand.{Demand}
use Rattle.ring.proofs.Side.{cond-elim}
use Rattle.ring.specs.Limits.{Limits}
use Rattle.text.proofs.RingLaws.{RingRead, is_ring, no_ring as no_ring_line, one-ring-fault}
use Rattle.ring.specs.declared.types.Ring.{Ring}
use Rattle.lines.specs.Lines.{lines}
use Rattle.reasons.specs.Fields.{field_of, node_field}
use Rattle.reasons.specs.Faults.{verdict_found, ring_found, row_found, last_demand}
use Rattle.reasons.specs.AndThen.{and_then}
use Rattle.lines.specs.OnLine.{values_on, passed, line_judged}
use Rattle.text.specs.FieldByte.{field_byte}
use Rattle.text.specs.WriteLine.{write_line}
use Rattle.text.specs.ReadLine.{Reading}
use Rattle.text.specs.Shapes.{ring_shape, row_shape}
use Rattle.text.specs.declared.field.Field.{Field}
use Rattle.reasons.proofs.Faults.{last-more}
use Rattle.table.specs.ReadTable.{Table, demand_in, ring_on, row_on, rows_on_lines, table_lines, table_of}
use Rattle.table.specs.RowReasons.{RingIs, at_fault}
use Rattle.lines.specs.DueBytes.{line_missing, line_faulty}
use Rattle.reasons.specs.Reasons.{Earlier}
use Rattle.table.specs.Says.{RowIs, WrongLine, no_ring, no_row, Says, LineByte, ring_due, row_due, ByteIs, Given, Accepted}
use Rattle.reasons.specs.declared.reason.Reason.{Reason}
use Rattle.reasons.specs.declared.reason.Refusal.{Refusal}
use Rattle.reasons.specs.Refusals.{refuse}
use Rattle.reasons.specs.declared.reason.Reason.TheVariants.{Misshapen}
use Rattle.reasons.specs.Verdict.{Verdict}
use Rattle.std.specs.Prelude.{Result, Ok, Err}
use Rattle.reasons.proofs.Judged.{ring-judged, row-judged}
use Rattle.table.proofs.LineRead.{as-ring, RowLine, row_line_is, no_row_line, as-row}
use Rattle.lines.proofs.LineNumbers.{line-one, LinesFrom, from_first, from_next, line-here, no-line-left}
use Rattle.table.proofs.TableLines.{ring-said, ring-is, row-one}
use Rattle.table.proofs.Said.{RowLaws}
use Rattle.table.proofs.BytesGiven.{ring-byte, row-byte, one_byte}
use Rattle.lines.proofs.DueBytes.{one-due, one-shape-byte}
use Rattle.table.proofs.FirstOnLine.{HoldsAs, First, wrong-first, ring-judged-first, RowBefore, no_row_before, row_before, row-judged-first}
use Rattle.reasons.proofs.FirstGiven.{RightBy, none_holds, first_holds, one-first, same-place, refused-as, accepted-as}
use Rattle.table.proofs.Walked.{Clean, given-here, clean-next, clean-start, clean-end, too-long-given}

-- ---- lines

wrong-low : {limits : Limits} {t : List ℕ} {line : ℕ} → WrongLine limits t line → 1 ≤ line
wrong-low (no_ring e none) = omega arith
wrong-low (no_row later is none) = omega arith

row-laws : (limits : Limits) (t : List ℕ) → RowLaws (RowIs limits t) (WrongLine limits t)
row-laws limits t = record { later = λ x. x.later; one = λ x y. row-one x y; low = λ w. wrong-low w }

module _ {limits : Limits} {t : List ℕ} where
  ring-right : {ring : Ring} → RingIs limits t ring → WrongLine limits t 1 → ⊥
  ring-right {ring} here (no_ring e none) = none ring here
  ring-right here (no_row later is none) = omega arith

  row-right : {line : ℕ} {r : Demand} → RowIs limits t line r → WrongLine limits t line → ⊥
  row-right row (no_ring e none) = omega (arith, row.later)
  row-right {r = r} row (no_row later is none) = none r row

  one-line-byte : {line b c : ℕ} → LineByte limits t line b → LineByte limits t line c → b ≡ c
  one-line-byte (ring_due e x) (ring_due f y) = one-due (λ l p q. one-ring-fault limits.digits limits.countable limits.marks l) x y
  one-line-byte (ring_due e x) (row_due f y) = absurd (omega arith)
  one-line-byte (row_due e x) (ring_due f y) = absurd (omega arith)
  one-line-byte (row_due e x) (row_due f y) = one-shape-byte limits x y

-- ---- line by line

-- an answer that is right by what the reasons say
abbrev Right : Limits → List ℕ → Result Table Refusal → Type 0
Right limits t = RightBy (Says limits t) Earlier (ByteIs limits t)

module _ {limits : Limits} {t : List ℕ} where
  judged-right : {A : Type 0} {line : ℕ} (shape : List Field) (vs : List ℕ) (field : Reason → ℕ) (y : A) (next : A → Result Table Refusal) (v : Verdict) → Clean (Says limits t) line → First (λ s. Says limits t s line) v
      → HoldsAs (λ s. ByteIs limits t s line (field_byte shape vs (field s))) v → (Clean (Says limits t) (line + 1) → Right limits t (next y)) → Right limits t (and_then (passed line shape vs (verdict_found v field) y) next)
  unfolding passed verdict_found
  judged-right shape vs field y next (Ok tt) clean f b rest = rest (clean-next clean f.least)
  judged-right shape vs field y next (Err r) clean f b rest = first_holds (given-here clean f b)

  -- a line of the wrong shape
  wrong-given : {line byte : ℕ} → Clean (Says limits t) line → WrongLine limits t line → LineByte limits t line byte → Right limits t (refuse Misshapen line byte)
  wrong-given clean w b = first_holds (given-here clean (wrong-first (row-laws limits t) w) (at_fault b))

  rows-end : {line : ℕ} → 2 ≤ line → LinesFrom (lines t) line [] → Clean (Says limits t) line → Accepted limits t
  rows-end {line} later from clean = clean-end (row-laws limits t) later clean (λ other l w. wrong other l w) (λ other r l x. omega (arith, no-line-left from x.text))
    where
      wrong : (other : ℕ) → line ≤ other → WrongLine limits t other → ⊥
      wrong other l (no_ring e none) = omega arith
      wrong other l (no_row m is none) = omega (arith, no-line-left from is)

  rows_right : {ring : Ring} → RingIs limits t ring → (ls : List (List ℕ)) (rs : List Demand) → LinesFrom (lines t) (length rs + 2) ls → Clean (Says limits t) (length rs + 2)
      → RowBefore (RowIs limits t) (length rs + 2) (last_demand rs) → Right limits t (rows_on_lines limits ring rs ls)
  unfolding rows_on_lines row_on line_judged values_on row_found field_byte write_line
  rows_right here [] rs from clean before = none_holds (rows-end (omega arith) from clean)
  rows_right {ring} here (l ∷ ls) rs from clean before = go (as-row limits l) (λ r. rows_right here ls (rs ++ r ∷ []))
    where
      line : ℕ
      line = length rs + 2

      next : Demand → Result Table Refusal
      next r = rows_on_lines limits ring (rs ++ r ∷ []) ls

      on-next : (r : Demand) → length (rs ++ r ∷ []) + 2 ≡ line + 1
      on-next r = omega (arith, length-append rs (r ∷ []))

      go : {x : Reading} → RowLine limits l x
          → ((r : Demand) → LinesFrom (lines t) (length (rs ++ r ∷ []) + 2) ls → Clean (Says limits t) (length (rs ++ r ∷ []) + 2)
          → RowBefore (RowIs limits t) (length (rs ++ r ∷ []) + 2) (last_demand (rs ++ r ∷ [])) → Right limits t (next r))
          → Right limits t (and_then (and_then (values_on line x) λ vs. passed line row_shape vs (row_found limits ring.nodes (length rs) (last_demand rs) (demand_in vs)) (demand_in vs)) next)
      go (row_line_is {i} {j} {d} e w) rest =
          let r = demand i j d in
          let now : RowIs limits t line r = record { later = omega arith; text = rw e at (line-here from); spelled = w } in
          let judged = row-judged limits ring.nodes (length rs) (last_demand rs) r in
          let at = on-next r in
          let last = last-more rs r in
          judged-right row_shape (0 ∷ i ∷ j ∷ d ∷ []) (λ reason. field_of reason (node_field ring.nodes i)) r next _ clean (row-judged-first (row-laws limits t) here now (row-right now) refl before judged) (row-byte (RowIs limits t) (LineByte limits t) r here now (field_byte row_shape (0 ∷ i ∷ j ∷ d ∷ [])) refl refl refl refl judged)
          (λ c. rest r (rw at (from_next from)) (rw at c) (rw (at, last) (row_before now)))
      go (no_row_line none fault) rest =
          wrong-given clean (no_row (omega arith) (line-here from) (λ r x. none r.first r.second r.amount (line-one (line-here from) x.text refl) x.spelled)) (row_due (omega arith) (line_faulty (line-here from) fault))

  lines-right : length t ≤ limits.bytes → (ls : List (List ℕ)) → LinesFrom (lines t) 1 ls → Right limits t (table_lines limits ls)
  unfolding table_lines ring_on values_on ring_found
  lines-right short [] from = wrong-given (clean-start (row-laws limits t) short) (no_ring refl (λ ring x. omega (arith, no-line-left from x.first))) (ring_due refl (line_missing (λ l is. omega (arith, no-line-left from is))))
  lines-right short (l ∷ ls) from = go (as-ring limits l)
    where
      next : Ring → Result Table Refusal
      next ring = rows_on_lines limits ring [] ls

      go : {x : Result Ring ℕ} → RingRead limits.digits limits.countable limits.marks l x
          → Right limits t (and_then (and_then (values_on 1 x) λ ring. passed 1 ring_shape (0 ∷ ring.nodes ∷ ring.fibres ∷ []) (ring_found limits ring) ring) next)
      go (is_ring {ring} h) =
          let here : RingIs limits t ring = ring-is (line-here from) h in
          let judged = ring-judged limits ring in
          judged-right ring_shape (0 ∷ ring.nodes ∷ ring.fibres ∷ []) (λ reason. field_of reason 0) ring next _ (clean-start (row-laws limits t) short) (ring-judged-first (row-laws limits t) here (ring-right here) judged) (ring-byte (RowIs limits t) (LineByte limits t) here judged)
          (λ c. rows_right here ls [] (from_next from) c no_row_before)
      go (no_ring_line none fault) =
          wrong-given (clean-start (row-laws limits t) short) (no_ring refl (λ ring x. none ring (ring-said x (line-here from)))) (ring_due refl (line_faulty (line-here from) fault))

right : (limits : Limits) (t : List ℕ) → Right limits t (table_of limits t)
unfolding table_of
right limits t =
    cond-elim (Right limits t) _ _ _
    (λ e. first_holds (too-long-given (ltb-true limits.bytes (length t) e)))
    (λ e. lines-right (ltb-false limits.bytes (length t) e) (lines t) from_first)

-- ---- the laws

-- a reason on a line has one byte
pub same-byte : {limits : Limits} {t : List ℕ} (line b c : ℕ) (r : Reason) → ByteIs limits t r line b → ByteIs limits t r line c → b ≡ c
same-byte line b c r x y = one_byte (λ q p. row-one) one-line-byte x y

-- a text has one first reason, with one byte
pub one-given : {limits : Limits} {t : List ℕ} {r s : Reason} {line other byte on : ℕ} → Given limits t r line byte → Given limits t s other on → (r ≡ s) × (line ≡ other) × (byte ≡ on)
one-given f g = one-first same-place same-byte f g

pub given : (limits : Limits) (t : List ℕ) (r : Refusal) → (table_of limits t ≡ Err r) ↔ Given limits t r.reason r.line r.byte
given limits t = refused-as same-place same-byte (right limits t)

-- the text is read to a table
pub record Reads (limits : Limits) (t : List ℕ) : Type 0 where
  pub ring : Ring
  pub rs : List Demand
  pub is : table_of limits t ≡ Ok (ring, rs)

pub accepted-is : (limits : Limits) (t : List ℕ) → Reads limits t ↔ Accepted limits t
accepted-is limits t =
    let law = accepted-as (right limits t) in
    (λ h. law.0 ((h.ring, h.rs), h.is), λ none. let read = law.1 none in record { ring = read.0.0; rs = read.0.1; is = read.1 })
