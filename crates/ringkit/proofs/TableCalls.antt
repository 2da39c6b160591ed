-- A text is accepted exactly where it is a table of values in range, and rewriting it keeps its promise (`Calls`): an accepted table is rewritten as the same bytes.
use Prim.Native.Nat.{ℕ}
use mathlib.Core.List.{List}
use mathlib.Core.Logic.{◌↔◌}
use mathlib.Core.Path.{◌≡◌, refl, ap, ◌∙◌, sym}
use Rattle.std.specs.Prelude.{Result, Ok, Err}
use Rattle.ring.specs.Limits.{desk}
use Rattle.ring.specs.declared.types.Ring.{Ring}
use Rattle.ring.specs.declared.types.Demand.{Demand}
use Rattle.reasons.specs.Reasons.{number_of}
use Rattle.reasons.specs.declared.reason.Reason.{Reason}
use Rattle.table.specs.Table.{write_table}
use Rattle.reasons.specs.AndThen.{and_then}
use Rattle.table.specs.ReadTable.{Table, table_of}
use Rattle.reasons.specs.declared.reason.Refusal.{Refusal}
use Rattle.table.specs.Says.{Given, Accepted}
use Rattle.table.proofs.Said.{not-15}
use Rattle.table.proofs.ReasonsGiven.{one-given, given, accepted-is}
use Rattle.table.proofs.TableText.{desk-spelled, table-text}
use Rattle.table.proofs.Accepted.{same-table}
use Rattle.ringkit.specs.Outcome.{Fills}
use Rattle.ringkit.specs.TableCalls.{table_afresh}
use Rattle.ringkit.specs.Says.{Answer, CallPromise, Only}
use Rattle.ringkit.specs.Back.{TableThereAndBack}
use Rattle.ringkit.specs.Texts.{TableOf, Itself}
use Rattle.ringkit.specs.Promises.{RewriteTablePromise}
use Rattle.ringkit.proofs.Calls.{Decided, is_due, is_given, One, call-promise, call-only}

-- it is the table of some values
pub record SomeTable (t : List ℕ) : Type 0 where
  pub ring : Ring
  pub rs : List Demand
  pub of : TableOf t ring rs

module _ (t : List ℕ) where
  -- a table is read to the values that it is the table of
  pub read_is : (ring : Ring) (rs : List Demand) → (table_of desk t ≡ Ok (ring, rs)) ↔ TableOf t ring rs
  read_is ring rs = (
    λ e. let w = (table-text desk desk-spelled t ring rs).0 e in record { text = w.0; range = w.1 },
    λ h. (table-text desk desk-spelled t ring rs).1 (h.text, h.range),
  )

  -- a text is accepted exactly where it is one
  pub accepted-table : Accepted desk t ↔ SomeTable t
  accepted-table = (
    λ a. let r = (accepted-is desk t).1 a in record { ring = r.ring; rs = r.rs; of = (read_is r.ring r.rs).0 r.is },
    λ d. (accepted-is desk t).0 (record { ring = d.ring; rs = d.rs; is = (read_is d.ring d.rs).1 d.of }),
  )

-- the same text is the table of one ring and one list of rows
pub same-values : {t : List ℕ} {ring other : Ring} {rs qs : List Demand} → TableOf t ring rs → TableOf t other qs → (ring ≡ other) × (rs ≡ qs)
same-values {ring} {other} {rs} {qs} a b = same-table desk desk-spelled ring other rs qs a.range b.range (sym a.text ∙ b.text)

-- and no reason is given to it
pub no-reason : {t : List ℕ} {ring : Ring} {rs : List Demand} → TableOf t ring rs → {reason : Reason} {line byte : ℕ} → Given desk t reason line byte → ⊥
no-reason {t} {ring} {rs} of {reason} {line} {byte} g = (accepted-table t).1 (record { ring = ring; rs = rs; of = of }) reason line g.holds

-- ---- rewriting

afresh : (t : List ℕ) (x : Result Table Refusal) → table_of desk t ≡ x → Decided (Itself (Accepted desk t) t) (Given desk t) (and_then x λ y. Ok (write_table y.0 y.1))
afresh t (Ok y) e =
    is_due (record { accepted = (accepted-is desk t).0 (record { ring = y.0; rs = y.1; is = e }); same = sym ((read_is t y.0 y.1).0 e).text })
afresh t (Err r) e = is_given ((given desk t r).0 e)

one-itself : (t : List ℕ) → One (Itself (Accepted desk t) t) (Given desk t)
one-itself t =
    record {
      text = λ a b. a.same ∙ sym b.same;
      refusal = λ f g. one-given f g;
      apart = λ {a} {r} {line} d g. d.accepted r line g.holds;
      other = λ {r} g e. not-15 r g.holds (ap number_of e);
    }

-- an accepted table is written as the same bytes, with room for them; else 15 or the table's first reason
pub rewrite-promise : (t old new : List ℕ) (r : Answer) → Fills (table_afresh t) old new r → CallPromise (Itself (Accepted desk t) t) (Given desk t) old new r
rewrite-promise t old new r f = call-promise (one-itself t) (afresh t (table_of desk t) refl) f

pub rewrite-only : (t old new : List ℕ) (r : Answer) → Fills (table_afresh t) old new r → Only (RewriteTablePromise t old) new r
rewrite-only t old new r f = call-only (rewrite-promise t old new r f) (one-itself t)

-- what is read is written again as the same bytes, and what is written is read again as the same values
pub table-rewritten : TableThereAndBack
table-rewritten =
    record {
      read = λ t a. let d = (accepted-table t).0 a in record { ring = d.ring; rs = d.rs; of = d.of };
      written = λ t ring rs of. (accepted-is desk t).0 (record { ring = ring; rs = rs; is = (read_is t ring rs).1 of });
      same_ring = λ t ring other rs qs a b. (same-values a b).0;
      same_rows = λ t ring other rs qs a b. (same-values a b).1;
      rewritten = λ t old new r p a room. (p.succeeds t).1 (record { accepted = a; same = refl }, room);
    }
