-- Writing a working table out keeps the promise of a call that fills a buffer, on every struct; of one made by calls the table is an accepted one, `table_room` is room for it, and routing it names
-- the cut that the last accepted answer named: by the rows that are written, and the promise of routing.
use Prim.Native.Nat.{ℕ, ◌≤◌}
use mathlib.Core.List.{List}
use mathlib.Core.Path.{◌≡◌, refl, sym, ◌∙◌, ap, ap₂}
use native.Mathlib.Omega.{arith}
use lib.ListN.{length, take}
use Rattle.std.specs.Prelude.{IsOk, IfOk}
use Rattle.ring.specs.Limits.{desk}
use Rattle.ring.specs.RuleA.{rule_a}
use Rattle.ring.specs.declared.types.Ring.{Ring}
use Rattle.ring.specs.declared.types.Demand.{Demand}
use Rattle.table.specs.Table.{write_table, table_room}
use Rattle.table.specs.Says.{Accepted}
use Rattle.table.proofs.Short.{desk-narrow, table-short}
use Rattle.work.specs.Changes.{Sized}
use Rattle.work.specs.Calls.{Call}
use Rattle.work.specs.Made.{Made}
use Rattle.work.specs.Keys.{sorted_rows, IsBytes}
use Rattle.work.specs.declared.Work.{Work}
use Rattle.work.proofs.Right.{HasBytes, bytes-of}
use Rattle.work.proofs.SortedRows.{rows-sorted}
use Rattle.work.proofs.OneOrder.{one-order}
use Rattle.work.proofs.ByCalls.{made-keeps, made-sorted-within, made-sized, made-bytes}
use Rattle.work.proofs.Promised.{made-as-played}
use Rattle.work.specs.HeldRing.{ring_held}
use Rattle.ringkit.specs.Outcome.{Fills}
use Rattle.ringkit.specs.Says.{Answer, CallPromise}
use Rattle.ringkit.specs.TableCalls.{work_written}
use Rattle.ringkit.specs.Texts.{TableOf}
use Rattle.ringkit.specs.WorkCalls.{WorkDue, NoRefusal, WritesOut, RoutedAsNamed}
use Rattle.ringkit.proofs.Calls.{is_due, One, call-promise, written-due, length-within, written, if-ok}
use Rattle.ringkit.proofs.TableCalls.{accepted-table, same-values}
use Rattle.ringkit.proofs.PlanCalls.{some-plan, due-short, due-cut}

-- ---- every struct

module _ (w : Work) (s : Sized w) (byte : HasBytes w) where
  -- a text is due, and one only
  work-due : WorkDue w (write_table (ring_held w.ring) (sorted_rows w))
  work-due = record { rs = sorted_rows w; sorted = rows-sorted w s byte; is = refl }

  one-due : One (WorkDue w) NoRefusal
  one-due =
      record {
        text = λ a b. let e = one-order w s byte a.sorted b.sorted in a.is ∙ ap (write_table (ring_held w.ring)) e ∙ sym b.is;
        refusal = λ f g. absurd f;
        apart = λ d g. g;
        other = λ g e. g;
      }

  -- it is written, with room for it; else 15
  filled-promise : {old new : List ℕ} {r : Answer} → Fills (work_written w) old new r → CallPromise (WorkDue w) NoRefusal old new r
  filled-promise {old} {new} {r} f = call-promise one-due (is_due work-due) f

-- the columns of every struct have a place each, and hold bytes
pub work-write-promise : (w : Work) → Sized w → IsBytes w.second → {old new : List ℕ} {r : Answer} → Fills (work_written w) old new r
    → CallPromise (WorkDue w) NoRefusal old new r
work-write-promise w s b f = filled-promise w s (bytes-of w s b) f

-- ---- one made by calls

module _ {cs : List Call} {w : Work} (m : Made cs w) where
  rows-short : length (write_table (ring_held w.ring) (sorted_rows w)) ≤ table_room desk
  rows-short = let k = (made-sorted-within m).within in table-short desk desk-narrow (ring_held w.ring) (sorted_rows w) k.many k.fibres k.rows.nodes k.count k.amounts

  -- what is written out: the rows held, by nodes, then by place, an accepted table with the cut of the rows held
  pub made-writes-out : WritesOut w (sorted_rows w)
  made-writes-out =
      let k = made-sorted-within m in
      record { sorted = k.sorted; range = record { within = k.within; short = omega (arith, rows-short) }; cut = k.cut; short = rows-short }

  module _ (text : List ℕ) (d : WorkDue w text) where
    same-rows : d.rs ≡ sorted_rows w
    same-rows = one-order w (made-sized m) (made-bytes m) d.sorted made-writes-out.sorted

    -- it is the table of its rows
    work-table : TableOf text (ring_held w.ring) d.rs
    work-table = record { text = d.is; range = rw same-rows made-writes-out.range }

    work-accepted : Accepted desk text
    work-accepted = (accepted-table text).1 (record { ring = ring_held w.ring; rs = d.rs; of = work-table })

    work-short : length text ≤ table_room desk
    work-short = let e = same-rows in omega (arith, ap length d.is, ap (λ rs. length (write_table (ring_held w.ring) rs)) e, rows-short)

  module _ {old new : List ℕ} {r : Answer} where
    pub writes-accepted : CallPromise (WorkDue w) NoRefusal old new r → IfOk r (λ n. Accepted desk (take n new))
    writes-accepted p = if-ok r (λ n. work-accepted (take n new)) (written-due p)

    -- in at most `table_room` bytes
    pub work-fits : CallPromise (WorkDue w) NoRefusal old new r → IfOk r (λ n. n ≤ table_room desk)
    work-fits p = length-within p (table_room desk) work-short

    -- with that room it is always written
    pub always-work-written : CallPromise (WorkDue w) NoRefusal old new r → table_room desk ≤ length old → IsOk r
    always-work-written p room =
        written p (work-due w (made-sized m) (made-bytes m)) (omega (arith, rows-short))

-- with `longest` bytes of room it is always routed, and the C line of its sheet is the cut that the last accepted answer named
pub routed-as-named : RoutedAsNamed
routed-as-named engine rule cs w m text d takes old new r promise room =
    let p = some-plan engine rule text (work-accepted m text d) takes promise.cases in
    let due = p.due in
    let e = same-values due.of (work-table m text d) in
    record {
      x = due.x;
      success = rw due.is at ((promise.succeeds p.sheet).1 (due, omega (arith, room, due-short engine rule text p.sheet due)));
      cut =
          let is : rule_a w.ring.nodes d.rs ≡ w.cut = (rw (same-rows m text d) (made-writes-out m).cut) ∙ sym (made-keeps m).largest in
          rw (due-cut engine rule text p.sheet due ∙ ap₂ (λ (ring : Ring) (rs : List Demand). rule_a ring.nodes rs) e.0 e.1 ∙ is) (made-as-played m).leads;
    }
