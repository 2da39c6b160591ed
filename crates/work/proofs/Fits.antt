-- A table that calls make fits its ring: by the reasons that do not hold where a call is accepted.
use Prim.Native.Nat.{ℕ, ◌-◌, ◌≤◌, ◌<◌}
use mathlib.Core.Logic.{inl, inr}
use native.Mathlib.Omega.{arith}
use native.Mathlib.Decide.{dec_lt}
use Rattle.std.specs.Prelude.{None}
use Rattle.ring.specs.LineSize.{IsFibres}
use Rattle.ring.specs.Limits.{desk}
use Rattle.ring.specs.Lists.{Each, none}
use Rattle.ring.specs.declared.types.Ring.{Ring}
use Rattle.ring.specs.declared.types.Demand.{Demand}
use Rattle.reasons.specs.Findings.{nothing, finding, NoneHolds}
use Rattle.reasons.specs.RowFindings.{demand_findings}
use Rattle.reasons.specs.declared.reason.Reason.TheVariants.{Full}
use Rattle.reasons.proofs.Findings.{none-of, both-of, fibres-of}
use Rattle.work.specs.Places.{empty, holds, PlaceTable, rows_held, AllTaken}
use Rattle.work.specs.Calls.{Call, start, findings, fresh_table, with_place, Makes, starts, adds, changes, removes}
use Rattle.work.proofs.RowsHeld.{each_set, held-fresh}
use Rattle.work.proofs.Right.{Good}

pub record Fits (t : PlaceTable) : Type 0 where
  pub two : desk.fewest ≤ t.ring.nodes
  pub few : t.ring.nodes ≤ desk.nodes
  pub fibres : IsFibres t.ring.fibres
  pub rows : Each (Good t.ring.nodes) (rows_held t.places)

not_less : {a b : ℕ} → (a < b → ⊥) → b ≤ a
not_less {a} {b} f = elim (dec_lt a b) [ yes l ↦ absurd (f l) | no l ↦ omega arith ]

not_most : {a b : ℕ} → (a ≤ b → ⊥) → b < a
not_most {a} {b} f = elim (dec_lt b a) [ yes l ↦ l | no l ↦ absurd (f (omega arith)) ]

start-fits : (t : PlaceTable) (ring : Ring) → NoneHolds (findings t (start ring)) → Fits (fresh_table ring)
unfolding findings
start-fits t ring h =
    let size = none-of h in
    record {
      two = not_less (λ l. size.0 (inl l));
      few = not_less (λ l. size.0 (inr l));
      fibres = fibres-of ring.fibres (none-of size.1).0;
      rows = rw (held-fresh desk.rows) none;
    }

row_good : (n : ℕ) (r : Demand) → NoneHolds (demand_findings desk n 0 None r) → Good n r
row_good n r h =
    let node = none-of h in
    let order = none-of node.1 in
    let count = none-of (none-of order.1).1 in
    record {
      on = record { low = not_less (λ l. node.0 (inl (inl l))); order = not_most order.0; high = not_less (λ l. node.0 (inr (inr l))) };
      small = not_less (none-of count.1).0;
    }

module _ {t : PlaceTable} where
  put_fits : (k : ℕ) (r : Demand) → Fits t → Good t.ring.nodes r → Fits (with_place t k (holds r))
  put_fits k r f g = record { two = f.two; few = f.few; fibres = f.fibres; rows = each_set t.places k (holds r) f.rows g }

  -- a start makes a table that fits, and each other call of one that fits
  pub begun-fits : {ring : Ring} {p : ℕ} {u : PlaceTable} → NoneHolds (findings t (start ring)) → Makes t (start ring) p u → Fits u
  begun-fits h (starts {ring = ring}) = start-fits t ring h

  pub made-fits : {c : Call} {p : ℕ} {u : PlaceTable} → Fits t → NoneHolds (findings t c) → Makes t c p u → Fits u
  unfolding findings
  made-fits f h (starts {ring = ring}) = start-fits t ring h
  made-fits f h (adds {r = r} {p = p} low) = put_fits (p - 1) r f (row_good t.ring.nodes r (both-of (demand_findings desk t.ring.nodes 0 None r) (finding (AllTaken t.places) Full 0 nothing) h).0)
  made-fits f h (changes {p = p} {r = r}) = put_fits (p - 1) r f (row_good t.ring.nodes r (none-of h).1)
  made-fits f h (removes {p = p}) = record { two = f.two; few = f.few; fibres = f.fibres; rows = each_set t.places (p - 1) empty f.rows tt }
