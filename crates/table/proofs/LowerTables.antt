-- A table that a desk of lower limits accepts one of higher limits accepts too, with the same values.
use Prim.Native.Nat.{ℕ, ◌≤◌}
use mathlib.Core.List.{List}
use mathlib.Core.Path.{◌≡◌}
use native.Mathlib.Omega.{arith}
use native.Mathlib.Nat.{pow-le-pow_right}
use Rattle.std.specs.Prelude.{Ok}
use Rattle.ring.specs.Limits.{Limits, desk, old}
use Rattle.ring.specs.declared.types.Ring.{Ring}
use Rattle.ring.specs.declared.types.Demand.{Demand}
use Rattle.text.specs.Number.{base, limit}
use Rattle.text.proofs.RingLaws.{known-too}
use Rattle.table.specs.Table.{InRange}
use Rattle.table.specs.ReadTable.{table_of}
use Rattle.table.proofs.TableText.{table-text}
use Rattle.table.specs.Spelled.{LimitsSpelled}
use Rattle.reasons.proofs.LowerLimits.{Lower, old-lower}

module _ {low high : Limits} (lower : Lower low high) where
  -- a number short enough for the lower limits is so for the higher
  pub wider : limit low.digits ≤ limit high.digits
  wider = pow-le-pow_right {n = base} (omega arith) {i = low.digits} {j = high.digits} lower.digits

  pub low-spelled : LimitsSpelled low
  low-spelled = record { nodes = omega (arith, lower.nodes, lower.spelled.0); amount = omega (arith, lower.amount, lower.spelled.1) }

  pub high-spelled : LimitsSpelled high
  high-spelled = record { nodes = omega (arith, wider, lower.spelled.0); amount = omega (arith, wider, lower.spelled.1) }

  widen : {ring : Ring} {rs : List Demand} → InRange low ring rs → InRange high ring rs
  widen {ring} range =
      record {
        within =
            record {
              few = omega (arith, range.within.few, lower.fewest);
              many = omega (arith, range.within.many, lower.nodes);
              fibres = range.within.fibres;
              family = known-too low.marks high.marks lower.marks ring.family range.within.family;
              rows = range.within.rows;
              count = omega (arith, range.within.count, lower.rows);
              amounts = let e = lower.amount in rw (← e) range.within.amounts;
            };
        short = omega (arith, range.short, lower.bytes);
      }

  -- what the lower accept the higher accept, with the same values: so the same sheet is routed for it
  pub higher-table : (t : List ℕ) (ring : Ring) (rs : List Demand) → table_of low t ≡ Ok (ring, rs) → table_of high t ≡ Ok (ring, rs)
  higher-table t ring rs e = let h = (table-text low low-spelled t ring rs).0 e in (table-text high high-spelled t ring rs).1 (h.0, widen h.1)

-- what the old desk accepts is accepted with the same values
pub old-table-accepted : (t : List ℕ) (ring : Ring) (rs : List Demand) → table_of old t ≡ Ok (ring, rs) → table_of desk t ≡ Ok (ring, rs)
old-table-accepted = higher-table old-lower
