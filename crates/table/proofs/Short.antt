-- No table is longer than `table_room`, by the widths of its numbers.
use Prim.Native.Nat.{ℕ, ◌*◌, ◌≤◌, ◌<◌}
use mathlib.Core.List.{List, [], ◌∷◌}
use mathlib.Core.Logic.{inl, inr}
use native.Mathlib.Omega.{arith}
use lib.ListN.{length, length-append}
use Rattle.ring.specs.Limits.{Limits, desk, old}
use Rattle.ring.specs.LineSize.{IsFibres}
use Rattle.ring.specs.Lists.{Each, none, more}
use Rattle.ring.specs.declared.types.Ring.{Ring}
use Rattle.ring.specs.Demand.{OnRing}
use Rattle.ring.specs.declared.types.Demand.{Demand}
use Rattle.text.specs.declared.field.Field.TheVariants.{Number}
use Rattle.text.specs.Bytes.{letter_r, letter_d, letter_m}
use Rattle.text.specs.Number.{base}
use Rattle.text.specs.Field.{spell}
use Rattle.text.specs.Shapes.{row_line}
use Rattle.text.specs.RingLine.{ring_line}
use Rattle.family.specs.declared.family.Family.{Family}
use Rattle.family.specs.declared.family.Family.TheVariants.{Sonet, Sdh}
use Rattle.ring.specs.Ring.{ring_of}
use Rattle.text.proofs.Widths.{no-field, wide-field, line-wide, number-wide, letter-wide}
use Rattle.table.specs.Table.{write_rows, write_table, table_room}

-- limits of nodes of 2 digits and amounts of 4
pub record Narrow (limits : Limits) : Type 0 where
  pub nodes : limits.nodes < 100
  pub amount : limits.amount < 10000

pub desk-narrow : Narrow desk
desk-narrow = record { nodes = omega arith; amount = omega arith }

pub old-narrow : Narrow old
old-narrow = record { nodes = omega arith; amount = omega arith }

module _ (limits : Limits) (narrow : Narrow limits) where
  pub node-wide : (v : ℕ) → v ≤ limits.nodes → length (spell Number v) ≤ 2
  node-wide v h = number-wide 1 v (omega arith) (omega (arith, narrow.nodes))

  pub amount-wide : (v : ℕ) → v ≤ limits.amount → length (spell Number v) ≤ 4
  amount-wide v h = number-wide 3 v (omega arith) (omega (arith, narrow.amount))

  pub ring-short : (ring : Ring) → ring.nodes ≤ limits.nodes → IsFibres ring.fibres → length (ring_line ring) ≤ 9
  ring-short ring many fibres = go ring.family
    where
      one : {f : ℕ} → IsFibres f → f < base
      one (inl e) = omega arith
      one (inr e) = omega arith

      fibres-wide : length (spell Number ring.fibres) ≤ 1
      fibres-wide = number-wide 0 ring.fibres (omega arith) (one fibres)

      go : (family : Family) → length (ring_line (ring_of ring.nodes ring.fibres family)) ≤ 9
      go Sonet = omega (arith, line-wide {ws = 1 ∷ 2 ∷ 1 ∷ []} (wide-field (letter-wide letter_r 0) (wide-field (node-wide ring.nodes many) (wide-field fibres-wide no-field))))
      go Sdh =
          line-wide {ws = 1 ∷ 2 ∷ 1 ∷ 1 ∷ []}
          (wide-field (letter-wide letter_r 0) (wide-field (node-wide ring.nodes many) (wide-field fibres-wide (wide-field (letter-wide letter_m 0) no-field))))

  row-short : (n : ℕ) (r : Demand) → n ≤ limits.nodes → OnRing n r → r.amount ≤ limits.amount → length (row_line r.first r.second r.amount) ≤ 13
  row-short n r many on d =
      line-wide {ws = 1 ∷ 2 ∷ 2 ∷ 4 ∷ []}
      (wide-field (letter-wide letter_d 0)
      (wide-field (node-wide r.first (omega (arith, on.order, on.high))) (wide-field (node-wide r.second (omega (arith, on.high))) (wide-field (amount-wide r.amount d) no-field))))

  rows_short : (n : ℕ) (rs : List Demand) → n ≤ limits.nodes → Each (OnRing n) rs → Each (λ r. r.amount ≤ limits.amount) rs → length (write_rows rs) ≤ 13 * length rs
  unfolding write_rows
  rows_short n [] many none none = omega arith
  rows_short n (r ∷ rs) many (more o os) (more d ds) =
      omega (arith, length-append (row_line r.first r.second r.amount) (write_rows rs), row-short n r many o d, rows_short n rs many os ds)

  -- whatever the order of its rows
  pub table-short : (ring : Ring) (rs : List Demand) → ring.nodes ≤ limits.nodes → IsFibres ring.fibres → Each (OnRing ring.nodes) rs → length rs ≤ limits.rows → Each (λ r. r.amount ≤ limits.amount) rs
      → length (write_table ring rs) ≤ table_room limits
  unfolding write_table
  table-short ring rs many fibres nodes count amounts =
      omega (arith, length-append (ring_line ring) (write_rows rs), ring-short ring many fibres, rows_short ring.nodes rs many nodes amounts)
