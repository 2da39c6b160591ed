-- On the first line of a text of rows, and on a line that holds a row, the verdict is the first reason that holds there, and Ok where none does: what is said of
-- the line is said of its numbers, since a line has one ring or one row.
use Prim.Native.Nat.{ℕ, ◌+◌}
use mathlib.Core.List.{List}
use mathlib.Core.Path.{◌≡◌, refl, subst}
use native.Mathlib.Omega.{arith}
use Rattle.ring.specs.Limits.{Limits}
use Rattle.ring.specs.TableRows.{PairBefore}
use Rattle.ring.specs.declared.types.Ring.{Ring}
use Rattle.ring.specs.declared.types.Demand.{Demand}
use Rattle.reasons.specs.RowFindings.{Falls}
use Rattle.table.specs.RowReasons.{RingIs, RowsSay, says_too_long, says_misshapen, says_ring_size, says_fibres, says_no_such_node, says_not_below, says_out_of_order, says_too_many, says_too_much}
use Rattle.reasons.specs.declared.reason.Reason.{Reason}
use Rattle.reasons.specs.declared.reason.Reason.TheVariants.{Misshapen, OutOfOrder}
use Rattle.reasons.specs.Verdict.{Verdict}
use Rattle.std.specs.Prelude.{Option, Some, None, Ok, Err}
use Rattle.reasons.proofs.Judged.{RingJudged, size_wrong, wrong_fibres, right_ring, RowJudged, no_such_node, not_below, out_of_order, too_many, too_much, row_fine}
use Rattle.reasons.proofs.Against.{NoLater, AgainstRow, by_nodes, by_pair, by_order, by_count, by_amount, row-least, AgainstRing, by_size, by_fibres, ring-least}
use Rattle.table.proofs.TableLines.{ring-one}
use Rattle.table.proofs.Said.{RowLaws, Stands, on_none, on_line, stands}

-- the reason of a verdict holds
abbrev pub HoldsAs : (Reason → Type 0) → Verdict → Type 0
HoldsAs Says (Ok tt) = Unit {0}
HoldsAs Says (Err r) = Says r

-- the verdict is the first reason that holds, Ok where none does
pub record First (Says : Reason → Type 0) (v : Verdict) : Type 0 where
  pub holds : HoldsAs Says v
  pub least : (s : Reason) → Says s → NoLater v s

-- the row before a line, where there is one
pub data RowBefore (Row : ℕ → Demand → Type 0) : ℕ → Option Demand → Type 0 where
  no_row_before : RowBefore Row 2 None
  row_before : {line : ℕ} {q : Demand} → Row line q → RowBefore Row (line + 1) (Some q)

module _ {Row : ℕ → Demand → Type 0} {WrongLine : ℕ → Type 0} (laws : RowLaws Row WrongLine) where
  order-against : {line before : ℕ} {above : Option Demand} (q r : Demand) → RowBefore Row line above → line ≡ before + 1 → Row before q → PairBefore r.first r.second q.first q.second → Falls above r
  order-against q r no_row_before e x w = absurd (omega (arith, laws.later x))
  order-against {before} q r (row_before {line} above) e x w =
      let k : before ≡ line = omega arith in
      let p = laws.one (subst (λ m. Row m q) k x) above in
      rw p at w

module _ {limits : Limits} {t : List ℕ} {Row : ℕ → Demand → Type 0} {WrongLine : ℕ → Type 0} (laws : RowLaws Row WrongLine) where
  -- ---- a line of the wrong shape: only reason 1 comes before, and that stands on no line

  pub wrong-first : {line : ℕ} → WrongLine line → First (RowsSay limits t Row WrongLine line) (Err Misshapen)
  wrong-first {line} w = record { holds = says_misshapen w; least = λ s h. go (stands laws h) }
    where
      go : {s : Reason} → Stands limits t line s → NoLater (Err Misshapen) s
      go (on_none e long) = absurd (omega (arith, laws.low w))
      go (on_line low two) = two

  -- ---- R n fibres

  module _ {ring : Ring} (here : RingIs limits t ring) (right : WrongLine 1 → ⊥) where
    said-of-ring : {s : Reason} → RowsSay limits t Row WrongLine 1 s → AgainstRing limits ring s
    said-of-ring (says_too_long e long) = absurd (omega arith)
    said-of-ring (says_misshapen w) = absurd (right w)
    said-of-ring (says_ring_size e x w) = let n = ring-one x here in by_size (rw n at w)
    said-of-ring (says_fibres e x w) = let n = ring-one x here in by_fibres (rw n at w)
    said-of-ring (says_no_such_node x y w) = absurd (omega (arith, laws.later y))
    said-of-ring (says_not_below y w) = absurd (omega (arith, laws.later y))
    said-of-ring (says_out_of_order e x y w) = absurd (omega (arith, laws.later y))
    said-of-ring (says_too_many y w) = absurd (omega (arith, laws.later y))
    said-of-ring (says_too_much y w) = absurd (omega (arith, laws.later y))

    pub ring-judged-first : {v : Verdict} → RingJudged limits ring v → First (RowsSay limits t Row WrongLine 1) v
    ring-judged-first judged = record { holds = go judged; least = λ s h. ring-least judged (said-of-ring h) }
      where
        go : {v : Verdict} → RingJudged limits ring v → HoldsAs (RowsSay limits t Row WrongLine 1) v
        go (size_wrong w) = says_ring_size refl here w
        go (wrong_fibres l m w) = says_fibres refl here w
        go (right_ring l m f) = tt

  -- ---- a row

  -- a row that falls has a row before it
  order-holds : {line : ℕ} {above : Option Demand} {r : Demand} → RowBefore Row line above → Row line r → Falls above r → RowsSay limits t Row WrongLine line OutOfOrder
  order-holds no_row_before row wrong = absurd wrong
  order-holds (row_before above) row wrong = says_out_of_order refl above row wrong

  -- it stands behind k rows
  module _ {ring : Ring} {line k : ℕ} {above : Option Demand} {r : Demand} (here : RingIs limits t ring) (row : Row line r) (right : WrongLine line → ⊥) (place : line ≡ k + 2) (before : RowBefore Row line above) where
    said-of-row : {s : Reason} → RowsSay limits t Row WrongLine line s → AgainstRow limits ring.nodes k above r s
    said-of-row (says_too_long e long) = absurd (omega (arith, place))
    said-of-row (says_misshapen w) = absurd (right w)
    said-of-row (says_ring_size e x w) = absurd (omega (arith, place))
    said-of-row (says_fibres e x w) = absurd (omega (arith, place))
    said-of-row (says_no_such_node x y w) = let n = ring-one x here in let q = laws.one y row in by_nodes (rw (n, q) at w)
    said-of-row (says_not_below y w) = let q = laws.one y row in by_pair (rw q at w)
    said-of-row (says_out_of_order {q} e x y w) = let p = laws.one y row in by_order (order-against laws q r before e x (rw p at w))
    said-of-row (says_too_many y w) = by_count (omega (arith, place))
    said-of-row (says_too_much y w) = let q = laws.one y row in by_amount (rw q at w)

    pub row-judged-first : {v : Verdict} → RowJudged limits ring.nodes k above r v → First (RowsSay limits t Row WrongLine line) v
    row-judged-first judged = record { holds = go judged; least = λ s h. row-least judged (said-of-row h) }
      where
        go : {v : Verdict} → RowJudged limits ring.nodes k above r v → HoldsAs (RowsSay limits t Row WrongLine line) v
        go (no_such_node w) = says_no_such_node here row w
        go (not_below h p w) = says_not_below row w
        go (out_of_order h p l w) = order-holds before row w
        go (too_many h p l o w) = says_too_many row (omega (arith, place))
        go (too_much h p l o c w) = says_too_much row w
        go (row_fine o up c m) = tt
