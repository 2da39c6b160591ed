-- The byte that the reader gives with a reason is that of the reason's own sentence, and a reason on a line has one byte: by the cases of the judging, since a
-- line has one reading and one first faulty byte.
use Prim.Native.Nat.{ℕ}
use mathlib.Core.List.{List, [], ◌∷◌}
use mathlib.Core.Logic.{◌⊎◌, inl, inr}
use mathlib.Core.Path.{◌≡◌, ap, sym, ◌∙◌}
use native.Mathlib.Omega.{arith}
use Rattle.ring.specs.Limits.{Limits}
use Rattle.ring.specs.declared.types.Ring.{Ring}
use Rattle.ring.specs.declared.types.Demand.{Demand}
use Rattle.text.specs.FieldByte.{field_byte, row_byte}
use Rattle.text.specs.Shapes.{ring_shape}
use Rattle.text.specs.RingLine.{ring_byte}
use Rattle.text.proofs.RingLaws.{ring-byte-alike}
use Rattle.reasons.specs.Fields.{field_of, node_field}
use Rattle.table.specs.RowReasons.{RingIs, RowsByte, at_none, at_fault, at_size, at_fibres, at_first_node, at_second_node, at_amount, at_pair, at_order, at_count}
use Rattle.reasons.specs.RowFindings.{NoNode}
use Rattle.reasons.specs.declared.reason.Reason.{Reason}
use Rattle.reasons.specs.declared.reason.Reason.TheVariants.{NoSuchNode}
use Rattle.reasons.specs.Verdict.{Verdict}
use Rattle.std.specs.Prelude.{Option}
use Rattle.reasons.proofs.Judged.{RingJudged, size_wrong, wrong_fibres, right_ring, Node, no_node, has_node, node, RowJudged, no_such_node, not_below, out_of_order, too_many, too_much, row_fine}
use Rattle.reasons.proofs.Against.{no-node-there}
use Rattle.table.proofs.FirstOnLine.{HoldsAs}
use Rattle.table.proofs.TableLines.{ring-one}

module _ {limits : Limits} {t : List ℕ} (Row : ℕ → Demand → Type 0) (LineByte : ℕ → ℕ → Type 0) where
  -- the byte that goes with the reason of a verdict is that reason's
  pub ring-byte : {ring : Ring} {v : Verdict} → RingIs limits t ring → RingJudged limits ring v → HoldsAs (λ s. RowsByte limits t Row LineByte 1 (field_byte ring_shape (0 ∷ ring.nodes ∷ ring.fibres ∷ []) (field_of s 0)) s) v
  ring-byte {ring} here (size_wrong w) = at_size here (ring-byte-alike ring 1 (omega arith))
  ring-byte {ring} here (wrong_fibres l m w) = at_fibres here (ring-byte-alike ring 2 (omega arith))
  ring-byte here (right_ring l m f) = tt

  -- where each field of a D line starts up to the amount
  module _ {ring : Ring} {line : ℕ} (r : Demand) (here : RingIs limits t ring) (row : Row line r) (byte : ℕ → ℕ) (letter : byte 0 ≡ 1) (first : byte 1 ≡ row_byte r 1) (second : byte 2 ≡ row_byte r 2) (amount : byte 3 ≡ row_byte r 3) where
    node-byte : Node ring.nodes r.first → NoNode ring.nodes r.first ⊎ NoNode ring.nodes r.second → RowsByte limits t Row LineByte line (byte (node_field ring.nodes r.first)) NoSuchNode
    unfolding node_field
    node-byte (no_node w e) out = rw e (at_first_node here row w first)
    node-byte (has_node h e) (inl w) = absurd (no-node-there h w)
    node-byte (has_node h e) (inr w) = rw e (at_second_node here row (no-node-there h) w second)

    pub row-byte : {k : ℕ} {above : Option Demand} {v : Verdict} → RowJudged limits ring.nodes k above r v → HoldsAs (λ s. RowsByte limits t Row LineByte line (byte (field_of s (node_field ring.nodes r.first))) s) v
    row-byte (no_such_node w) = node-byte (node ring.nodes r.first) w
    row-byte (not_below h p l) = at_pair letter
    row-byte (out_of_order h p l o) = at_order letter
    row-byte (too_many h p l o c) = at_count letter
    row-byte (too_much h p l o c m) = at_amount row amount
    row-byte (row_fine r o c m) = tt

-- ---- one byte

pub one_byte : {limits : Limits} {t : List ℕ} {Row : ℕ → Demand → Type 0} {LineByte : ℕ → ℕ → Type 0} {line b c : ℕ} {s : Reason}
    → ((r q : Demand) → Row line r → Row line q → r ≡ q) → (LineByte line b → LineByte line c → b ≡ c)
    → RowsByte limits t Row LineByte line b s → RowsByte limits t Row LineByte line c s → b ≡ c
one_byte one same (at_none e) (at_none f) = e ∙ sym f
one_byte one same (at_fault x) (at_fault y) = same x y
one_byte one same (at_size x e) (at_size y f) = e ∙ ap (λ ring. ring_byte ring 1) (ring-one x y) ∙ sym f
one_byte one same (at_fibres x e) (at_fibres y f) = e ∙ ap (λ ring. ring_byte ring 2) (ring-one x y) ∙ sym f
one_byte one same (at_first_node n x w e) (at_first_node m y v f) = e ∙ ap (λ r. row_byte r 1) (one _ _ x y) ∙ sym f
one_byte one same (at_first_node n x w e) (at_second_node m y v u f) = let q = one _ _ x y in let k = ring-one n m in absurd (v (rw (q, k) at w))
one_byte one same (at_second_node n x w u e) (at_first_node m y v f) = let q = one _ _ y x in let k = ring-one m n in absurd (w (rw (q, k) at v))
one_byte one same (at_second_node n x w u e) (at_second_node m y v z f) = e ∙ ap (λ r. row_byte r 2) (one _ _ x y) ∙ sym f
one_byte one same (at_amount x e) (at_amount y f) = e ∙ ap (λ r. row_byte r 3) (one _ _ x y) ∙ sym f
one_byte one same (at_pair e) (at_pair f) = e ∙ sym f
one_byte one same (at_order e) (at_order f) = e ∙ sym f
one_byte one same (at_count e) (at_count f) = e ∙ sym f
