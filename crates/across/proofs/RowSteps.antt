-- A row of the working table: the two blocks of lines are its share of every number.
use Rattle.std.proofs.Common.{◌≡◌, ℕ, ◌+◌, ◌-◌, ◌<◌, ◌≤◌, Bool, true, false, not, cond, List, length, get_or, min, sym, ap, ◌∙◌, arith, w32, Fits, le-leb, nat_le, ◌%◌}
use mathlib.Core.Bool.{xor}
use native.Mathlib.Decide.{dec_le}
use borrow.Author.Tests.{lt-leb}
use Rattle.ring.specs.Demand.{demand, in_front}
use Rattle.ring.specs.declared.types.Demand.{Demand}
use Rattle.ring.specs.Cut.{part}
use Rattle.ring.proofs.Side.{Side, before, within, after, side}
use Rattle.ring.specs.Limits.{desk}
use Rattle.across.specs.Triangle.{place_of, at}
use Rattle.across.specs.Step.{triangle, type_end, raised, lowered, step, stepped, step_row}
use Rattle.across.specs.Lines.{most_pairs, BlockStep}
use Rattle.across.proofs.Places.{triangle-length, triangle-at, triangle-is, all-pairs}
use Rattle.across.proofs.LineSteps.{raised-none}

part_of : (r : Demand) (g h : ℕ) (x y : Bool) → in_front r g ≡ x → in_front r h ≡ y → part r g h ≡ cond (xor x y) r.amount 0
unfolding part xor
part_of r g h x y p q = rw (p, q)

module _ (n : ℕ) (r : Demand) (old mid new : List ℕ) (fits : (x : ℕ) → Fits w32 (get_or old x 0)) (size : length old ≡ most_pairs)
    (first : BlockStep r.amount r.first (min r.second (n + 1)) 1 r.first old mid) (second : BlockStep r.amount r.second (n + 1) r.first r.second mid new) where
  -- a pair across the row, and one that is not
  across-row : (g h : ℕ) (x : Bool) → in_front r g ≡ x → in_front r h ≡ not x → raised (at old g h) r.amount ≡ raised (at old g h) (part r g h)
  unfolding xor
  across-row g h true p q = rw (part_of r g h true false p q)
  across-row g h false p q = rw (part_of r g h false true p q)

  none : (g h : ℕ) (x : Bool) → in_front r g ≡ x → in_front r h ≡ x → at old g h ≡ raised (at old g h) (part r g h)
  unfolding xor
  none g h true p q = rw (part_of r g h true true p q) (sym (raised-none (at old g h) (omega (arith, fits (place_of g h)))))
  none g h false p q = rw (part_of r g h false false p q) (sym (raised-none (at old g h) (omega (arith, fits (place_of g h)))))

  module _ (few : n ≤ desk.nodes) (g h : ℕ) (a : 1 ≤ g) (b : g < h) where
    -- a pair of neither block
    kept : h ≤ desk.nodes → ((r.second ≤ h) × (h < n + 1) × (r.first ≤ g) × (g < r.second) → ⊥) → ((r.first ≤ h) × (h < min r.second (n + 1)) × (1 ≤ g) × (g < r.first) → ⊥) → at new g h ≡ at old g h
    kept c o q = second.outside g h a b (omega arith) o ∙ first.outside g h a b (omega arith) q

    on-ring : h ≤ n → at new g h ≡ raised (at old g h) (part r g h)
    on-ring c = go (side r g) (side r h)
      where
        go : Side r g → Side r h → at new g h ≡ raised (at old g h) (part r g h)
        go (before u p) (within v w q) =
            second.outside g h a b (omega arith) (λ o. omega (arith, o.2)) ∙ first.within g h a b (omega arith) (v, omega arith, a, u) ∙ across-row g h false p q
        go (within u v p) (after w q) =
            second.within g h a b (omega arith) (w, omega arith, u, v) ∙ ap (λ y. raised y r.amount) (first.outside g h a b (omega arith) (λ o. omega (arith, o.3))) ∙ across-row g h true p q
        go (within u v p) (within w z q) = kept (omega arith) (λ o. omega (arith, o.0)) (λ o. omega (arith, o.3)) ∙ none g h true p q
        go (within u v p) (before w q) = absurd (omega arith)
        go (before u p) (before v q) = kept (omega arith) (λ o. omega (arith, o.2)) (λ o. omega (arith, o.0)) ∙ none g h false p q
        go (before u p) (after v q) = kept (omega arith) (λ o. omega (arith, o.2)) (λ o. omega (arith, o.1)) ∙ none g h false p q
        go (after u p) (before v q) = kept (omega arith) (λ o. omega (arith, o.3)) (λ o. omega (arith, o.1)) ∙ none g h false p q
        go (after u p) (within v w q) = absurd (omega arith)
        go (after u p) (after v q) = kept (omega arith) (λ o. omega (arith, o.3)) (λ o. omega (arith, o.1)) ∙ none g h false p q

  pub rows_done : n ≤ desk.nodes → new ≡ step_row raised n r old
  unfolding step_row
  rows_done few =
      triangle-is (stepped raised n r old) desk.nodes new (second.size ∙ first.size ∙ size ∙ sym all-pairs)
      (λ g h a b c.
      elim (dec_le h n) [
        | yes l ↦ rw (le-leb h n l) (on-ring few g h a b l)
        | no l ↦ rw (lt-leb h n (omega arith)) (kept few g h a b c (λ o. omega (arith, o.1)) (λ o. omega (arith, o.1)))
      ])

-- ---- a row is taken off

-- to add what an amount lacks of the type's end is to take the amount
lowered-is : (y d rest : ℕ) (b : Bool) → rest ≡ (type_end - d) % type_end → raised y (cond b rest 0) ≡ lowered y (cond b d 0)
lowered-is y d rest true e = omega arith
lowered-is y d rest false e = omega arith

pub taken_is : (n : ℕ) (r : Demand) (rest : ℕ) (old new : List ℕ) → new ≡ step_row raised n (demand r.first r.second rest) old → rest ≡ (type_end - r.amount) % type_end → new ≡ step_row lowered n r old
unfolding step_row part
taken_is n r rest old new is e =
    is ∙ triangle-is (stepped lowered n r old) desk.nodes (triangle (stepped raised n (demand r.first r.second rest) old) desk.nodes) (triangle-length _ desk.nodes)
    (λ g h a b c.
    triangle-at (stepped raised n (demand r.first r.second rest) old) desk.nodes g h a b c ∙
    ap (λ x. cond (nat_le h n) x (at old g h)) (lowered-is (at old g h) r.amount rest (xor (in_front r g) (in_front r h)) e))

-- put on by its amount, or by what that lacks
pub step_is : (add : Bool) (n i j d share : ℕ) (old new : List ℕ) → new ≡ step_row raised n (demand i j share) old → share ≡ cond add d ((type_end - d) % type_end) →
    new ≡ step_row (step add) n (demand i j d) old
step_is true n i j d share old new is e = rw (sym e) is
step_is false n i j d share old new is e = taken_is n (demand i j d) share old new is e
