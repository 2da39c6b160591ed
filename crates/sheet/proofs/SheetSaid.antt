-- What is said of a sheet's line, by the place that reading has come to: a line has one place, so what is wrong with its shape, and whether it holds a row, is asked
-- of that place alone.
use Prim.Native.Nat.{ℕ, ◌≤◌, ◌<◌}
use mathlib.Core.List.{List}
use mathlib.Core.Logic.{◌⊎◌, inl, inr, ⊎_elim}
use mathlib.Core.Path.{◌≡◌, refl, ap, subst}
use native.Mathlib.Omega.{arith}
use lib.ListN.{length}
use Rattle.ring.specs.declared.types.Cut.{Cut}
use Rattle.ring.specs.Limits.{Limits}
use Rattle.ring.specs.declared.types.Ring.{Ring}
use Rattle.ring.specs.declared.types.Demand.{Demand}
use Rattle.ring.specs.declared.types.Routed.{Routed}
use Rattle.ring.specs.declared.types.Link.{Link}
use Rattle.lines.specs.Lines.{lines, LineIs}
use Rattle.table.specs.RowReasons.{RingIs}
use Rattle.reasons.specs.declared.reason.Reason.{Reason}
use Rattle.table.proofs.FirstOnLine.{RowBefore, no_row_before, row_before}
use Rattle.table.proofs.Said.{RowLaws, none-said}
use Rattle.sheet.specs.Says.{State, start, rows, links, end, RoutedIs, CutIs, LinkIs, LastIs, At, behind_ring, behind_row, RowIs, row_is, WrongLine, no_ring, no_row_no_cut, no_link, no_last, left_over, Says}
use Rattle.sheet.specs.Read.{last_demand_of}
use Rattle.sheet.proofs.Last.{last_more}
use Rattle.sheet.proofs.Places.{sent-one, sent-or-cut, place-low, place-one, rows-above, links-later}

-- ---- against a line, by its place

-- 2: the line does not have the shape that is due
abbrev pub Unfit : Limits → List ℕ → ℕ → State → Type 0
Unfit limits t line start = (ring : Ring) → RingIs limits t ring → ⊥
Unfit limits t line (rows ring rs) = ((r : Routed) → RoutedIs limits t line r → ⊥) × ((c : Cut) → CutIs limits t line c → ⊥)
Unfit limits t line (links ring rs c ks) =
    ((length ks < ring.nodes) × ((l : Link) → LinkIs limits t line l → ⊥)) ⊎ ((ring.nodes ≤ length ks) × ((p z : ℕ) → LastIs limits t line p z → ⊥))
Unfit limits t line (end x) = (l : List ℕ) × LineIs (lines t) line l

pub unfit-wrong : {limits : Limits} {t : List ℕ} {line : ℕ} {state : State} → At limits t line state → Unfit limits t line state → WrongLine limits t line
unfit-wrong {state = start} at none = no_ring at none
unfit-wrong {state = rows ring rs} at none = no_row_no_cut at none.0 none.1
unfit-wrong {state = links ring rs c ks} at (inl none) = no_link at none.0 none.1
unfit-wrong {state = links ring rs c ks} at (inr none) = no_last at none.0 none.1
unfit-wrong {state = end x} at left = left_over at left.1

-- what is due on a line
abbrev pub due : State → ℕ
due start = 0
due (rows ring rs) = 1
due (links ring rs c ks) = 2
due (end x) = 3

module _ {limits : Limits} {t : List ℕ} {line : ℕ} {state : State} (at : At limits t line state) where
  pub wrong-unfit : WrongLine limits t line → Unfit limits t line state
  wrong-unfit (no_ring at' none) = subst (λ s. Unfit limits t line s) (place-one at' at refl) none
  wrong-unfit (no_row_no_cut at' none none') = subst (λ s. Unfit limits t line s) (place-one at' at refl) (none, none')
  wrong-unfit (no_link at' few none) = subst (λ s. Unfit limits t line s) (place-one at' at refl) (inl (few, none))
  wrong-unfit (no_last at' all none) = subst (λ s. Unfit limits t line s) (place-one at' at refl) (inr (all, none))
  wrong-unfit (left_over {l} at' is) = subst (λ s. Unfit limits t line s) (place-one at' at refl) (l, is)

  pub row-due : {r : Demand} → RowIs limits t line r → 1 ≡ due state
  row-due (row_is at' is) = ap due (place-one at' at refl)

-- ---- rows

module _ {limits : Limits} {t : List ℕ} where
  row-later : {line : ℕ} {r : Demand} → RowIs limits t line r → 2 ≤ line
  row-later (row_is at is) = omega (arith, rows-above at)

  row-one : {line : ℕ} {r s : Demand} → RowIs limits t line r → RowIs limits t line s → r ≡ s
  row-one (row_is at is) (row_is at' is') = ap (λ (r : Routed). r.sent.demand) (sent-one is is')

  pub wrong-place : {line : ℕ} → WrongLine limits t line → (state : State) × At limits t line state
  wrong-place (no_ring at none) = (_, at)
  wrong-place (no_row_no_cut at none none') = (_, at)
  wrong-place (no_link at few none) = (_, at)
  wrong-place (no_last at all none) = (_, at)
  wrong-place (left_over at is) = (_, at)

  pub row-place : {line : ℕ} {r : Demand} → RowIs limits t line r → (state : State) × At limits t line state
  row-place (row_is at is) = (_, at)

  pub row-laws : RowLaws (RowIs limits t) (WrongLine limits t)
  row-laws = record { later = λ x. row-later x; one = λ x y. row-one x y; low = λ w. place-low (wrong-place w).1 }

  -- the row before is the last of those that were read
  pub row-above : {line : ℕ} {ring : Ring} {rs : List Routed} → At limits t line (rows ring rs) → RowBefore (RowIs limits t) line (last_demand_of rs)
  row-above (behind_ring is) = no_row_before
  row-above (behind_row {rs} {r} at is) = let e = last_more rs r in rw e (row_before (row_is at is))

-- ---- the other lines are right by their shape

module _ {limits : Limits} {t : List ℕ} {line : ℕ} {ring : Ring} {rs : List Routed} where
  pub none-of-cut : {c : Cut} {s : Reason} → At limits t line (rows ring rs) → CutIs limits t line c → Says limits t s line → ⊥
  none-of-cut {c} at is = none-said row-laws (omega (arith, rows-above at)) (λ w. (wrong-unfit at w).1 c is) (λ r x. no_row_here x)
    where
      no_row_here : {r : Demand} → RowIs limits t line r → ⊥
      no_row_here (row_is at' row) = sent-or-cut row is

  module _ {c : Cut} {ks : List Link} (at : At limits t line (links ring rs c ks)) where
    right-by : (Unfit limits t line (links ring rs c ks) → ⊥) → {s : Reason} → Says limits t s line → ⊥
    right-by right = none-said row-laws (links-later at) (λ w. right (wrong-unfit at w)) (λ r x. omega (arith, row-due at x))

    pub none-of-link : {l : Link} {s : Reason} → length ks < ring.nodes → LinkIs limits t line l → Says limits t s line → ⊥
    none-of-link {l} few is = right-by (λ u. ⊎_elim (λ none. none.1 l is) (λ none. omega (arith, none.0)) u)

    pub none-of-last : {p z : ℕ} {s : Reason} → ring.nodes ≤ length ks → LastIs limits t line p z → Says limits t s line → ⊥
    none-of-last {p} {z} all is = right-by (λ u. ⊎_elim (λ none. omega (arith, none.0)) (λ none. none.1 p z is) u)
