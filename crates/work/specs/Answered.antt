-- To believe: what a call answers of every struct, whatever its bytes, and every byte of the struct behind it.
use Rattle.std.specs.Prelude.{ℕ, ◌-◌, Ok, Err, ◌≡◌}
use Rattle.family.specs.Sizes.{family_of}
use Rattle.ring.specs.Ring.{ring_of}
use Rattle.ring.specs.declared.types.Ring.{Ring}
use Rattle.ring.specs.declared.types.Demand.{Demand}
use Rattle.reasons.specs.Findings.{Given, NoneHolds}
use Rattle.reasons.specs.declared.reason.Reason.{Reason}
use Rattle.work.specs.Places.{PlaceTable, LowestFree, table_held}
use Rattle.work.specs.Calls.{Call, start, add, change, remove, WorkAnswer, findings}
use Rattle.work.specs.Bytes.{ring_size, fresh_in, put_in, cleared_in, cut_of, with_cut}
use Rattle.work.specs.declared.Work.{Work}

-- the list of places that a struct is, on a ring of the nearest size
abbrev pub table_within : Work → PlaceTable
table_within w = record { ring = ring_of (ring_size w.ring.nodes) w.ring.fibres (family_of w.ring.family); places = (table_held w).places }

-- the place that an accepted call names, and the struct that it makes of w before the largest cut is looked for: adding takes the lowest free place, and a change
-- takes a row off and puts another there
pub data Becomes (w : Work) : Call → ℕ → Work → Type 0 where
  starts : {ring : Ring} → Becomes w (start ring) 0 (fresh_in ring)
  adds : {r : Demand} {p : ℕ} → LowestFree (table_held w).places p → Becomes w (add r) p (put_in w (p - 1) r)
  changes : {p : ℕ} {r : Demand} → Becomes w (change p r) p (put_in (cleared_in w (p - 1)) (p - 1) r)
  removes : {p : ℕ} → Becomes w (remove p) p (cleared_in w (p - 1))

-- the answer a of a call c on the struct w, and the struct x behind it: a call is refused for the first reason that holds, and changes no byte; where none holds it
-- names the place, and the largest of the numbers kept from then on
pub data Answered (w : Work) (c : Call) (a : WorkAnswer) (x : Work) : Type 0 where
  refused : (reason : Reason) → Given (findings (table_within w) c) reason 0 → a ≡ Err reason → x ≡ w → Answered w c a x
  accepted : {p : ℕ} {y : Work} → NoneHolds (findings (table_within w) c) → Becomes w c p y → a ≡ Ok (record { place = p; cut = cut_of y }) → x ≡ with_cut y (cut_of y)
      → Answered w c a x

-- no other answer and no other struct are so: each of its bytes is fixed
pub record OnlyBytes {A : Type 0} (Promise : A → Work → Type 0) (a : A) (x : Work) : Type 0 where
  pub answer : (b : A) (y : Work) → Promise b y → b ≡ a
  pub bytes : (b : A) (y : Work) → Promise b y → y ≡ x
