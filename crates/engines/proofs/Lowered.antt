-- The lowered rooms are the largest of their differences, none of which is cut off at 0; they are at most M, of one parity and enough for every pair of links, so
-- that rule B's theorem applies; and each link lies in a tight pair, which leaves no routing of the demands below the rooms of its two links. Section 4 of
-- Schrijver, Seymour and Winkler (Rules, papers).
use Prim.Native.Nat.{ℕ, zero, suc, ◌+◌, ◌*◌, ◌-◌, ◌%◌, ◌≤◌, ◌<◌}
use mathlib.Core.Bool.{Bool, true, false}
use mathlib.Core.List.{List, [], ◌∷◌}
use mathlib.Core.Path.{◌≡◌, sym}
use native.Mathlib.Omega.{arith}
use native.Mathlib.Nat.{max-le, le_refl, le_antisymm}
use native.Mathlib.Decide.{dec_le, dec_lt, ℕ_discrete}
use Rattle.ring.specs.declared.types.Demand.{Demand}
use Rattle.ring.specs.Demand.{in_front}
use Rattle.ring.specs.Cut.{IsCut, if_one, across}
use Rattle.ring.specs.Routing.{peak}
use Rattle.ring.specs.RuleA.{cut_at, rule_a, largest_across}
use Rattle.ring.specs.RuleB.{Room}
use Rattle.ring.specs.Rules.{Best, Enough, OneParity}
use Rattle.engines.specs.Lowering.{lowest_room, lowered_rooms, OneOf, earlier, later, LargestOf, LoweredRooms}
use Rattle.ring.proofs.Across.{either_order, one_link}
use Rattle.ring.proofs.Peaks.{peak-above, peak-least, peak-attained}
use Rattle.ring.proofs.LargestCut.{rule-A}
use Rattle.engines.proofs.LinkByLink.{room-is}

-- what lies across a and b lies across a and g or across g and b
by_way_of : (rs : List Demand) (a g b : ℕ) → across rs a b ≤ across rs a g + across rs g b
unfolding across
by_way_of [] a g b = omega arith
by_way_of (r ∷ rs) a g b = omega (arith, by_way_of rs a g b, one (in_front r a) (in_front r g) (in_front r b))
  where
    one : (x y z : Bool) → if_one r.amount x z ≤ if_one r.amount x y + if_one r.amount y z
    one true true true = omega arith
    one true true false = omega arith
    one true false true = omega arith
    one true false false = omega arith
    one false true true = omega arith
    one false true false = omega arith
    one false false true = omega arith
    one false false false = omega arith

module _ (n : ℕ) (rs : List Demand) (two : 2 ≤ n) where
  abbrev m : ℕ
  m = largest_across n rs

  abbrev room : Room
  room = lowered_rooms n rs

  best : Best (across rs) (IsCut n) (rule_a n rs)
  best = rule-A n rs two

  -- each is the largest, by the final rooms of the links before it
  pub lowered-is : (g : ℕ) → 1 ≤ g → g ≤ n → room g ≡ lowest_room (across rs) m n room g
  unfolding lowered_rooms
  lowered-is = room-is (across rs) m n

  across-at-most : (g h : ℕ) → 1 ≤ g → g < h → h ≤ n → across rs g h ≤ m
  across-at-most g h low l high = best.largest (cut_at (across rs) g h) (record { low = low; order = l; high = high })

  -- the turn of the later link saw the earlier, and the turn of the earlier took the later at M
  saw-earlier : (h g : ℕ) → 1 ≤ h → h < g → g ≤ n → 2 * across rs h g ≤ room h + room g
  unfolding lowest_room
  saw-earlier h g low l high =
      omega (arith, lowered-is g (omega arith) high, peak-above (λ h. 2 * across rs h g - room h) (g - 1) h low (omega arith))

  saw-later : (g h : ℕ) → 1 ≤ g → g < h → h ≤ n → 2 * across rs g h ≤ m + room g
  unfolding lowest_room
  saw-later g h low l high =
      let e : g + (h - g) ≡ h = omega arith in
      let c : 2 * across rs g h - m ≤ peak (λ x. 2 * across rs g (g + x) - m) (n - g) =
      rw e at (peak-above (λ x. 2 * across rs g (g + x) - m) (n - g) (h - g) (omega arith) (omega arith)) in
      omega (arith, lowered-is g low (omega arith))

  pub at-most-M : (g : ℕ) → 1 ≤ g → g ≤ n → room g ≤ m
  unfolding lowest_room
  at-most-M g low high =
      rw (lowered-is g low high)
      (max-le
      (peak-least (λ h. 2 * across rs h g - room h) (g - 1) m (λ h a b. omega (arith, saw-later h g a (omega arith) high)))
      (peak-least (λ x. 2 * across rs g (g + x) - m) (n - g) m (λ x a b. omega (arith, across-at-most g (g + x) low (omega arith) (omega arith)))))

  pub enough : Enough n room rs
  enough g h low ord high =
      elim (dec_lt g h) [
        | yes l ↦ saw-earlier g h low l high
        | no l ↦ let e : h ≡ g = omega arith in rw e (omega (arith, one_link rs g))
      ]

  -- ---- no difference is cut off at 0

  abbrev Chosen : ℕ → Type 0
  Chosen g = OneOf (across rs) m n room g

  -- another link, with at least half of M across the two
  record Opposite (g : ℕ) : Type 0 where
    h : ℕ
    low : 1 ≤ h
    high : h ≤ n
    other : h ≡ g → ⊥
    half : m ≤ 2 * across rs g h

  opposite : (g : ℕ) → Opposite g
  opposite g =
      let c = rule_a n rs in
      let on = best.among in
      elim (ℕ_discrete g c.g) [
        | yes e ↦ record {
          h = c.h;
          low = omega (arith, on.low, on.order);
          high = on.high;
          other = λ z. omega (arith, on.order);
          half = rw e (omega (arith, best.is));
        }
        | no e ↦ elim (dec_le m (2 * across rs g c.g)) [
          | yes l ↦ record { h = c.g; low = on.low; high = omega (arith, on.order, on.high); other = λ z. e (sym z); half = l }
          | no l ↦ record {
            h = c.h;
            low = omega (arith, on.low, on.order);
            high = on.high;
            other = λ z. l (rw (sym z) (omega (arith, best.is, either_order rs c.h c.g)));
            half = omega (arith, best.is, by_way_of rs c.g g c.h, either_order rs g c.g);
          }
        ]
      ]

  -- a room of 0 is that of the opposite link's candidate
  of_none : (g : ℕ) → 1 ≤ g → g ≤ n → room g ≡ 0 → Chosen g
  of_none g low high z =
      let o = opposite g in
      elim (dec_lt o.h g) [
        | yes l ↦ earlier o.h o.low l (omega (arith, o.half, either_order rs g o.h, at-most-M o.h o.low o.high, saw-earlier o.h g o.low l high))
        | no l ↦ let k : g < o.h = omega (arith, o.other) in later o.h k o.high (omega (arith, o.half, saw-later g o.h low k o.high))
      ]

  -- a room above 0 is that of the largest candidate
  of_some : (g : ℕ) → 1 ≤ g → g ≤ n → 0 < room g → Chosen g
  unfolding lowest_room peak
  of_some g low high some =
      let is = lowered-is g low high in
      elim (dec_le (peak (λ x. 2 * across rs g (g + x) - m) (n - g)) (peak (λ h. 2 * across rs h g - room h) (g - 1))) [
        | yes l ↦ elim (dec_lt 1 g) [
          | yes k ↦
              let a = peak-attained (λ h. 2 * across rs h g - room h) (g - 1) (omega arith) in
              earlier a.link a.low (omega (arith, a.high)) (omega (arith, a.is))
          | no k ↦ let e : g - 1 ≡ 0 = omega arith in absurd (omega (arith, rw e at is, rw e at l))
        ]
        | no l ↦ elim (dec_lt g n) [
          | yes k ↦
              let a = peak-attained (λ x. 2 * across rs g (g + x) - m) (n - g) (omega arith) in
              later (g + a.link) (omega (arith, a.low)) (omega (arith, a.high)) (omega (arith, a.is))
          | no k ↦ let e : n - g ≡ 0 = omega arith in absurd (l (rw e (omega arith)))
        ]
      ]

  pub candidate : (g : ℕ) → 1 ≤ g → g ≤ n → Chosen g
  candidate g low high = elim (dec_lt 0 (room g)) [ yes l ↦ of_some g low high l | no l ↦ of_none g low high (omega arith) ]

  pub rooms-lowered : LoweredRooms n rs room
  rooms-lowered g low high =
      record { before = λ h a b. saw-earlier h g a b high; behind = λ h a b. saw-later g h low a b; is = candidate g low high }

  -- ---- one parity: that of M

  parity-of-M : (top g : ℕ) → g ≤ top → 1 ≤ g → g ≤ n → (room g + m) % 2 ≡ 0
  parity-of-M zero g l low high = absurd (omega arith)
  parity-of-M (suc top) g l low high = go (candidate g low high) (λ h a b. parity-of-M top h (omega arith) a (omega arith))
    where
      go : Chosen g → ((h : ℕ) → 1 ≤ h → h < g → (room h + m) % 2 ≡ 0) → (room g + m) % 2 ≡ 0
      go (earlier h a b e) before = omega (arith, before h a b)
      go (later h a b e) before = omega arith

  pub parity : OneParity n room
  parity g h a b c d = omega (arith, parity-of-M g g (le_refl g) a b, parity-of-M h h (le_refl h) c d)

  -- ---- each link lies in a tight pair

  pub record Tight (g : ℕ) : Type 0 where
    pub h : ℕ
    pub low : 1 ≤ h
    pub high : h ≤ n
    pub is : room g + room h ≡ 2 * across rs g h

  pub tight : (g : ℕ) → 1 ≤ g → g ≤ n → Tight g
  tight g low high = go (candidate g low high)
    where
      go : Chosen g → Tight g
      go (earlier h a b e) = record { h = h; low = a; high = omega arith; is = omega (arith, either_order rs g h) }
      go (later h a b e) = record { h = h; low = omega arith; high = b; is = omega (arith, saw-earlier g h low a b, at-most-M h (omega arith) b) }

-- ---- no other rooms are so: of two such rooms neither is above the other, link by link

module _ (n : ℕ) (rs : List Demand) (room other : Room) (lowered : LoweredRooms n rs room) (lowered' : LoweredRooms n rs other) where
  up-to : (top g : ℕ) → g ≤ top → 1 ≤ g → g ≤ n → room g ≡ other g
  up-to zero g l low high = absurd (omega arith)
  up-to (suc top) g l low high =
      let before : (h : ℕ) → 1 ≤ h → h < g → room h ≡ other h = λ h a b. up-to top h (omega arith) a (omega arith) in
      let one = lowered g low high in
      let two = lowered' g low high in
      le_antisymm (no-higher one two before) (no-higher two one (λ h a b. sym (before h a b)))
    where
      no-higher : {A B : Room} → LargestOf (across rs) (largest_across n rs) n A g → LargestOf (across rs) (largest_across n rs) n B g → ((h : ℕ) → 1 ≤ h → h < g → A h ≡ B h) → A g ≤ B g
      no-higher {A} {B} a b before = go a.is
        where
          go : OneOf (across rs) (largest_across n rs) n A g → A g ≤ B g
          go (earlier h p q e) = omega (arith, b.before h p q, before h p q)
          go (later h p q e) = omega (arith, b.behind h p q)

  pub one-lowering : (g : ℕ) → 1 ≤ g → g ≤ n → room g ≡ other g
  one-lowering g = up-to g g (le_refl g)
