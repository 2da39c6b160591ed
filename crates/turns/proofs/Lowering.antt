-- The turn of a row lowers the peak P exactly where the row sends something and the largest load off its path, raised by that, stays below P: a
-- turn takes d off each link of the path and puts d on each other link.
use Rattle.std.specs.Prelude.{Some, slice_get}
use Prim.Native.Nat.{ℕ, zero, suc, ◌+◌, ◌-◌, ◌≤◌, ◌<◌}
use mathlib.Core.Bool.{Bool, true, false, true≢false, cond}
use mathlib.Core.List.{List, [], ◌∷◌}
use mathlib.Core.Path.{◌≡◌, refl, sym, ◌∙◌}
use native.Mathlib.Omega.{arith}
use native.Mathlib.Decide.{dec_lt}
use lib.Dec.{ltb}
use borrow.Author.Tests.{lt-ltb, le-ltb}
use Rattle.ring.specs.Demand.{in_front, OnRing}
use Rattle.ring.specs.declared.types.Routed.{Routed}
use Rattle.ring.specs.declared.types.Way.{Way}
use Rattle.ring.specs.declared.types.Way.TheVariants.{Front, Back}
use Rattle.ring.specs.Routing.{whole_over, unsplit_load, peak, Attains}
use Rattle.turns.specs.Turns.{peak_of, turned, turn_at, on_path, PlacedRow, lowers}
use Rattle.ring.proofs.Side.{in-front, after_front}
use Rattle.ring.proofs.Peaks.{peak-above, peak-least, peak-attained}
use Rattle.turns.specs.Choosing.{off_top, lowers_by}

-- row r stands at place p, in words that a recursion takes apart
pub data AtPlace (r : Routed) : ℕ → List Routed → Type 0 where
  here : {rs : List Routed} → AtPlace r 0 (r ∷ rs)
  there : {p : ℕ} {q : Routed} {rs : List Routed} → AtPlace r p rs → AtPlace r (suc p) (q ∷ rs)

pub at-place : (rs : List Routed) (p : ℕ) (r : Routed) → slice_get rs p ≡ Some r → AtPlace r p rs
at-place [] p r e = absurd (let z : ◌≡◌ {A = ℕ} 0 1 = cc in omega arith)
at-place (q ∷ rs) zero r e = let same : q ≡ r = cc in rw same here
at-place (q ∷ rs) (suc p) r e = there (at-place rs p r e)

-- ---- what a turn does to a link

swapped : (r : Routed) (p : ℕ) (rs : List Routed) → AtPlace r p rs → (k : ℕ) → unsplit_load (turn_at p rs) k + whole_over r k ≡ unsplit_load rs k + whole_over (turned r) k
unfolding unsplit_load turn_at
swapped r p rs (here {rs = l}) k = omega arith
swapped r p rs (there {p = q} {rs = l} a) k = omega (arith, swapped r q l a k)

-- what a row sends over a link of its path, and what it sends there once turned
record OnIt (r : Routed) (k : ℕ) : Type 0 where
  now : whole_over r k ≡ r.sent.demand.amount
  then : whole_over (turned r) k ≡ 0

record OffIt (r : Routed) (k : ℕ) : Type 0 where
  now : whole_over r k ≡ 0
  then : whole_over (turned r) k ≡ r.sent.demand.amount

data Sides (r : Routed) (k : ℕ) : Type 0 where
  within : on_path r k ≡ true → OnIt r k → Sides r k
  beside : on_path r k ≡ false → OffIt r k → Sides r k

sides : (r : Routed) (k : ℕ) → Sides r k
unfolding whole_over
sides r k = go r.way refl (in_front r.sent.demand k) refl
  where
    go : (w : Way) → r.way ≡ w → (b : Bool) → in_front r.sent.demand k ≡ b → Sides r k
    go Front e true f = within (rw (e, f)) (record { now = rw (e, f); then = rw (e, f) })
    go Front e false f = beside (rw (e, f)) (record { now = rw (e, f); then = rw (e, f) })
    go Back e true f = beside (rw (e, f)) (record { now = rw (e, f); then = rw (e, f) })
    go Back e false f = within (rw (e, f)) (record { now = rw (e, f); then = rw (e, f) })

pub over-path : (r : Routed) (k : ℕ) → whole_over r k ≡ cond (on_path r k) r.sent.demand.amount 0
over-path r k = elim (sides r k) [ within e o ↦ rw e o.now | beside e o ↦ rw e o.now ]

-- a link off the path of a row of the ring
pub record OffLink (n : ℕ) (r : Routed) : Type 0 where
  pub link : ℕ
  pub low : 1 ≤ link
  pub high : link ≤ n
  pub off : on_path r link ≡ false

pub off-link : (n : ℕ) (r : Routed) → OnRing n r.sent.demand → OffLink n r
off-link n r on = go r.way refl
  where
    go : (w : Way) → r.way ≡ w → OffLink n r
    go Front e = record { link = r.sent.demand.second; low = omega arith; high = on.high; off = rw (e, after_front r.sent.demand r.sent.demand.second (omega arith)) }
    go Back e = record { link = r.sent.demand.first; low = on.low; high = omega arith; off = rw (e, in-front r.sent.demand r.sent.demand.first (omega arith) on.order) }

module _ (n : ℕ) (rs : List Routed) (p : ℕ) (r : Routed) (place : AtPlace r p rs) where
  abbrev d : ℕ
  d = r.sent.demand.amount

  abbrev load : ℕ → ℕ
  load k = unsplit_load rs k

  abbrev after : ℕ → ℕ
  after k = unsplit_load (turn_at p rs) k

  pub data Moved (k : ℕ) : Type 0 where
    falls : on_path r k ≡ true → after k + d ≡ load k → Moved k
    rises : on_path r k ≡ false → after k ≡ load k + d → Moved k

  pub moved : (k : ℕ) → Moved k
  moved k = elim (sides r k) [ within e o ↦ falls e (omega (arith, swapped r p rs place k, o.now, o.then)) | beside e o ↦ rises e (omega (arith, swapped r p rs place k, o.now, o.then)) ]

  -- ---- the peak

  abbrev off_load : ℕ → ℕ
  off_load k = cond (on_path r k) 0 (load k)

  off-most : (k : ℕ) → 1 ≤ k → k ≤ n → on_path r k ≡ false → load k ≤ off_top n load r
  unfolding off_top
  off-most k a b e = let h = peak-above off_load n k a b in rw e at h

  falls_below : 0 < d → off_top n load r + d < peak load n → peak after n < peak load n
  falls_below some less =
      let most = peak-least after n (peak load n - 1) (λ k a b. elim (moved k) [
        | falls e f ↦ omega (arith, f, peak-above load n k a b)
        | rises e f ↦ omega (arith, f, off-most k a b e)
      ]) in
      omega arith

  nothing-moves : d ≡ 0 → peak load n ≤ peak after n
  nothing-moves z = peak-least load n (peak after n) (λ k a b. elim (moved k) [ falls e f ↦ omega (arith, f, peak-above after n k a b) | rises e f ↦ omega (arith, f, peak-above after n k a b) ])

  rises-above : OnRing n r.sent.demand → peak load n ≤ off_top n load r + d → peak load n ≤ peak after n
  unfolding off_top
  rises-above on more = go (on_path r top.link) refl
    where
      top : Attains off_load n
      top = peak-attained off_load n (omega (arith, on.low, on.order, on.high))

      free : OffLink n r
      free = off-link n r on

      raised : (k : ℕ) → 1 ≤ k → k ≤ n → on_path r k ≡ false → load k + d ≤ peak after n
      raised k a b e = elim (moved k) [ falls f g ↦ absurd (true≢false (sym f ∙ e)) | rises f g ↦ omega (arith, g, peak-above after n k a b) ]

      go : (b : Bool) → on_path r top.link ≡ b → peak load n ≤ peak after n
      go false e = let is : load top.link ≡ peak off_load n = rw e at top.is in omega (arith, raised top.link top.low top.high e)
      go true e =
          let is : 0 ≡ peak off_load n = rw e at top.is in
          omega (arith, raised free.link free.low free.high free.off)

  pub lowers-by : OnRing n r.sent.demand → (q : PlacedRow) → q.place ≡ p → lowers n rs q ≡ lowers_by (off_top n load r) d (peak_of n rs)
  unfolding lowers peak_of
  lowers-by on q e = rw e (go (dec_lt 0 d) (dec_lt (off_top n load r + d) (peak load n)))
    where
      go : Dec (0 < d) → Dec (off_top n load r + d < peak load n) → ltb (peak after n) (peak load n) ≡ lowers_by (off_top n load r) d (peak load n)
      go (yes a) (yes b) = rw (lt-ltb 0 d a, lt-ltb (off_top n load r + d) (peak load n) b) (lt-ltb (peak after n) (peak load n) (falls_below a b))
      go (yes a) (no b) = rw (lt-ltb 0 d a, le-ltb (off_top n load r + d) (peak load n) (omega arith)) (le-ltb (peak after n) (peak load n) (rises-above on (omega arith)))
      go (no a) b = rw (le-ltb 0 d (omega arith)) (le-ltb (peak after n) (peak load n) (nothing-moves (omega arith)))
