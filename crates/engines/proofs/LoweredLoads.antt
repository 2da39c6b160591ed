-- With lowered rooms each link carries its room, for rows in any order: so no split routing is
-- below these loads, two split rows that are parallel have the same two nodes, and since one of
-- these at most is split, rule C changes nothing.
use Prim.Native.Nat.{ℕ, ◌+◌, ◌*◌, ◌≤◌}
use mathlib.Core.Bool.{Bool, true, false}
use mathlib.Core.List.{List}
use mathlib.Core.Path.{◌≡◌, refl}
use native.Mathlib.Omega.{arith}
use Rattle.ring.specs.Lists.{Each, Pairs}
use Rattle.ring.specs.declared.types.Demand.{Demand}
use Rattle.ring.specs.declared.types.Sent.{Sent}
use Rattle.ring.specs.Demand.{OnRing}
use Rattle.ring.specs.Cut.{across}
use Rattle.ring.specs.Routing.{split_load}
use Rattle.ring.specs.Crossing.{parallel}
use Rattle.ring.specs.Rules.{Sends, Quiet, NotBoth}
use Rattle.ring.proofs.Lists.{pairs-both}
use Rattle.ring.proofs.Cuts.{links-carry}
use Rattle.ring.proofs.Still.{still}
use Rattle.engines.specs.Engine.{Lowered, sent_by, split_routing_by}
use Rattle.engines.specs.Lowering.{lowered_rooms}
use Rattle.engines.specs.Minimal.{Minimal}
use Rattle.engines.proofs.Lowered.{tight}
use Rattle.engines.proofs.TightCuts.{AllFace, minimal, OnlySame, only_same}
use Rattle.engines.proofs.Engines.{sends-by, one-split}

module _ (n : ℕ) (rs : List Demand) (two : 2 ≤ n) (nodes : Each (OnRing n) rs) where
  abbrev low : List Sent
  low = sent_by Lowered n rs

  sent : Sends n (lowered_rooms n rs) rs low
  sent = sends-by Lowered n rs two nodes

  -- the two links of a tight pair carry all that they have room for
  pub loads-are : (k : ℕ) → 1 ≤ k → k ≤ n → split_load low k ≡ lowered_rooms n rs k
  loads-are k a b =
      let t = tight n rs two k a b in
      let carry : 2 * across rs k t.h ≤ split_load low k + split_load low t.h = rw sent.divides.same at (links-carry 2 low sent.divides.sums k t.h) in
      omega (arith, carry, t.is, sent.fits k a b, sent.fits t.h t.low t.high)

  all-face : AllFace n rs low
  all-face k a b =
      let t = tight n rs two k a b in
      record { h = t.h; low = t.low; high = t.high; is = omega (arith, t.is, loads-are k a b, loads-are t.h t.low t.high) }

  -- no split routing is at most as large on every link and smaller on one
  pub sent-minimal : Minimal n rs low
  sent-minimal = minimal n rs low all-face

  -- two rows that are split and parallel have the same two nodes
  pub only-same : Pairs OnlySame low
  only-same = only_same n rs low nodes sent.divides all-face

  quiet : (a b : Sent) → OnlySame a b → NotBoth a b → Quiet a b
  quiet a b same not-both p q = go (parallel a.demand b.demand) refl
    where
      go : (t : Bool) → parallel a.demand b.demand ≡ t → parallel a.demand b.demand ≡ false
      go true e = absurd (not-both (same p q e) p q)
      go false e = e

  -- of the rows of the same two nodes one at most is split, so rule C changes nothing
  pub rule-C-keeps : split_routing_by Lowered n rs ≡ low
  rule-C-keeps = still low (pairs-both quiet only-same (one-split Lowered n rs two nodes))

  -- and what goes whole by rule D or the best choice has the lowered rooms for its loads
  pub split-loads-are : (k : ℕ) → 1 ≤ k → k ≤ n → split_load (split_routing_by Lowered n rs) k ≡ lowered_rooms n rs k
  split-loads-are k a b = rw rule-C-keeps (loads-are k a b)

  pub split-minimal : Minimal n rs (split_routing_by Lowered n rs)
  split-minimal = rw rule-C-keeps sent-minimal
