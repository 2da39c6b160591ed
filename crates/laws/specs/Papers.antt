-- To believe: across numbers and loads are those of Schrijver, Seymour and Winkler's paper on ring loading, as `Paper` (ring) has them: each the contract of a
-- function that does nothing.
use Rattle.std.specs.Prelude.{ℕ, ◌*◌, ◌≤◌, List, ◌≡◌}
use Rattle.ring.specs.Lists.{Each}
use Rattle.ring.specs.declared.types.Demand.{Demand}
use Rattle.ring.specs.Cut.{across}
use Rattle.ring.specs.Routing.{split_load, unsplit_load}
use Rattle.ring.specs.declared.types.Sent.{Sent}
use Rattle.ring.specs.declared.types.Routed.{Routed}
use Rattle.ring.specs.True.{SumsTo2d}
use Rattle.ring.specs.Paper.{paper_d, paper_l, Fraction, paper_star, Routes, Fractions}

-- the across number is D(g,h)
abbrev pub AcrossIsD : Type 0
AcrossIsD = (rs : List Demand) (g h : ℕ) → g ≤ h → across rs g h ≡ paper_d rs g h

-- the unsplit load of a link is L(k)
abbrev pub UnsplitIsL : Type 0
UnsplitIsL = (rs : List Routed) (k : ℕ) → unsplit_load rs k ≡ paper_l rs k

-- the split load of a link, in halves, is twice L*(k): of whichever of the paper's routings is this one, and times its denominator q
abbrev pub SplitIsStar : Type 0
SplitIsStar = (q : ℕ) (xs : List Fraction) (ss : List Sent) → Routes q xs ss → Each SumsTo2d ss → (k : ℕ) → q * split_load ss k ≡ 2 * paper_star q xs k

-- and every routing in halves is one of the paper's
abbrev pub AllAreThePapers : Type 0
AllAreThePapers = (ss : List Sent) → Each SumsTo2d ss → Fractions ss
