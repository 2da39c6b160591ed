-- To believe: what fronts, cuts, loads and peaks are, what the four rules give for the rows of every table, and which line size is taken: each the contract of a
-- function that does nothing.
use Rattle.std.specs.Prelude.{ℕ, ◌+◌, ◌*◌, ◌≤◌, true, not, List, ◌⊎◌, ◌↔◌, ◌≡◌}
use Rattle.family.specs.declared.family.Family.{Family}
use Rattle.family.specs.Size.{smallest_in, rises, Answers}
use Rattle.family.specs.Sizes.{sizes_of}
use Rattle.ring.specs.Lists.{Pairs}
use Rattle.ring.specs.Demand.{OnRing, in_front, Leads}
use Rattle.ring.specs.declared.types.Demand.{Demand}
use Rattle.ring.specs.Cut.{IsCut, across}
use Rattle.ring.specs.declared.types.Cut.{Cut}
use Rattle.ring.specs.Routing.{is_split, Split, split_load, unsplit_load, peak, Attains}
use Rattle.ring.specs.declared.types.Sent.{Sent}
use Rattle.ring.specs.declared.types.Routed.{Routed}
use Rattle.ring.specs.Crossing.{parallel, disjoint, encloses, Disjoint, Encloses}
use Rattle.ring.specs.Division.{Divides}
use Rattle.ring.specs.LineSize.{line_size, SizeRule}
use Rattle.ring.specs.RuleA.{rule_a, largest_across}
use Rattle.ring.specs.RuleB.{rule_b}
use Rattle.ring.specs.RuleC.{both, to_front, to_back, inward, move, rule_c}
use Rattle.ring.specs.RuleD.{largest_split}
use Rattle.engines.specs.Laws.{OfRows, OfTables}
use Rattle.engines.specs.declared.Engine.{Engine}
use Rattle.engines.specs.Engine.{sent_by, split_routing_by, unsplit_routing_by}
use Rattle.best.specs.Best.{splits, Choice, IsBest}
use Rattle.ring.specs.Rules.{Best, Sends, SameNodes, NotBoth, Moved, Moves, OncePerPair, Untangled, Staggered, Largest, Directed}

-- it holds of every two rows on a ring
abbrev pub OfTwoRows : (Demand → Demand → Type 0) → Type 0
OfTwoRows Holding = (n : ℕ) (a b : Demand) → OnRing n a → OnRing n b → Holding a b

-- ---- fronts

-- over its front a row's first node leads to its second
abbrev pub FrontLeads : Type 0
FrontLeads = (n : ℕ) (r : Demand) → OnRing n r → Leads n (in_front r) r.first r.second

-- over its back its second node leads on round to its first: up to node n, by link n to node 1, and on from there
abbrev pub BackLeads : Type 0
BackLeads = (n : ℕ) (r : Demand) → OnRing n r → Leads n (λ k. not (in_front r k)) r.second r.first

-- the test of disjoint fronts says that no link is in both
abbrev pub DisjointIs : Type 0
DisjointIs = OfTwoRows (λ a b. (disjoint a b ≡ true) ↔ Disjoint a b)

-- the test of one front inside the other says that each link of the inner is in the outer
abbrev pub EnclosesIs : Type 0
EnclosesIs = OfTwoRows (λ a b. (encloses a b ≡ true) ↔ Encloses a b)

-- two rows are parallel exactly where their fronts are disjoint or one lies inside the other
abbrev pub ParallelIs : Type 0
ParallelIs = OfTwoRows (λ a b. (parallel a b ≡ true) ↔ (Disjoint a b ⊎ (Encloses a b ⊎ Encloses b a)))

-- whichever is named first
abbrev pub ParallelEither : Type 0
ParallelEither = OfTwoRows (λ a b. parallel a b ≡ parallel b a)

-- rows of the same two nodes are parallel
abbrev pub SameAreParallel : Type 0
SameAreParallel = (a b : Demand) → SameNodes a b → parallel a b ≡ true

-- ---- loads, peaks and cuts

-- the test of a split row says that both its amounts are above 0
abbrev pub SplitIs : Type 0
SplitIs = (s : Sent) → (is_split s ≡ true) ↔ Split s

-- no link's load is above the peak
abbrev pub PeakIsAbove : Type 0
PeakIsAbove = (load : ℕ → ℕ) (n k : ℕ) → 1 ≤ k → k ≤ n → load k ≤ peak load n

-- and the load of one is the peak
abbrev pub PeakIsLoad : Type 0
PeakIsLoad = (load : ℕ → ℕ) (n : ℕ) → 1 ≤ n → Attains load n

-- of two links the across number is the same in either order
abbrev pub EitherOrder : Type 0
EitherOrder = (rs : List Demand) (g h : ℕ) → across rs g h ≡ across rs h g

-- of a link and itself it is 0
abbrev pub OneLink : Type 0
OneLink = (rs : List Demand) (g : ℕ) → across rs g g ≡ 0

-- in parts of 1/q unit, twice the peak of every division of the demands is at least q times the across number of every cut
abbrev pub CutBounds : Type 0
CutBounds = (q n : ℕ) (rs : List Demand) (ss : List Sent) → Divides q rs ss → (c : Cut) → IsCut n c → q * across rs c.g c.h ≤ 2 * peak (split_load ss) n

-- ---- A, the cut

-- the cut is the first of those with the largest across number
abbrev pub CutIsBest : Type 0
CutIsBest = OfTables (λ n rs. Best (across rs) (IsCut n) (rule_a n rs))

-- no other cut is so
abbrev pub CutIsOne : Type 0
CutIsOne = OfTables (λ n rs. (c : Cut) → Best (across rs) (IsCut n) c → c ≡ rule_a n rs)

-- ---- B, sending

-- the rows are sent from rooms M: the s of each is even, no slack is cut off at 0, and no link gets more than its room
abbrev pub RowsAreSent : Type 0
RowsAreSent = OfTables (λ n rs. Sends n (λ k. largest_across n rs) rs (rule_b n rs))

-- no other sending is so
abbrev pub SendingIsOne : Type 0
SendingIsOne = OfTables (λ n rs. (ss : List Sent) → Sends n (λ k. largest_across n rs) rs ss → ss ≡ rule_b n rs)

-- the split peak is M
abbrev pub SentPeakIsM : Type 0
SentPeakIsM = OfTables (λ n rs. peak (split_load (rule_b n rs)) n ≡ largest_across n rs)

-- of the rows of the same two nodes one at most is split, in any order and whatever stands between
abbrev pub OneIsSplit : Type 0
OneIsSplit = OfRows (λ n rs. Pairs NotBoth (rule_b n rs))

-- ---- C, parallel pairs

-- what a move is, by how the two rows stand to each other
abbrev pub MoveIs : Type 0
MoveIs = (n : ℕ) (a b : Sent) → OnRing n a.demand → OnRing n b.demand → Moved a b (move a b)

-- and what it does: no load rises, both rows keep their demands and sums and neither becomes split,
-- and the two are not split and parallel afterwards
abbrev pub MoveKeeps : Type 0
MoveKeeps = (n : ℕ) (a b : Sent) → OnRing n a.demand → OnRing n b.demand → Moves a b (move a b)

-- of two split rows of the same nodes the earlier is the outer
abbrev pub EarlierIsOuter : Type 0
EarlierIsOuter =
    (n : ℕ) (a b : Sent) → OnRing n a.demand → SameNodes a.demand b.demand → Split a → Split b → move a b ≡ both (to_back a (inward a b)) (to_front b (inward a b))

-- one move is made at each pair of rows, the first before the second, by first and then by second
abbrev pub MovesOncePerPair : Type 0
MovesOncePerPair = (ss : List Sent) → OncePerPair ss (rule_c ss)

-- no other rows come of that
abbrev pub MovedIsOne : Type 0
MovedIsOne = (ss new : List Sent) → OncePerPair ss new → new ≡ rule_c ss

-- no load rises, demands and sums stay, and no two split rows are parallel afterwards
abbrev pub RowsAreUntangled : Type 0
RowsAreUntangled = (engine : Engine) → OfTables (λ n rs. Untangled (sent_by engine n rs) (split_routing_by engine n rs))

-- so the rows still divide the table's demands in halves
abbrev pub UntangledDivides : Type 0
UntangledDivides = (engine : Engine) → OfTables (λ n rs. Divides 2 rs (split_routing_by engine n rs))

-- and the split peak stays M
abbrev pub UntangledPeakIsM : Type 0
UntangledPeakIsM = (engine : Engine) → OfTables (λ n rs. peak (split_load (split_routing_by engine n rs)) n ≡ largest_across n rs)

-- ---- D, unsplit directions

-- split rows are taken by rising first node: of two the later begins later, inside the front of the earlier, and ends later
abbrev pub SplitRowsRise : Type 0
SplitRowsRise = (engine : Engine) → OfTables (λ n rs. Pairs Staggered (split_routing_by engine n rs))

-- D is the largest amount of a split row, 0 if none is split
abbrev pub LargestSplitIs : Type 0
LargestSplitIs = (ss : List Sent) → Largest ss (largest_split ss)

-- the rows go from S = 0 as the rule says, those that are not split are kept, and each link keeps to the bound
abbrev pub RowsAreDirected : Type 0
RowsAreDirected = (engine : Engine) → OfTables (λ n rs. Directed (split_routing_by engine n rs) (unsplit_routing_by engine n rs))

-- no other directions are so
abbrev pub DirectionsAreOne : Type 0
DirectionsAreOne =
    (engine : Engine) → OfTables (λ n rs. (routed : List Routed) → Directed (split_routing_by engine n rs) routed → routed ≡ unsplit_routing_by engine n rs)

-- in halves, the unsplit peak is at most M plus 3D
abbrev pub DirectedPeak : Type 0
DirectedPeak =
    (engine : Engine) → OfTables (λ n rs.
    2 * peak (unsplit_load (unsplit_routing_by engine n rs)) n ≤ largest_across n rs + 3 * largest_split (split_routing_by engine n rs))

-- ---- the best choice

-- of every split routing there is a best choice
pub record SomeBest (n : ℕ) (ss : List Sent) : Type 0 where
  pub ways : List Routed
  pub best : IsBest n ss ways

abbrev pub BestIsThere : Type 0
BestIsThere = (n : ℕ) (ss : List Sent) → SomeBest n ss

-- and one only
abbrev pub BestIsOne : Type 0
BestIsOne = (n : ℕ) (ss : List Sent) (a b : List Routed) → IsBest n ss a → IsBest n ss b → a ≡ b

-- rule D's answer is a choice
abbrev pub RuleDChooses : Type 0
RuleDChooses = (engine : Engine) → OfTables (λ n rs. Choice (split_routing_by engine n rs) (unsplit_routing_by engine n rs))

-- at most half as many rows are split as the ring has links
abbrev pub FewAreSplit : Type 0
FewAreSplit = (engine : Engine) → OfTables (λ n rs. 2 * splits (split_routing_by engine n rs) ≤ n)

-- ---- line sizes

-- of any rising list: with four fibres the smallest size that is at least the peak, with two the smallest that is at least twice it, 0 if none is
abbrev pub SizeOfRising : Type 0
SizeOfRising = (sizes : List ℕ) → rises sizes ≡ true → SizeRule sizes (line_size sizes)

-- so of each family
abbrev pub SizeOfFamily : Type 0
SizeOfFamily = (family : Family) → SizeRule (sizes_of family) (line_size (sizes_of family))

-- whose own answer to a peak is its smallest size that is at least the peak, 0 if none is, and no other number is that
abbrev pub FamilyAnswers : Type 0
FamilyAnswers = (family : Family) (peak size : ℕ) → (size ≡ smallest_in (sizes_of family) peak) ↔ Answers (sizes_of family) peak size
