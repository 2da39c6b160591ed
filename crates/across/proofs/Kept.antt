-- What a row leaves on a triangle, pair by pair: each number is its own step.
use Rattle.std.proofs.Common.{◌≡◌, ℕ, ◌≤◌, List, length, ◌∙◌, arith, le-leb}
use Rattle.ring.specs.declared.types.Demand.{Demand}
use Rattle.ring.specs.Cut.{part}
use Rattle.ring.specs.Limits.{desk}
use Rattle.across.specs.Triangle.{at}
use Rattle.across.specs.Step.{stepped, step_row}
use Rattle.across.specs.Lines.{most_pairs, Pairwise}
use Rattle.across.proofs.Places.{triangle-at, triangle-length, all-pairs}

pub row-size : (change : ℕ → ℕ → ℕ) (n : ℕ) (r : Demand) (t : List ℕ) → length (step_row change n r t) ≡ most_pairs
unfolding step_row
row-size change n r t = triangle-length (stepped change n r t) desk.nodes ∙ all-pairs

pub row-at : (change : ℕ → ℕ → ℕ) (n : ℕ) (r : Demand) (t : List ℕ) → n ≤ desk.nodes → Pairwise n (λ g h. at (step_row change n r t) g h ≡ change (at t g h) (part r g h))
unfolding step_row
row-at change n r t few g h a b c = triangle-at (stepped change n r t) desk.nodes g h a b (omega arith) ∙ (rw (le-leb h n c))
