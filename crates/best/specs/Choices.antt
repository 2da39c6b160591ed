-- Internal: a choice as a number, and the best of many.
use Rattle.std.specs.Prelude.{ℕ, zero, suc, ◌+◌, ◌-◌, ◌^◌, cond, List, [], ◌∷◌, ltb, length}
use Rattle.ring.specs.Demand.{in_front}
use Rattle.ring.specs.declared.types.Demand.{Demand}
use Rattle.ring.specs.declared.types.Sent.{Sent}
use Rattle.ring.specs.declared.types.Routed.{Routed}
use Rattle.ring.specs.declared.types.Way.TheVariants.{Front, Back}
use Rattle.ring.specs.Routing.{routed, is_split, whole_over, unsplit_load, peak}
use Rattle.ring.specs.RuleD.{whole_way}
use Rattle.best.specs.declared.tries.Tried.{Tried}
use Rattle.best.specs.Best.{splits}
use Rattle.best.specs.Tries.{better_of}

-- the ways of choice c, below 2^m for m split rows: a bit for each split row, the first row the highest; 0 is front, 1 is back. Rows that are not split
-- go as rule D says
unfoldable pub choose : ℕ → List Sent → List Routed
unfolding is_split whole_way splits
choose c [] = []
choose c (s ∷ ss) =
    let bit = 2 ^ splits ss in
    let go_f = routed s Front ∷ choose c ss in
    let go_b = routed s Back ∷ choose (c - bit) ss in
    let whole = routed s (whole_way s) ∷ choose c ss in
    cond (is_split s) (cond (ltb c bit) go_f go_b) whole

-- the demands of the split rows
unfoldable pub split_rows : List Sent → List Demand
unfolding is_split
split_rows [] = []
split_rows (s ∷ ss) = cond (is_split s) (s.demand ∷ split_rows ss) (split_rows ss)

-- what rows that are not split send over a link
unfoldable pub whole_load : List Sent → ℕ → ℕ
unfolding is_split whole_over whole_way
whole_load [] k = 0
whole_load (s ∷ ss) k = cond (is_split s) 0 (whole_over (routed s (whole_way s)) k) + whole_load ss k

-- and what split rows send over it by a choice
unfoldable pub choice_load : List Demand → ℕ → ℕ → ℕ
choice_load [] c k = 0
choice_load (r ∷ rs) c k =
    let bit = 2 ^ length rs in
    cond (ltb c bit) (cond (in_front r k) r.amount 0 + choice_load rs c k) (cond (in_front r k) 0 r.amount + choice_load rs (c - bit) k)

-- a choice with its peak
abbrev pub tried_of : ℕ → List Sent → ℕ → Tried
tried_of n ss c = record { peak = peak (unsplit_load (choose c ss)) n; choice = c }

-- the best so far, after the m choices c, c+1, ..
unfoldable pub best_over : (ℕ → Tried) → ℕ → ℕ → Tried → Tried
unfolding better_of
best_over f c zero best = best
best_over f c (suc m) best = best_over f (suc c) m (better_of best (f c))
