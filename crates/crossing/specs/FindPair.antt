-- Internal: the scans for the first pair of split rows that are parallel, by first and then by second.
use Rattle.std.specs.Prelude.{ℕ, ◌+◌, cond, List, [], ◌∷◌}
use Rattle.ring.specs.declared.types.Sent.{Sent}
use Rattle.ring.specs.RuleC.{clash}
use Rattle.crossing.specs.declared.pair.Pair.{Pair}
use Rattle.crossing.specs.declared.pair.Pair.TheVariants.{Are, None}

-- the row s at place p with the first of the rows from place q on that is parallel to it, both being split
unfoldable pub pair_with : Sent → ℕ → ℕ → List Sent → Pair
unfolding clash
pair_with s p q [] = None
pair_with s p q (t ∷ ts) = cond (clash s t) (Are p q) (pair_with s p (q + 1) ts)

-- a pair, or where there is none the next answer
unfoldable pub or_next : Pair → Pair → Pair
or_next (Are p q) next = Are p q
or_next None next = next

-- the first pair of the rows from place p on
unfoldable pub pair_from : ℕ → List Sent → Pair
unfolding pair_with or_next
pair_from p [] = None
pair_from p (s ∷ ss) = or_next (pair_with s p (p + 1) ss) (pair_from (p + 1) ss)

-- places are counted from 1
unfoldable pub first_pair : List Sent → Pair
unfolding pair_from
first_pair ss = pair_from 1 ss
