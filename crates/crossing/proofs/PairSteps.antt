-- The two scans for the first pair: where they stand nothing is found, and the answer over the rows that are left is the answer over all; a turn
-- takes one row off them.
use Prim.Native.Nat.{ℕ, ◌+◌, ◌≤◌}
use mathlib.Core.Bool.{Bool, true, false}
use mathlib.Core.List.{List, ◌∷◌}
use mathlib.Core.Path.{◌≡◌, refl, sym, ◌∙◌, ap}
use lib.ListN.{length, drop}
use Rattle.std.proofs.Common.{Some, slice_get}
use Rattle.std.proofs.lemmas.List.{drop_more, drop_all}
use Rattle.std.proofs.lemmas.Option.{get_or_from_slice_get, slice_get_within}
use Rattle.ring.specs.declared.types.Routed.{Routed}
use Rattle.ring.specs.declared.types.Sent.{Sent}
use Rattle.ring.specs.RuleC.{clash}
use Rattle.ring.specs.Sheet.{sents}
use Rattle.crossing.specs.FindPair.{pair_with, or_next, pair_from, first_pair}
use Rattle.crossing.specs.declared.pair.Pair.{Pair}
use Rattle.crossing.specs.declared.pair.Pair.TheVariants.{Are, None}

module _ (rs : List Routed) where
  rest-is : (k : ℕ) (r : Routed) → slice_get rs k ≡ Some r → drop k rs ≡ r ∷ drop (k + 1) rs
  rest-is k r here = drop_more rs k r (slice_get_within rs k r here) ∙ ap (λ (x : Routed). x ∷ drop (k + 1) rs) (get_or_from_slice_get rs k r r here)

  -- ---- the row at place k, from 0, has the place k + 1 in the answer

  -- what is left before first row a
  abbrev left_firsts : ℕ → Pair
  left_firsts a = pair_from (a + 1) (sents (drop a rs))

  -- what is left before second row b of first row a, which is `one`
  abbrev left_seconds : Sent → ℕ → ℕ → Pair
  left_seconds one a b = or_next (pair_with one (a + 1) (b + 1) (sents (drop b rs))) (left_firsts (a + 1))

  -- before first row a
  pub record Firsts (found : Pair) (a : ℕ) : Type 0 where
    pub none : found ≡ None
    pub left : first_pair (sents rs) ≡ left_firsts a

  -- before second row b of first row a
  pub record Seconds (one : Sent) (found : Pair) (a b : ℕ) : Type 0 where
    pub none : found ≡ None
    pub left : first_pair (sents rs) ≡ left_seconds one a b

  pub firsts-start : Firsts None 0
  unfolding first_pair
  firsts-start = record { none = refl; left = refl }

  pub seconds-start : (found : Pair) (a : ℕ) (r : Routed) → slice_get rs a ≡ Some r → Firsts found a → Seconds r.sent found a (a + 1)
  unfolding pair_from
  seconds-start found a r here o = record { none = o.none; left = o.left ∙ rw (rest-is a r here) }

  -- a turn, by what the two rows' test says
  module _ (one : Sent) (found : Pair) (a b : ℕ) (r : Routed) (here : slice_get rs b ≡ Some r) (o : Seconds one found a b) (c : Bool) (e : c ≡ clash one r.sent) where
    pub seconds-turn : c ≡ false → Seconds one found a (b + 1)
    unfolding pair_with
    seconds-turn t = record { none = o.none; left = o.left ∙ rw (rest-is b r here, sym e ∙ t) }

    pub pair_found : c ≡ true → Are (a + 1) (b + 1) ≡ first_pair (sents rs)
    unfolding pair_with or_next
    pair_found t = sym (o.left ∙ rw (rest-is b r here, sym e ∙ t))

  pub seconds-done : (one : Sent) (found : Pair) (a b : ℕ) → length rs ≤ b → Seconds one found a b → Firsts found (a + 1)
  unfolding pair_with or_next
  seconds-done one found a b l o = record { none = o.none; left = o.left ∙ rw (drop_all b rs l) }

  pub none_found : (found : Pair) (a : ℕ) → length rs ≤ a → Firsts found a → found ≡ first_pair (sents rs)
  unfolding pair_from
  none_found found a l o = o.none ∙ sym (o.left ∙ rw (drop_all a rs l))
