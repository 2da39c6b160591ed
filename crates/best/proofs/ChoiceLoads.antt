-- The loads of a choice are those of the rows that are not split and those of the split rows; so the recursion over the split rows finds the best of all choices.
use Rattle.std.proofs.Common.{◌≡◌, ℕ, ◌+◌, ◌-◌, ◌*◌, ◌^◌, ◌≤◌, ◌<◌, List, [], ◌∷◌, length, refl, sym, ap, ap₂, subst, ◌∙◌, arith}
use native.Mathlib.Decide.{dec_lt}
use borrow.Author.Tests.{lt-ltb, le-ltb}
use Rattle.ring.specs.declared.types.Sent.{Sent}
use Rattle.ring.specs.Routing.{whole_over, unsplit_load, peak}
use Rattle.ring.proofs.Splits.{Splitting, split, whole, splitting}
use Rattle.best.specs.declared.tries.Tried.{Tried}
use Rattle.best.specs.Best.{splits, IsBest}
use Rattle.best.specs.Tries.{tried_in}
use Rattle.best.specs.Choices.{choose, split_rows, whole_load, choice_load, tried_of, best_over}
use Rattle.ring.proofs.Peaks.{same-peak}
use Rattle.best.proofs.TriedAll.{over-same, tried-all}
use Rattle.best.proofs.BestWays.{Leads, best-leads, is-best}

pub as-many : (ss : List Sent) → length (split_rows ss) ≡ splits ss
unfolding split_rows splits
as-many [] = refl
as-many (s ∷ ss) = go (splitting s) (as-many ss)
  where
    go : Splitting s → length (split_rows ss) ≡ splits ss → length (split_rows (s ∷ ss)) ≡ splits (s ∷ ss)
    go (split p e) ih = rw e (omega (arith, ih))
    go (whole n e) ih = rw e ih

pub load-is : (c : ℕ) (ss : List Sent) (k : ℕ) → unsplit_load (choose c ss) k ≡ whole_load ss k + choice_load (split_rows ss) c k
unfolding choose split_rows whole_load choice_load unsplit_load whole_over
load-is c [] k = refl
load-is c (s ∷ ss) k = go (splitting s) (dec_lt c (2 ^ splits ss)) (λ d. load-is d ss k)
  where
    go : Splitting s → Dec (c < 2 ^ splits ss) → ((d : ℕ) → unsplit_load (choose d ss) k ≡ whole_load ss k + choice_load (split_rows ss) d k)
        → unsplit_load (choose c (s ∷ ss)) k ≡ whole_load (s ∷ ss) k + choice_load (split_rows (s ∷ ss)) c k
    go (split p e) (yes l) ih = let t = lt-ltb c (2 ^ splits ss) l in rw (e, as-many ss, t) (omega (arith, ih c))
    go (split p e) (no m) ih = let t = le-ltb c (2 ^ splits ss) (omega arith) in rw (e, as-many ss, t) (omega (arith, ih (c - 2 ^ splits ss)))
    go (whole n e) d ih = rw e (omega (arith, ih c))

module _ (n : ℕ) (ss : List Sent) (load : ℕ → ℕ) (loads : (k : ℕ) → 1 ≤ k → k ≤ n → load k ≡ unsplit_load (choose 0 ss) k) (best : Tried)
    (is : best ≡ tried_in n load (split_rows ss) 0 (tried_of n ss 0)) where
  -- a choice with its peak, by the two kinds of rows
  abbrev summed : ℕ → Tried
  summed d = record { peak = peak (λ k. whole_load ss k + choice_load (split_rows ss) d k) n; choice = 0 * 2 ^ length (split_rows ss) + d }

  figure : ℕ → ℕ → Tried
  figure p c = record { peak = p; choice = c }

  figures : (d : ℕ) → summed d ≡ tried_of n ss d
  unfolding figure
  figures d = ap₂ figure (sym (same-peak _ _ n (λ k a b. load-is d ss k))) (omega arith)

  all-tried : best ≡ best_over (tried_of n ss) 0 (2 ^ splits ss) (tried_of n ss 0)
  all-tried =
      is ∙ tried-all n (whole_load ss) load (split_rows ss) 0 (tried_of n ss 0) (λ k a b. loads k a b ∙ load-is 0 ss k)
      ∙ ap (λ m. best_over summed 0 (2 ^ m) (tried_of n ss 0)) (as-many ss)
      ∙ over-same summed (tried_of n ss) 0 0 (2 ^ splits ss) (tried_of n ss 0) (λ d l. figures (0 + d))

  leads : Leads n ss (2 ^ splits ss) best
  leads = subst (Leads n ss (2 ^ splits ss)) (sym all-tried) (best-leads n ss)

  pub best-chosen : IsBest n ss (choose best.choice ss)
  best-chosen = is-best n ss best leads
