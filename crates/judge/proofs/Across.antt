-- The across number of rows as the sum of what each adds, and that it fits.
use Rattle.std.proofs.Common.{ℕ, ◌+◌, ◌*◌, ◌^◌, ◌<◌, ◌≤◌, List, [], ◌∷◌, ◌≡◌, refl, ap, sym, ◌∙◌, length, sum_by, arith}
use Rattle.std.proofs.lemmas.List.Sums.{sum_by-cons}
use native.Mathlib.Nat.{mul-suc}
use Rattle.ring.specs.declared.types.Routed.{Routed}
use Rattle.ring.specs.Cut.{part, across}
use Rattle.ring.specs.Lists.{Each, none, more}
use Rattle.ring.specs.Sheet.{sents, demands}
use Rattle.ring.proofs.Totals.{part_small}
use Rattle.ring.specs.Limits.{desk}
use Rattle.weight.specs.Rows.{RowFits, Fit}

pub across_sum : (g h : ℕ) (rs : List Routed) → across (demands (sents rs)) g h ≡ sum_by (λ r. part r.sent.demand g h) rs
unfolding across
across_sum g h [] = refl
across_sum g h (r ∷ rs) = ap (λ n. part r.sent.demand g h + n) (across_sum g h rs) ∙ sym (sum_by-cons (λ (r : Routed). part r.sent.demand g h) r rs)

pub across_fits : (n : ℕ) (rs : List Routed) → Fit n rs → (g h : ℕ) → sum_by (λ r. part r.sent.demand g h) rs < 2 ^ 32
across_fits n rs fit g h = omega (arith, go rs fit.each, fit.few)
  where
    go : (l : List Routed) → Each (RowFits n) l → sum_by (λ r. part r.sent.demand g h) l ≤ desk.amount * length l
    go [] none = omega arith
    go (r ∷ l) (more p e) = omega (arith, sum_by-cons (λ (r : Routed). part r.sent.demand g h) r l, part_small r.sent.demand g h, p.amount, mul-suc desk.amount (length l), go l e)
