-- What is asked of a table's rows holds of each, and keeps their loads small.
use Rattle.std.proofs.Common.{◌≡◌, ℕ, ◌≤◌, List, Some, slice_get, length, arith}
use Rattle.std.proofs.lemmas.List.{length-map}
use Rattle.std.proofs.lemmas.Option.{get_or_from_slice_get, slice_get_within}
use Rattle.ring.specs.declared.types.Sent.{Sent}
use Rattle.ring.specs.declared.types.Routed.{Routed}
use Rattle.ring.specs.Lists.{Each}
use Rattle.ring.specs.Routing.{unsplit_load}
use Rattle.ring.specs.Sheet.{sents, demands}
use Rattle.ring.proofs.Lists.{each, each-at}
use Rattle.ring.proofs.Small.{each-of-demands}
use Rattle.ring.proofs.Peaks.{peak-least}
use Rattle.ring.proofs.Totals.{total-most, unsplit-total, whole-small}
use Rattle.ring.specs.Limits.{desk}
use Rattle.weight.specs.Limits.{across_bound}
use Rattle.across.specs.Filled.{DemandFits, DemandsFit}
use Rattle.turns.specs.Turns.{peak_of}

module _ (n : ℕ) (rs : List Routed) (fit : DemandsFit n (demands (sents rs))) where
  pub each-fits : Each (λ (r : Routed). DemandFits n r.sent.demand) rs
  each-fits = each-of-demands {P = DemandFits n} rs fit.each

  pub row-fits : (k : ℕ) (r : Routed) → slice_get rs k ≡ Some r → DemandFits n r.sent.demand
  row-fits k r at = rw (get_or_from_slice_get rs k r r at) at (each-at each-fits k r (slice_get_within rs k r at))

  pub few-rows : length rs ≤ desk.rows
  few-rows = omega (arith, length-map (sents rs) (λ (s : Sent). s.demand), length-map rs (λ (r : Routed). r.sent), fit.few)

  pub load-most : (k : ℕ) → unsplit_load rs k ≤ across_bound
  load-most k = omega (arith, few-rows, total-most (unsplit-total k) desk.amount {l = rs} (each (λ r f. omega (arith, whole-small r k, f.small)) each-fits))

  pub peak-most : peak_of n rs ≤ across_bound
  unfolding peak_of
  peak-most = peak-least (unsplit_load rs) n across_bound (λ k a b. load-most k)
