-- Loads with their figures: what is made of the ring's links alone is the figures of all loads that are seen.
use Rattle.std.proofs.Common.{◌≡◌, ℕ, ◌≤◌, List, length, get_or, sym, ap, ◌∙◌, arith}
use Rattle.std.proofs.lemmas.List.{length-take}
use Rattle.ring.specs.Limits.{desk}
use Rattle.weight.specs.LinkSteps.{link_at}
use Rattle.turns.specs.declared.loads.Loads.TheInside.{Inside}
use Rattle.turns.specs.Choosing.{sum_to, Keys}
use Rattle.turns.specs.Loads.{loads_in, Figured}

-- as many are seen as there are links
links-seen : (s : Inside) → s.links ≤ desk.nodes → length s.loads ≡ desk.nodes → length (loads_in s) ≡ s.links
links-seen s few size = omega (arith, length-take s.links s.loads)

-- of no links
pub no_links : (s : Inside) → s.links ≡ 0 → length s.loads ≡ desk.nodes → get_or s.keys 0 0 ≡ 0 → Figured s
unfolding sum_to
no_links s l size z = record { few = omega (arith, l); size = size; keys = record { is = λ k h. let e : k ≡ 0 = omega (arith, l) in rw e z } }

module _ (s : Inside) (now : List ℕ) (is : loads_in s ≡ now) (all : Figured s) where
  pub links_are : s.links ≡ length now
  links_are = sym (links-seen s all.few all.size) ∙ ap length is

  pub keys_are : Keys (length now) (link_at now) s.keys
  keys_are = rw (← is, links-seen s all.few all.size) all.keys
