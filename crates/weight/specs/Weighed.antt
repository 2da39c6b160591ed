-- Internal: what rows as they are routed weigh: links 1 to n with their loads, and their peaks.
use Rattle.std.specs.Prelude.{ℕ, ◌-◌, List, ◌++◌, map, replicate, get_or}
use Rattle.ring.specs.Routing.{split_load, unsplit_load, peak}
use Rattle.ring.specs.declared.types.Routed.{Routed}
use Rattle.ring.specs.declared.types.Link.{Link}
use Rattle.ring.specs.Sheet.{sents, numbers_from, true_link}
use Rattle.weight.specs.declared.Weight.{Weight}
use Rattle.ring.specs.Limits.{desk}

-- a place behind the last link
abbrev pub no_link : Link
no_link = record { link = 0; split = 0; unsplit = 0 }

-- links 1 to n with their loads, and zeros behind the last
abbrev pub links_in : ℕ → List Routed → List Link
links_in n rs = map (true_link rs) (numbers_from 1 n) ++ replicate {A = Link} (desk.nodes - n) no_link

-- what rows on a ring of n nodes weigh
unfoldable pub weight_in : ℕ → List Routed → Weight
weight_in n rs =
    record {
      links = links_in n rs;
      split_peak = peak (split_load (sents rs)) n;
      unsplit_peak = peak (unsplit_load rs) n;
    }

-- link k of a weight
abbrev pub weighed_link : Weight → ℕ → Link
weighed_link w k = get_or w.links (k - 1) no_link
