-- `judge_links`: what is given of the links that are left is given of all.
use Rattle.weight.specs.Weighed.{weighed_link}
use Rattle.judge.proofs.Links.{LinksLeft}
use Rattle.judge.proofs.link.judge_links.Given as goal

abbrev pub invariant-loop-k : goal.invariant-loop-k
invariant-loop-k l = LinksLeft (weighed_link l.weight) l.links l.k
