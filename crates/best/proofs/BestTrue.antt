-- The sheet of the best choice is true, as rule D's is, whichever engine split the rows: rule D's answer is one of the choices, so that the peak of the best is no
-- higher; and on a ring of up to 33 nodes no more than 16 rows are split.
use Rattle.std.proofs.Common.{◌≡◌, ℕ, ◌*◌, ◌≤◌, List, sym, subst, arith}
use Rattle.ring.specs.declared.types.Ring.{Ring}
use Rattle.ring.specs.Lists.{Each}
use Rattle.ring.specs.Demand.{OnRing}
use Rattle.ring.specs.declared.types.Demand.{Demand}
use Rattle.ring.specs.declared.types.Sent.{Sent}
use Rattle.ring.specs.declared.types.Routed.{Routed}
use Rattle.ring.specs.Routing.{unsplit_load, peak}
use Rattle.ring.specs.Rules.{Sends}
use Rattle.ring.specs.RuleA.{rule_a}
use Rattle.ring.specs.Sheet.{sents, demands, sheet_of}
use Rattle.ring.specs.TableRows.{TableRows}
use Rattle.ring.specs.True.{TrueSheet}
use Rattle.ring.proofs.Lists.{each-of-map}
use Rattle.ring.proofs.Plans.{sheet-demands, sheet-true}
use Rattle.engines.specs.declared.Engine.{Engine}
use Rattle.engines.specs.Engine.{rooms_by, sent_by, split_routing_by, unsplit_routing_by}
use Rattle.engines.proofs.Engines.{sends-by, sent-fits, divides-by, rows-rise, directed-by, bound-by}
use Rattle.best.specs.Best.{splits, most_split, Choice, IsBest}
use Rattle.best.proofs.FewSplits.{few-splits}

module _ (engine : Engine) (n : ℕ) (rs : List Demand) (two : 2 ≤ n) (table : TableRows n rs) where
  abbrev split : List Sent
  split = split_routing_by engine n rs

  pub rule-D-chooses : Choice split (unsplit_routing_by engine n rs)
  rule-D-chooses = let d = directed-by engine n rs two table in record { same = d.same; kept = d.ways }

  pub no-higher : (ways : List Routed) → IsBest n split ways → peak (unsplit_load ways) n ≤ peak (unsplit_load (unsplit_routing_by engine n rs)) n
  no-higher ways best = best.least (unsplit_routing_by engine n rs) rule-D-chooses

  -- at most half as many as there are links
  pub few-split : 2 * splits split ≤ n
  few-split =
      few-splits n (each-of-map (λ (s : Sent). s.demand) {P = OnRing n} split (subst (Each (OnRing n)) (sym (divides-by engine n rs two table.nodes).same) table.nodes))
      (rows-rise engine n rs two table)

  pub few-enough : n ≤ 33 → splits split ≤ most_split
  few-enough l = omega (arith, few-split)

module _ (engine : Engine) (ring : Ring) (rs : List Demand) (two : 2 ≤ ring.nodes) (table : TableRows ring.nodes rs)
    (ways : List Routed) (best : IsBest ring.nodes (split_routing_by engine ring.nodes rs) ways) where
  sent : Sends ring.nodes (rooms_by engine ring.nodes rs) rs (sent_by engine ring.nodes rs)
  sent = sends-by engine ring.nodes rs two table.nodes

  pub best-true : TrueSheet (sheet_of ring (rule_a ring.nodes rs) ways)
  best-true =
      sheet-true ring rs two table.nodes (sent_by engine ring.nodes rs) sent.divides (sent-fits engine ring.nodes rs two table.nodes) ways best.choice.same
      best.choice.kept (omega (arith, bound-by engine ring.nodes rs two table, no-higher engine ring.nodes rs two table ways best))

  -- it is of the table's own demands
  pub best-demands : demands (sents ways) ≡ rs
  best-demands =
      sheet-demands ring rs two table.nodes (sent_by engine ring.nodes rs) sent.divides (sent-fits engine ring.nodes rs two table.nodes) ways best.choice.same
