-- To believe: what is found against a ring, and against the demand of a row: findings in their order, as `Findings` has them.
use Rattle.std.specs.Prelude.{ℕ, ◌<◌, ◌≤◌, Option, Some, None, ◌⊎◌}
use Rattle.ring.specs.Limits.{Limits}
use Rattle.ring.specs.TableRows.{PairBefore}
use Rattle.ring.specs.LineSize.{IsFibres}
use Rattle.ring.specs.declared.types.Ring.{Ring}
use Rattle.ring.specs.declared.types.Demand.{Demand}
use Rattle.reasons.specs.declared.reason.Reason.TheVariants.{RingSize, Fibres, NoSuchNode, NotBelow, OutOfOrder, TooMany, TooMuch}
use Rattle.reasons.specs.Findings.{Findings, nothing, finding}

-- 3 and 20, of a ring: n outside 2..64; fibres neither 2 nor 4
abbrev pub ring_findings : Limits → Ring → Findings
ring_findings limits ring =
    finding ((ring.nodes < limits.fewest) ⊎ (limits.nodes < ring.nodes)) RingSize 0
    (finding (IsFibres ring.fibres → ⊥) Fibres 0
    nothing)

-- a node outside 1..n
abbrev pub NoNode : ℕ → ℕ → Type 0
NoNode n i = (i < 1) ⊎ (n < i)

-- the nodes of a row are below those of the row above it, where there is one
abbrev pub Falls : Option Demand → Demand → Type 0
Falls None r = ⊥
Falls (Some q) r = PairBefore r.first r.second q.first q.second

-- 4, 5, 6, 16 and 7, of the demand of a row at a place, counted from 1
abbrev pub demand_findings : Limits → ℕ → ℕ → Option Demand → Demand → Findings
demand_findings limits n place above r =
    finding (NoNode n r.first ⊎ NoNode n r.second) NoSuchNode place
    (finding (r.second ≤ r.first) NotBelow place
    (finding (Falls above r) OutOfOrder place
    (finding (limits.rows < place) TooMany place
    (finding (limits.amount < r.amount) TooMuch place
    nothing))))
