-- To believe: what a struct keeps that was made by calls.
use Rattle.std.specs.Prelude.{ℕ, ◌≤◌, ◌<◌, List, ◌≡◌, length}
use Rattle.ring.specs.declared.types.Demand.{Demand}
use Rattle.ring.specs.Limits.{desk}
use Rattle.ring.specs.Cut.{across}
use Rattle.ring.specs.RuleA.{rule_a}
use Rattle.across.specs.Triangle.{at}
use Rattle.work.specs.Places.{rows_held, table_held}
use Rattle.work.specs.declared.Work.{Work}

-- the rows that a struct holds, by place
abbrev pub held : Work → List Demand
held w = rows_held (table_held w).places

-- there are 1,024 places, and each column has them; the across number of every cut is that of the rows held, and the largest and its cut are rule A's
pub record TrueTable (w : Work) : Type 0 where
  pub places : length (table_held w).places ≡ desk.rows
  pub firsts : length w.first ≡ desk.rows
  pub seconds : length w.second ≡ desk.rows
  pub amounts : length w.amount ≡ desk.rows
  pub numbers : (g h : ℕ) → 1 ≤ g → g < h → h ≤ w.ring.nodes → at w.triangle g h ≡ across (held w) g h
  pub largest : w.cut ≡ rule_a w.ring.nodes (held w)
