-- `fill`: the rows that are left make up what the triangle lacks; then lines are summed up, from the last to the second.
use Rattle.std.proofs.Common.{◌≡◌, ◌-◌, drop}
use Rattle.ring.specs.Sheet.{demands_of}
use Rattle.across.proofs.FillSteps.{Filling, Summing, total, ending}
use Rattle.across.proofs.filling.fill.Given as goal

abbrev pub invariant-loop-row : goal.invariant-loop-row
invariant-loop-row g l = Filling l.n (g.R.Rows.rows l.rows) (drop l.row-iterator.seen (g.R.Rows.rows l.row-iterator.rows.now)) l.triangle

abbrev pub invariant-loop-j : goal.invariant-loop-j
invariant-loop-j g l = Summing l.n (g.R.Rows.rows l.rows) l.j l.j l.triangle

abbrev pub invariant-loop-i : goal.invariant-loop-i
invariant-loop-i g l = record { so_far : Summing l.n (g.R.Rows.rows l.rows) l.j l.i l.triangle; sum : l.sum ≡ total (ending (l.i - 1) l.j) (demands_of (g.R.Rows.rows l.rows)) }
