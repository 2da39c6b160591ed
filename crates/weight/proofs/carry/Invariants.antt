-- The links are numbered (`Numbering`); then they carry the rows passed, and with the rows that are left all (`Weighing`).
use Rattle.std.proofs.Common.{drop}
use Rattle.weight.proofs.Weighing.{Numbering, Weighing}
use Rattle.weight.proofs.carry.Given as goal

abbrev pub invariant-loop-k : goal.invariant-loop-k
invariant-loop-k g l = Numbering l.n l.link-items l.k

abbrev pub invariant-loop-row : goal.invariant-loop-row
invariant-loop-row g l = Weighing l.n (g.R.Rows.rows l.rows) (drop l.row-iterator.seen (g.R.Rows.rows l.row-iterator.rows.now)) l.links
