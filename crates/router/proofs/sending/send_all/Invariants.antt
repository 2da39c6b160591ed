-- `send_all` is rule B: what is sent so far, and what the rule sends from the rooms and rows that are left, is what it sends of all.
use Rattle.router.specs.Lowering.{room_on}
use Rattle.router.proofs.SendSteps.{Sending}
use Rattle.router.proofs.sending.send_all.Given as goal

abbrev pub invariant-loop-k : goal.invariant-loop-k
invariant-loop-k g l = Sending l.n (g.R.Rows.rows l.initial.rows) (g.R.Rows.rows l.rows) (room_on l.initial.spare) l.spare l.k
