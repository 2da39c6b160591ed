-- The end of a piece (`PieceSteps`).
use Rattle.report.proofs.PieceSteps.{passed-on, piece-ends, text-ends}
use Rattle.report.proofs.piece.piece_end.Goals.{else-end-text-via-then-end-text+else-text-end-eq82, else-end-text-via-else-end-text}
use Rattle.std.proofs.Common.{arith}
use Rattle.report.proofs.piece.piece_end.Goals as goal

pub returns-then-text-end-eq82-clause-piece : goal.returns-then-text-end-eq82-clause-piece
returns-then-text-end-eq82-clause-piece c =
    piece-ends c.args.text.now c.loop-k.end c.loop-k.invariant c.in-Some.k c.in-Some.ensures c.if-end-text.true c.if-text-end-eq82.true

pub loop-k-preserved : goal.loop-k-preserved
loop-k-preserved c =
    passed-on c.args.text.now c.loop-k.end c.loop-k.invariant c.in-Some.k c.in-Some.ensures (λ h r.
    elim c.else-end-text.branch [
      | else-end-text-via-then-end-text+else-text-end-eq82 w ↦ w.if-text-end-eq82.false r
      | else-end-text-via-else-end-text w ↦ omega (arith, w.if-end-text.false)
    ])

pub returns-clause-piece : goal.returns-clause-piece
returns-clause-piece c = text-ends c.args.text.now c.loop-k.end c.loop-k.invariant c.requires c.in_default.ensures
