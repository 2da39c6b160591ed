-- To believe: a struct that was made by calls: each of them kept its promise, and the first was a start that was accepted.
use Rattle.std.specs.Prelude.{Ok, List, [], ◌∷◌}
use Rattle.ring.specs.declared.types.Ring.{Ring}
use Rattle.work.specs.Calls.{Call, start, WorkAnswer}
use Rattle.work.specs.True.{TrueTable}
use Rattle.work.specs.Promises.{WorkPromise}
use Rattle.work.specs.declared.Work.{Work}
use Rattle.work.specs.declared.answer.Placed.{Placed}

-- the struct behind a list of calls, the last of them first: from whatever bytes a start that is accepted; then any calls, refused ones and later starts among them
pub data Made : List Call → Work → Type 0 where
  begun : {any x : Work} {ring : Ring} {p : Placed} → WorkPromise any (start ring) (Ok p) x → TrueTable x → Made (start ring ∷ []) x
  called : {cs : List Call} {w x : Work} {c : Call} {a : WorkAnswer} → Made cs w → WorkPromise w c a x → TrueTable x → Made (c ∷ cs) x
