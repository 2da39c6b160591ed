use Rattle.laws.proofs.OldDesk.{same-text}
use Rattle.laws.proofs.old.same_bytes.Goals as goal

pub returns : goal.returns
returns c = same-text
