-- Lowered rooms (`Lowered`).
use Rattle.engines.proofs.Lowered.{rooms-lowered, one-lowering}
use Rattle.engines.proofs.laws.lowered_rooms.Goals as goal

pub returns-clause-largest : goal.returns-clause-largest
returns-clause-largest c = λ n rs two nodes. rooms-lowered n rs two

pub returns-clause-only : goal.returns-clause-only
returns-clause-only c = λ n rs two nodes room is. one-lowering n rs room _ is (rooms-lowered n rs two)
