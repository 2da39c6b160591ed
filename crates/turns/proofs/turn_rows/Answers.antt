-- The best start is the answer, and has all that is promised of it.
use Rattle.ring.specs.Sheet.{sents, demands}
use Rattle.turns.proofs.StartSteps.{Promised, all_promised}
use Rattle.turns.proofs.turn_rows.Given as given
use Rattle.turns.proofs.turn_rows.Goals as goal

promised : (g : given.Over) (c : goal.After-best_start g) → Promised c.args.nodes (demands (sents (g.R.Rows.rows c.args.rows.now))) (g.R.Rows.rows c.best_start.new.rows) c.best_start.result
promised g c = all_promised _ _ c.requires.two _ _ c.best_start.ensures.rows c.best_start.ensures.figures

pub returns-clause-demands : goal.returns-clause-demands
returns-clause-demands g c = (promised g c).demands

pub returns-clause-peak : goal.returns-clause-peak
returns-clause-peak g c = (promised g c).peak

pub returns-clause-least : goal.returns-clause-least
returns-clause-least g c = (promised g c).least

pub returns-clause-still : goal.returns-clause-still
returns-clause-still g c = (promised g c).still

pub returns-clause-turns : goal.returns-clause-turns
returns-clause-turns g c = (promised g c).turns

pub returns-clause-starts : goal.returns-clause-starts
returns-clause-starts g c = (promised g c).starts

pub returns-clause-most : goal.returns-clause-most
returns-clause-most g c = (promised g c).most

pub returns-clause-floor : goal.returns-clause-floor
returns-clause-floor g c = (promised g c).floor

pub returns-clause-start : goal.returns-clause-start
returns-clause-start g c = (promised g c).start

pub returns-clause-loads : goal.returns-clause-loads
returns-clause-loads g c = (promised g c).loads

pub returns-clause-ends : goal.returns-clause-ends
returns-clause-ends g c = (promised g c).ends
