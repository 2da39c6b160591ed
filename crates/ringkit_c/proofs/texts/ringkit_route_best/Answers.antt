-- What the call of `ringkit` promises, told of the reply (`Told`).
use Rattle.ringkit_c.proofs.Told.{told-only, told-length, told-reason, told-not}
use Rattle.ringkit_c.proofs.texts.ringkit_route_best.Goals as goal

pub returns-clause-only : goal.returns-clause-only
returns-clause-only c = told-only _ _ c.from.ensures c.ringkit_route_best.ensures.only

pub returns-clause-fits : goal.returns-clause-fits
returns-clause-fits c = told-length _ _ c.from.ensures c.ringkit_route_best.ensures.fits

pub returns-clause-room : goal.returns-clause-room
returns-clause-room c = λ few room. told-reason _ _ c.from.ensures (c.ringkit_route_best.ensures.room few room)

pub returns-clause-few : goal.returns-clause-few
returns-clause-few c = λ small. told-not _ _ _ c.from.ensures (c.ringkit_route_best.ensures.few small)
