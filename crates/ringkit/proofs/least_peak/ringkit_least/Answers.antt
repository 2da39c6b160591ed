-- The call: each clause by one law of what it says (`LeastCalls`).
use Rattle.ringkit.proofs.LeastCalls.{least-promise, least-only, least-accepted, least-sent, least-floor, least-proved, least-within, least-bound, least-crossed}
use Rattle.ringkit.proofs.least_peak.ringkit_least.Goals as goal

pub returns-clause-promise : goal.returns-clause-promise
returns-clause-promise c = least-promise _ c.find_least.ensures

pub returns-clause-only : goal.returns-clause-only
returns-clause-only c = least-only _ c.find_least.ensures

pub returns-clause-accepted : goal.returns-clause-accepted
returns-clause-accepted c = least-accepted _ c.find_least.ensures

pub returns-clause-sent : goal.returns-clause-sent
returns-clause-sent c = least-sent _ c.find_least.ensures

pub returns-clause-floor : goal.returns-clause-floor
returns-clause-floor c = least-floor _ c.find_least.ensures

pub returns-clause-proved_best : goal.returns-clause-proved_best
returns-clause-proved_best c = least-proved _ c.find_least.ensures

pub returns-clause-within : goal.returns-clause-within
returns-clause-within c = least-within _ c.find_least.ensures

pub returns-clause-bound : goal.returns-clause-bound
returns-clause-bound c = least-bound _ c.find_least.ensures

pub returns-clause-crossed : goal.returns-clause-crossed
returns-clause-crossed c = least-crossed _ c.find_least.ensures
