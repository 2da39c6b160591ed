-- It is the list's, since each column has 1,024 places.
use Rattle.std.proofs.Common.{rules}
use Rattle.work.specs.Changes.{row_in}
use Rattle.work.proofs.Promised.{row-promise}
use Rattle.work.proofs.place.row_of.Goals as goal

pub returns-in_err-k-clause-value : goal.returns-in_err-k-clause-value
unfolding row_in
returns-in_err-k-clause-value c = search rules

pub returns-in_err-k-clause-promise : goal.returns-in_err-k-clause-promise
returns-in_err-k-clause-promise c = row-promise _ (record { firsts = search rules; seconds = search rules; amounts = search rules }) _ (returns-in_err-k-clause-value c)

pub returns-clause-value : goal.returns-clause-value
unfolding row_in
returns-clause-value c = search rules

pub returns-clause-promise : goal.returns-clause-promise
returns-clause-promise c = row-promise _ (record { firsts = search rules; seconds = search rules; amounts = search rules }) _ (returns-clause-value c)
