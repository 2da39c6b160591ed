-- The search (`SearchRight`, `CountRight`), and the optimal rule (`OptimalRight`, `Floor`).
use Rattle.optimal.proofs.SearchRight.{answers}
use Rattle.optimal.proofs.CountRight.{count-decides}
use Rattle.optimal.proofs.Floor.{optimal-is-right}
use Rattle.optimal.proofs.OneAnswer.{one-answer}
use Rattle.optimal.proofs.rows_in_search_order.Goals as goal

pub returns-clause-search : goal.returns-clause-search
returns-clause-search c = λ n next top most plan. answers n next top plan most

pub returns-clause-count : goal.returns-clause-count
returns-clause-count c = count-decides

pub returns-clause-optimal : goal.returns-clause-optimal
returns-clause-optimal c = optimal-is-right

pub returns-clause-one : goal.returns-clause-one
returns-clause-one c = one-answer
