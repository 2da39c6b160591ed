-- One spelling (`spelling-is`), and limits whose numbers have one.
use Rattle.text.proofs.Spellings.{spelling-is}
use Rattle.table.proofs.TableText.{desk-spelled}
use Rattle.laws.proofs.OldDesk.{old-spelled}
use Rattle.laws.proofs.texts.numbers_spelled.Goals as goal

pub returns-clause-one : goal.returns-clause-one
returns-clause-one c = λ limits. spelling-is limits.digits limits.countable

pub returns-clause-limits : goal.returns-clause-limits
returns-clause-limits c = desk-spelled

pub returns-clause-before : goal.returns-clause-before
returns-clause-before c = old-spelled
