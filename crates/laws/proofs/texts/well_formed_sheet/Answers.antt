-- Well-formed texts (`well-formed-sheet`, `formed-is`).
use Rattle.checker.proofs.Promised.{formed-is}
use Rattle.ringkit.proofs.SheetCalls.{well-formed-sheet}
use Rattle.laws.proofs.texts.well_formed_sheet.Goals as goal

pub returns-clause-is : goal.returns-clause-is
returns-clause-is c = well-formed-sheet

pub returns-clause-never : goal.returns-clause-never
returns-clause-never c = formed-is
