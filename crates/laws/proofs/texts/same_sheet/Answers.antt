-- A text is the sheet of one list of values (`same-sheet`).
use Rattle.ring.specs.Limits.{desk}
use Rattle.table.proofs.TableText.{desk-spelled}
use Rattle.sheet.proofs.Promised.{same-sheet}
use Rattle.laws.proofs.texts.same_sheet.Goals as goal

pub returns : goal.returns
returns c = same-sheet desk desk-spelled
