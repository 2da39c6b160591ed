-- What is promised of the texts of all sheets: from the law of a sheet's text (`SheetText`).
use mathlib.Core.Path.{◌≡◌, refl, ap, ◌∙◌, sym}
use Rattle.std.specs.Prelude.{Result, Ok}
use Rattle.ring.specs.Limits.{Limits}
use Rattle.ring.specs.Sheet.{Sheet}
use Rattle.sheet.specs.WriteSheet.{write_sheet}
use Rattle.sheet.specs.Range.{InRange}
use Rattle.sheet.specs.Read.{read_sheet}
use Rattle.sheet.specs.Laws.{SameSheet}
use Rattle.sheet.proofs.SheetText.{sheet-text}
use Rattle.reasons.specs.declared.reason.Refusal.{Refusal}
use Rattle.table.specs.Spelled.{LimitsSpelled}

module _ (limits : Limits) (limited : LimitsSpelled limits) where
  -- read again, a sheet that was written has the same values
  read-back : (x : Sheet) → InRange limits x → read_sheet limits (write_sheet x) ≡ Ok x
  read-back x range = (sheet-text limits limited (write_sheet x) x).1 (refl, range)

  pub same-sheet : SameSheet limits
  same-sheet x y r s e = let f : ◌≡◌ {A = Result Sheet Refusal} (Ok x) (Ok y) = sym (read-back x r) ∙ ap (read_sheet limits) e ∙ read-back y s in cc
