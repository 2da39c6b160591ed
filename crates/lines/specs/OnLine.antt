-- Internal: what one line is read to: a value, against which nothing is found; or the refusal of the line.
use Rattle.std.specs.Prelude.{ℕ, ◌+◌, List, Result, Ok, Err}
use Rattle.text.specs.FieldByte.{field_byte}
use Rattle.text.specs.ReadLine.{read_line}
use Rattle.text.specs.declared.field.Field.{Field}
use Rattle.reasons.specs.declared.reason.Reason.TheVariants.{Misshapen}
use Rattle.reasons.specs.declared.reason.Refusal.{Refusal}
use Rattle.reasons.specs.declared.fault.Fault.{Fault}
use Rattle.reasons.specs.AndThen.{and_then}
use Rattle.reasons.specs.Refusals.{refuse}

-- what the line is read to; or the refusal of it, by the place of its first faulty byte
unfoldable pub values_on : {A : Type 0} → ℕ → Result A ℕ → Result A Refusal
values_on line (Ok x) = Ok x
values_on line (Err p) = refuse Misshapen line (p + 1)

-- what its values say, where nothing is found against them
unfoldable pub passed : {A : Type 0} → ℕ → List Field → List ℕ → Result Unit Fault → A → Result A Refusal
passed line shape vs (Ok tt) x = Ok x
passed line shape vs (Err f) x = refuse f.reason line (field_byte shape vs f.field)

-- the line l by its shape, its numbers of at most so many digits, by what its values are and what is found against that
unfoldable pub line_judged : {A : Type 0} → ℕ → ℕ → List Field → (List ℕ → A) → (A → Result Unit Fault) → List ℕ → Result A Refusal
unfolding values_on passed
line_judged most line shape value fault l = and_then (values_on line (read_line most shape l)) λ vs. passed line shape vs (fault (value vs)) (value vs)
