-- To believe: the report over a text of many plans, by what a piece gives (Rules, a report over many plans); and its lines.
use Rattle.std.specs.Prelude.{ℕ, List, [], ◌∷◌, ◌++◌, map}
use Rattle.text.specs.WriteLine.{write_line}
use Rattle.text.specs.declared.field.Field.{Field}
use Rattle.text.specs.declared.field.Field.TheVariants.{Letter, Number}
use Rattle.report.specs.declared.outcome.Outcome.{Outcome}
use Rattle.report.specs.declared.totals.Totals.{Totals}
use Rattle.report.specs.declared.totals.Report.{Report}
use Rattle.report.specs.Pieces.{pieces}
use Rattle.report.specs.Totals.{report_of}

-- a text of many plans has at most so many bytes
abbrev pub most_bytes : ℕ
most_bytes = 65536

-- what each piece gives, in order
unfoldable pub outcomes : (List ℕ → Outcome) → List ℕ → List Outcome
unfolding pieces
outcomes gives t = map gives (pieces t)

unfoldable pub report : (List ℕ → Outcome) → List ℕ → Report
unfolding outcomes report_of
report gives t = report_of (outcomes gives t)

-- ---- its lines

-- T: the totals of a family
abbrev pub letter_t : ℕ
letter_t = 84

-- X: how many are refused
abbrev pub letter_x : ℕ
letter_x = 88

-- T accepted sum twice-peak across
abbrev pub totals_shape : List Field
totals_shape = Letter letter_t ∷ Number ∷ Number ∷ Number ∷ Number ∷ []

-- X refused
abbrev pub refused_shape : List Field
refused_shape = Letter letter_x ∷ Number ∷ []

abbrev pub totals_line : Totals → List ℕ
totals_line t = write_line totals_shape
    (0 ∷ t.accepted ∷ t.peaks ∷ t.worst.twice ∷ t.worst.across ∷ [])

abbrev pub refused_line : ℕ → List ℕ
refused_line refused = write_line refused_shape (0 ∷ refused ∷ [])

-- SONET's totals, SDH's totals, how many are refused
abbrev pub report_text : Report → List ℕ
report_text r = totals_line r.sonet ++ (totals_line r.sdh ++ refused_line r.refused)
