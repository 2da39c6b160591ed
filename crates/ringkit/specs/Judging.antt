-- To believe: what the call answers that judges a sheet by its values (Rules, the calls).
use Rattle.std.specs.Prelude.{ℕ, List, map, ◌↔◌, ◌≡◌, Result, Ok, Err}
use Rattle.ring.specs.Limits.{desk}
use Rattle.ring.specs.declared.types.Figures.{Figures}
use Rattle.ring.specs.declared.types.Link.{Link}
use Rattle.ring.specs.Sheet.{Sheet, sheet_in}
use Rattle.ring.specs.True.{TrueSheet}
use Rattle.rows.specs.SheetRow.{routed_row}
use Rattle.rows.specs.declared.sheet_row.SheetRow.{SheetRow}
use Rattle.reasons.specs.Findings as found
use Rattle.reasons.specs.declared.finding.Finding.{Finding}
use Rattle.reasons.specs.declared.reason.Reason.{Reason}
use Rattle.judge.specs.Findings.{findings, Fits}

-- the values of a call as a sheet
abbrev pub sheet_given : Figures → List SheetRow → List Link → Sheet
sheet_given figures rows links = sheet_in figures (map routed_row rows) links

-- the answer where a sheet is accepted, and where it is refused
abbrev pub Judged : Type 0
Judged = Result Unit Finding

-- the values are accepted
abbrev pub valid : Judged
valid = Ok tt

-- they are refused, with a place
abbrev pub at_fault : Reason → ℕ → Judged
at_fault reason place = Err (found.found reason place)

-- a reason is given, with its place, when it holds and nothing before it in the order does
abbrev pub Given : Sheet → Reason → ℕ → Type 0
Given x reason place = found.Given (findings desk x) reason place

-- accepted, or the reason that is given
pub data JudgeSays (x : Sheet) : Judged → Type 0 where
  says_valid : Fits desk x → TrueSheet x → JudgeSays x valid
  says_fault : (reason : Reason) (place : ℕ) → Given x reason place → JudgeSays x (at_fault reason place)

-- all that judging promises
pub record JudgePromise (x : Sheet) (r : Judged) : Type 0 where
  pub cases : JudgeSays x r
  -- it accepts exactly the values that keep to the limits and are a true sheet
  pub accepts : (r ≡ valid) ↔ (Fits desk x × TrueSheet x)
  -- and it gives each reason, with its place, exactly when it is the first that holds
  pub refuses : (reason : Reason) (place : ℕ) → (r ≡ at_fault reason place) ↔ Given x reason place
