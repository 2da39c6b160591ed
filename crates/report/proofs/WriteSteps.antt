-- Writing a report: the line of each family and the line of what is refused, each behind the one before.
use Prim.Native.Nat.{ℕ, ◌+◌, ◌≤◌}
use mathlib.Core.List.{List, ◌++◌}
use mathlib.Core.Path.{refl}
use native.Mathlib.Omega.{arith}
use lib.ListN.{length}
use Rattle.text.specs.Pass.{PassLaws}
use Rattle.text.specs.Written.{Passed}
use Rattle.text.proofs.Going.{Going, going-start, piece-fits, going-on}
use Rattle.report.specs.declared.totals.Report.{Report}
use Rattle.report.specs.Report.{totals_line, refused_line, report_text}

module _ (r : Report) {room : List ℕ → ℕ} {after : List ℕ → ℕ → List ℕ → List ℕ} (pass : PassLaws room after) {old : List ℕ} (fits : length (report_text r) ≤ room old) where
  abbrev Before : List ℕ → ℕ → List ℕ → Type 0
  Before buffer next rest = Going room after old 0 (report_text r) buffer next rest

  at-sonet : Before old 0 (totals_line r.sonet ++ (totals_line r.sdh ++ refused_line r.refused))
  at-sonet = going-start pass old 0 (report_text r) (omega (arith, fits))

  pub sonet-placed : 0 + length (totals_line r.sonet) ≤ room old
  sonet-placed = piece-fits pass at-sonet (totals_line r.sonet) _ refl

  module _ {a : List ℕ} {p : ℕ} (u : Passed after old 0 (totals_line r.sonet) a p) where
    at-sdh : Before a p (totals_line r.sdh ++ refused_line r.refused)
    at-sdh = going-on pass at-sonet (totals_line r.sonet) _ refl a p u

    pub sdh-placed : p + length (totals_line r.sdh) ≤ room a
    sdh-placed = piece-fits pass at-sdh (totals_line r.sdh) _ refl

    -- the last line alone is to come
    pub at-refused : {b : List ℕ} {q : ℕ} → Passed after a p (totals_line r.sdh) b q → Going room after old 0 (report_text r) b q (refused_line r.refused)
    at-refused {b} {q} v = going-on pass at-sdh (totals_line r.sdh) _ refl b q v
