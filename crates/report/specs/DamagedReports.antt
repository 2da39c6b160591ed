-- To believe: the reports over a text before and behind damage (Rules, a report over many plans): they differ in what x and what y gives alone.
use Rattle.std.specs.Prelude.{ℕ, List, ◌++◌, ◌≡◌}
use Rattle.ring.specs.Lists.{Alike}
use Rattle.report.specs.declared.outcome.Outcome.{Outcome}
use Rattle.report.specs.declared.totals.Report.{Report}
use Rattle.report.specs.Pieces.{pieces}
use Rattle.report.specs.Damage.{alone, Damaged}
use Rattle.report.specs.Totals.{report_of}
use Rattle.report.specs.Checked.{Gives, ReportIs}

-- each piece of a and of b gives in both what it gives by itself; r is of these with what x gives between them, s with what y gives
pub record DifferBetween (a x b y : List ℕ) (r s : Report) : Type 0 where
  pub before : List Outcome
  pub was : List Outcome
  pub becomes : List Outcome
  pub behind : List Outcome
  pub of_a : Alike Gives (pieces a) before
  pub of_x : Alike Gives (alone x) was
  pub of_y : Alike Gives (alone y) becomes
  pub of_b : Alike Gives (pieces b) behind
  pub as_it_was : r ≡ report_of (before ++ (was ++ behind))
  pub damaged : s ≡ report_of (before ++ (becomes ++ behind))

-- so it is with all such damage
abbrev pub ReportsDiffer : Type 0
ReportsDiffer = (a x b y : List ℕ) → Damaged a x b y → (r s : Report) → ReportIs (a ++ (x ++ b)) r →
    ReportIs (a ++ (y ++ b)) s → DifferBetween a x b y r s
