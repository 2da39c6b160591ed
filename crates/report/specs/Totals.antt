-- To believe: what a report counts and adds (Rules, a report over many plans), of what each piece gives: a plan that is accepted, with its family, its unsplit peak
-- and its across number, or a refusal.
use Rattle.std.specs.Prelude.{ℕ, ◌+◌, ◌*◌, cond, Bool, true, false, List, [], ◌∷◌, ◌++◌, ◌≡◌, ◌||◌, eqb, ltb}
use Rattle.family.specs.declared.family.Family.{Family}
use Rattle.family.specs.declared.family.Family.TheVariants.{Sonet, Sdh}
use Rattle.report.specs.declared.outcome.Outcome.{Outcome}
use Rattle.report.specs.declared.outcome.Outcome.TheVariants.{Refused, Accepted}
use Rattle.report.specs.declared.totals.Ratio.{Ratio}
use Rattle.report.specs.declared.totals.Totals.{Totals}
use Rattle.report.specs.declared.totals.Report.{Report}

-- ---- what a piece adds to each sum

unfoldable pub accepts : Outcome → ℕ
accepts Refused = 0
accepts (Accepted family peak across) = 1

unfoldable pub refuses : Outcome → ℕ
refuses Refused = 1
refuses (Accepted family peak across) = 0

unfoldable pub peak_of : Outcome → ℕ
peak_of Refused = 0
peak_of (Accepted family peak across) = peak

unfoldable pub total : (Outcome → ℕ) → List Outcome → ℕ
total share [] = 0
total share (o ∷ os) = share o + total share os

-- ---- the worst ratio

-- where no plan enters
abbrev pub nothing : Ratio
nothing = record { twice = 0; across = 0 }

abbrev pub ratio : ℕ → ℕ → Ratio
ratio peak across = record { twice = 2 * peak; across = across }

-- is r worse than w? They are compared by their cross products; all is worse than nothing
unfoldable pub is_worse : Ratio → Ratio → Bool
is_worse r w = eqb w.across 0 || ltb (w.twice * r.across) (r.twice * w.across)

-- the worst so far, with one more plan: the first stays where two are alike, and a plan with across number 0 does not enter
unfoldable pub worst_with : Ratio → ℕ → ℕ → Ratio
unfolding is_worse
worst_with w peak across =
    cond (eqb across 0) w (cond (is_worse (ratio peak across) w) (ratio peak across) w)

unfoldable pub worst_from : Ratio → List Outcome → Ratio
unfolding worst_with
worst_from w [] = w
worst_from w (Refused ∷ os) = worst_from w os
worst_from w (Accepted family peak across ∷ os) = worst_from (worst_with w peak across) os

-- ---- all of them, of the plans of one family

unfoldable pub totals : List Outcome → Totals
unfolding accepts peak_of total worst_from
totals os = record {
  accepted = total accepts os;
  peaks = total peak_of os;
  worst = worst_from nothing os;
}

-- is it an accepted plan of this family?
unfoldable pub is_of : Family → Outcome → Bool
is_of family Refused = false
is_of Sonet (Accepted Sonet peak across) = true
is_of Sonet (Accepted Sdh peak across) = false
is_of Sdh (Accepted Sonet peak across) = false
is_of Sdh (Accepted Sdh peak across) = true

-- the accepted plans of a family, in order
unfoldable pub plans_of : Family → List Outcome → List Outcome
unfolding is_of
plans_of family [] = []
plans_of family (o ∷ os) = cond (is_of family o) (o ∷ plans_of family os) (plans_of family os)

-- each family's totals are of its own plans alone; what is refused is of no family, and counted once
unfoldable pub report_of : List Outcome → Report
unfolding totals plans_of refuses total
report_of os = record {
  sonet = totals (plans_of Sonet os);
  sdh = totals (plans_of Sdh os);
  refused = total refuses os;
}

-- a family's totals in a report
abbrev pub totals_in : Family → Report → Totals
totals_in Sonet r = r.sonet
totals_in Sdh r = r.sdh

-- what is no plan of a family adds nothing to its totals
abbrev pub FamiliesApart : Type 0
FamiliesApart = (family : Family) (before : List Outcome) (o : Outcome) (behind : List Outcome) →
    is_of family o ≡ false →
    totals_in family (report_of (before ++ o ∷ behind)) ≡ totals_in family (report_of (before ++ behind))
