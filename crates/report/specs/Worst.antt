-- To believe: what the worst ratio of a family is, of what many pieces give, without the way it is found (Rules, a report over many plans).
use Rattle.std.specs.Prelude.{ℕ, ◌*◌, ◌<◌, ◌≤◌, List, ◌∷◌, ◌++◌, ◌≡◌, ◌↔◌}
use Rattle.family.specs.declared.family.Family.{Family}
use Rattle.ring.specs.Lists.{Each}
use Rattle.report.specs.declared.outcome.Outcome.{Outcome}
use Rattle.report.specs.declared.outcome.Outcome.TheVariants.{Accepted}
use Rattle.report.specs.declared.totals.Ratio.{Ratio}
use Rattle.report.specs.Totals.{nothing, ratio, report_of, totals_in}

-- a plan of the family that is accepted with an across number above 0 enters with its ratio
pub data Enters (family : Family) : Outcome → Ratio → Type 0 where
  enters : (peak across : ℕ) → 0 < across →
      Enters family (Accepted family peak across) (ratio peak across)

-- r is below w, and at most w, as fractions
abbrev pub Below : Ratio → Ratio → Type 0
Below r w = r.twice * w.across < w.twice * r.across

abbrev pub AtMost : Ratio → Ratio → Type 0
AtMost r w = r.twice * w.across ≤ w.twice * r.across

-- what a piece enters with, if it does, has the property
abbrev pub IfEnters : Family → (Ratio → Type 0) → Outcome → Type 0
IfEnters family P o = (r : Ratio) → Enters family o r → P r

-- it is some entering plan's; none is worse, and none before it is as bad
pub record FirstWorst (family : Family) (os : List Outcome) (w : Ratio) : Type 0 where
  pub before : List Outcome
  pub plan : Outcome
  pub after : List Outcome
  pub all : os ≡ before ++ plan ∷ after
  pub its : Enters family plan w
  pub below : Each (IfEnters family (λ (r : Ratio). Below r w)) before
  pub at_most : Each (IfEnters family (λ (r : Ratio). AtMost r w)) after

pub data IsWorst (family : Family) (os : List Outcome) (w : Ratio) : Type 0 where
  none_enters : Each (IfEnters family (λ (r : Ratio). ⊥)) os → w ≡ nothing → IsWorst family os w
  is_first : FirstWorst family os w → IsWorst family os w

-- the worst ratio of each family in a report is such, and no other is
abbrev pub WorstIs : Type 0
WorstIs = (family : Family) (os : List Outcome) (w : Ratio) →
    (w ≡ (totals_in family (report_of os)).worst) ↔ IsWorst family os w
