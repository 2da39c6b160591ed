-- Which ways keep a row that is not split: a split row may go either way, and a row that is not split has one way; by its two amounts.
use Prim.Native.Nat.{◌<◌}
use mathlib.Core.Path.{◌≡◌, refl}
use native.Mathlib.Omega.{arith}
use native.Mathlib.Decide.{dec_lt}
use lib.Dec.{eqb}
use borrow.Author.Tests.{eqb-true, eqb-false}
use Rattle.ring.specs.declared.types.Sent.{Sent}
use Rattle.ring.specs.declared.types.Way.{Way}
use Rattle.ring.specs.declared.types.Way.TheVariants.{Front, Back}
use Rattle.ring.specs.Routing.{Split, routed}
use Rattle.ring.specs.RuleD.{whole_way}
use Rattle.ring.specs.True.{GoesByRuleD}
use Rattle.ring.proofs.Side.{cond-elim}

pub kept-F : (s : Sent) → (s.front ≡ 0 → 0 < s.back → ⊥) → GoesByRuleD (routed s Front)
kept-F s n = record { front = λ e. refl; back = λ e b. absurd (n e b) }

pub kept-B : (s : Sent) → (s.back ≡ 0 → ⊥) → GoesByRuleD (routed s Back)
kept-B s n = record { front = λ e. absurd (n e); back = λ e b. refl }

pub split-kept : (s : Sent) → Split s → (w : Way) → GoesByRuleD (routed s w)
split-kept s p Front = kept-F s (λ e b. omega (arith, p.0))
split-kept s p B = kept-B s (λ e. omega (arith, p.1))

pub whole-kept : (s : Sent) → GoesByRuleD (routed s (whole_way s))
unfolding whole_way
whole-kept s =
    cond-elim (λ w. GoesByRuleD (routed s w)) (eqb s.back 0) Front Back (λ t. kept-F s (λ e b. omega (arith, eqb-true s.back 0 t))) (λ f. kept-B s (eqb-false s.back 0 f))

-- the one way of a row that is not split
pub only-way : (s : Sent) → (Split s → ⊥) → (w : Way) → GoesByRuleD (routed s w) → w ≡ whole_way s
unfolding whole_way
only-way s n w k =
    cond-elim (λ v. w ≡ v) (eqb s.back 0) Front Back (λ t. k.front (eqb-true s.back 0 t)) (λ f. above (omega (arith, eqb-false s.back 0 f)))
  where
    above : 0 < s.back → w ≡ Back
    above b = elim (dec_lt 0 s.front) [ yes f ↦ absurd (n (f, b)) | no f ↦ k.back (omega arith) b ]
