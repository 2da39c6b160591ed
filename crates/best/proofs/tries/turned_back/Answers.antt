-- The links of the row's front fall, and the others rise.
use Rattle.std.proofs.Common.{refl, rules}
use Rattle.best.proofs.TrySteps.{back_fits, back_is}
use Rattle.best.proofs.tries.turned_back.Goals as goal

pub step_over-requires : goal.step_over-requires
step_over-requires c = back_fits _ _ (search rules) _ c.requires (λ x p. search rules) (λ x p. search rules)

pub returns : goal.returns
returns c = back_is _ _ (search rules) _ _ _ _ refl (λ x y p. search rules) (λ x y p. search rules) c.step_over.ensures
