-- The links of a row's path fall, and the others rise, by the two sides of its demand.
use Rattle.std.proofs.Common.{◌≡◌, length, take, rules, refl}
use Rattle.turns.proofs.TurnSteps.{turn_fits, turn_is}
use Rattle.turns.proofs.loads.turn_loads.Goals as goal

pub step_over-requires : goal.step_over-requires
step_over-requires c =
    let long : length (take c.args.links c.args.loads.now) ≡ c.args.links = search rules in
    turn_fits _ _ (rw long c.requires.row) c.requires.room c.requires.path _ _ c.whole-front.ensures.front c.whole-front.ensures.back (λ x p q. search rules) (λ x p q. search rules)

pub returns-clause-turned : goal.returns-clause-turned
returns-clause-turned c = turn_is _ _ _ _ _ _ (search rules) refl _ _ c.whole-front.ensures.front c.whole-front.ensures.back (λ x y p. search rules) (λ x y p. search rules) c.step_over.ensures
