-- Each line has room for the largest ring.
use Rattle.std.proofs.Common.{ℕ, ◌≡◌, List, length, replicate, refl}
use Rattle.std.proofs.lemmas.List.Elements.{All-replicate}
use Rattle.ring.specs.Limits.{desk}
use Rattle.matrix.proofs.square.Square.new.Goals as goal

pub invariant_of-result : goal.invariant_of-result
invariant_of-result c =
    record { few = c.requires; tall = refl; wide = All-replicate (λ (vs : List ℕ). length vs ≡ desk.nodes) desk.nodes (replicate {A = ℕ} desk.nodes 0) refl }
