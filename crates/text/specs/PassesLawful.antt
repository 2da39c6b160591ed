-- Internal: both passes keep the law of a pass; their clauses cite this.
use Rattle.std.specs.Prelude.{ℕ, suc, ◌+◌, ◌≡◌, List, [], ◌∷◌, ◌++◌, length, set, refl}
use Rattle.std.proofs.Common.{ap, ◌∙◌, arith}
use lib.Seq.{length-sets}
use Rattle.text.specs.Pass.{PassLaws, most, untouched, stored}

pub measures : PassLaws most untouched
measures = record { same_room = λ old at text. refl; append = λ old at p q. refl; nothing = λ old at. refl }

stored-append : (old : List ℕ) (at : ℕ) (p q : List ℕ) → stored (stored old at p) (at + length p) q ≡ stored old at (p ++ q)
stored-append old at [] q = ap (λ (k : ℕ). stored old k q) (Prim.omega arith)
stored-append old at (x ∷ p) q =
    let e : at + length (x ∷ p) ≡ suc at + length p = Prim.omega arith in
    ap (λ (k : ℕ). stored (stored (set old at x) (suc at) p) k q) e ∙ stored-append (set old at x) (suc at) p q

pub writes : PassLaws length stored
writes = record { same_room = length-sets; append = stored-append; nothing = λ old at. refl }
