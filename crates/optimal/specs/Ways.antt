-- To believe: circuits that go whole: which ways keep to a peak, which of two ways comes first,
-- and when ways fit or none do. Rows stand in the order in which they are compared, each with the
-- way that is preferred for it.
use Rattle.std.specs.Prelude.{ℕ, ◌≤◌, List, ◌∷◌, ◌⊎◌, ◌≡◌}
use Rattle.ring.specs.declared.types.Routed.{Routed}
use Rattle.ring.specs.Sheet.{sents}
use Rattle.turns.specs.Turns.{peak_of}

-- the same rows, each whole one way or the other, with a peak of at most `top`
pub record IsWithin (n top : ℕ) (plan ways : List Routed) : Type 0 where
  pub same : sents ways ≡ sents plan
  pub low : peak_of n ways ≤ top

-- of two ways of rows, the one comes first that has the preferred way at the first row where they
-- differ
pub data ComesBefore : List Routed → List Routed → List Routed → Type 0 where
  at_once : {p a b : Routed} {ps l m : List Routed}
      → a.way ≡ p.way → (b.way ≡ p.way → ⊥) → ComesBefore (p ∷ ps) (a ∷ l) (b ∷ m)
  further_on : {p a b : Routed} {ps l m : List Routed}
      → a.way ≡ b.way → ComesBefore ps l m → ComesBefore (p ∷ ps) (a ∷ l) (b ∷ m)

-- these ways are the first of all that keep to the peak
abbrev pub IsFirst : ℕ → ℕ → List Routed → List Routed → Type 0
IsFirst n top plan ways =
    (other : List Routed) → IsWithin n top plan other
    → (other ≡ ways) ⊎ ComesBefore plan ways other

-- no ways keep to it
abbrev pub CannotFit : ℕ → ℕ → List Routed → Type 0
CannotFit n top plan = (ways : List Routed) → IsWithin n top plan ways → ⊥
