-- A line that is due has one byte: it is missing, or it has one first fault.
use Prim.Native.Nat.{ℕ, ◌+◌}
use mathlib.Core.List.{List}
use mathlib.Core.Path.{◌≡◌, refl, ap, subst}
use Rattle.ring.specs.Limits.{Limits}
use Rattle.text.specs.declared.field.Field.{Field}
use Rattle.text.proofs.LineLaws.{one-fault}
use Rattle.lines.specs.DueBytes.{ShapeByte, DueByte, line_missing, line_faulty}
use Rattle.lines.proofs.LineNumbers.{line-one}

pub one-due : {t : List ℕ} {line b c : ℕ} {Fault : List ℕ → ℕ → Type 0} → ((l : List ℕ) (p q : ℕ) → Fault l p → Fault l q → p ≡ q) → DueByte t line Fault b → DueByte t line Fault c → b ≡ c
one-due one (line_missing none) (line_missing gone) = refl
one-due one (line_missing none) (line_faulty is f) = absurd (none _ is)
one-due one (line_faulty is f) (line_missing none) = absurd (none _ is)
one-due {Fault = P} one (line_faulty {l} {p} is f) (line_faulty {l = m} {p = q} it g) =
    ap (λ p. p + 1) (one m p q (subst (λ s. P s p) (line-one is it refl) f) g)

pub one-shape-byte : (limits : Limits) {t : List ℕ} {shape : List Field} {line b c : ℕ} → ShapeByte limits t shape line b → ShapeByte limits t shape line c → b ≡ c
one-shape-byte limits x y = one-due (λ l p q f g. one-fault limits.digits limits.countable f g) x y
