-- R lines (`one-ring`, `ring-read`).
use Prim.Native.Nat.{ℕ}
use mathlib.Core.List.{List}
use Rattle.std.specs.Prelude.{Result}
use Rattle.ring.specs.Limits.{Limits}
use Rattle.ring.specs.declared.types.Ring.{Ring}
use Rattle.text.specs.RingLine.{RingLineIs, RingFault}
use Rattle.text.proofs.Apart.{clash}
use Rattle.text.proofs.RingLaws.{one-ring, ring-good, ring-bad, RingRead, is_ring, no_ring, ring-read}
use Rattle.laws.proofs.texts.ring_lines.Goals as goal

module _ (limits : Limits) (s : List ℕ) where
  no-line : (p : ℕ) → RingFault limits.marks limits.digits s p → (ring : Ring) → RingLineIs limits.marks limits.digits s ring → ⊥
  no-line p f ring h =
      let bad = (ring-bad limits.digits limits.countable limits.marks s p).1 f in
      let good = (ring-good limits.digits limits.countable limits.marks s ring).1 h in
      clash (cc)

  some-fault : (x : Result Ring ℕ) → RingRead limits.digits limits.countable limits.marks s x → ((ring : Ring) → RingLineIs limits.marks limits.digits s ring → ⊥)
      → (p : ℕ) × RingFault limits.marks limits.digits s p
  some-fault _ (is_ring {ring} h) none = absurd (none ring h)
  some-fault _ (no_ring {p} n f) none = (p, f)

pub returns-clause-one : goal.returns-clause-one
returns-clause-one c = λ limits s p q. one-ring limits.digits limits.countable limits.marks s

pub returns-clause-faulty : goal.returns-clause-faulty
returns-clause-faulty c = λ limits s.
    (λ f. no-line limits s f.0 f.1, some-fault limits s _ (ring-read limits.digits limits.countable limits.marks s))
