-- Two answers without an open question are the same: their peaks are each other's bounds, and of
-- two ways only one can come before the other.
use Rattle.std.proofs.Common.{◌≡◌, List, sym, inl, inr, ◌⊎◌, arith}
use Rattle.ring.specs.declared.types.Routed.{Routed}
use Rattle.optimal.specs.Ways.{ComesBefore, at_once, further_on}
use Rattle.optimal.specs.Laws.{OneAnswer}
use Rattle.optimal.proofs.SearchRight.{before-chain}

pub not-itself : {plan a : List Routed} → ComesBefore plan a a → ⊥
not-itself (at_once x y) = y x
not-itself (further_on e s) = not-itself s

pub one-answer : OneAnswer
one-answer n f g plan x y a b p q r s = (
  go (a.first r y.ways b.same (omega (arith, peaks, b.is)))
      (b.first s x.ways a.same (omega (arith, peaks, a.is))),
  peaks,
)
  where
    peaks : x.peak ≡ y.peak
    peaks =
        omega (
          arith,
          a.closed p,
          b.closed q,
          a.none_below y.ways b.same,
          b.none_below x.ways a.same,
          a.is,
          b.is,
        )

    go : (y.ways ≡ x.ways) ⊎ ComesBefore plan x.ways y.ways
        → (x.ways ≡ y.ways) ⊎ ComesBefore plan y.ways x.ways → x.ways ≡ y.ways
    go (inl e) r = sym e
    go (inr s) (inl e) = e
    go (inr s) (inr t) = absurd (not-itself (before-chain s t))
