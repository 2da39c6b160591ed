-- Reasons with the same number are the same, and so are reasons with the same rank; neither is 0: each reason stands in a list under its number, and in
-- another under its rank.
use Prim.Native.Nat.{ℕ, ◌≤◌}
use mathlib.Core.List.{List, [], ◌∷◌}
use mathlib.Core.Path.{◌≡◌, refl, ap, ◌∙◌, sym}
use native.Mathlib.Omega.{arith}
use native.Mathlib.Decide.{dec_lt}
use lib.ListN.{get_or}
use Rattle.reasons.specs.Reasons.{number_of, rank_of}
use Rattle.reasons.specs.declared.reason.Reason.{Reason}
use Rattle.reasons.specs.declared.reason.Reason.TheVariants.{TooLong, Misshapen, RingSize, Fibres, NoRow, NoSuchNode, NotBelow, OutOfOrder, TooMany, TooMuch, Full, WrongSum, WrongWay, WrongCut, WrongLink, WrongLast, NotTight, OverBound, NotZero, NotSymmetric, SumTooMuch, TooManySplit, PlansTooLong, NoRoom}

-- from place 1 on
abbrev by_number : List Reason
by_number =
    NoRoom ∷ TooLong ∷ Misshapen ∷ RingSize ∷ NoSuchNode ∷ NotBelow ∷ OutOfOrder ∷ TooMuch ∷ WrongSum ∷ WrongWay ∷ WrongCut ∷ WrongLink ∷ WrongLast
    ∷ NotTight ∷ OverBound ∷ NoRoom ∷ TooMany ∷ NotZero ∷ NotSymmetric ∷ SumTooMuch ∷ Fibres ∷ Full ∷ NoRow ∷ TooManySplit ∷ PlansTooLong ∷ []

abbrev by_rank : List Reason
by_rank =
    NoRoom ∷ TooLong ∷ Misshapen ∷ RingSize ∷ Fibres ∷ NoRow ∷ NoSuchNode ∷ NotBelow ∷ OutOfOrder ∷ TooMany ∷ TooMuch ∷ Full ∷ WrongSum ∷ WrongWay ∷ WrongCut ∷ WrongLink
    ∷ WrongLast ∷ NotTight ∷ OverBound ∷ NotZero ∷ NotSymmetric ∷ SumTooMuch ∷ TooManySplit ∷ PlansTooLong ∷ NoRoom ∷ []

record InItsPlaces (r : Reason) : Type 0 where
  number : get_or by_number (number_of r) NoRoom ≡ r
  rank : get_or by_rank (rank_of r) NoRoom ≡ r

in-its-places : (r : Reason) → InItsPlaces r
in-its-places TooLong = record { number = refl; rank = refl }
in-its-places Misshapen = record { number = refl; rank = refl }
in-its-places RingSize = record { number = refl; rank = refl }
in-its-places Fibres = record { number = refl; rank = refl }
in-its-places NoRow = record { number = refl; rank = refl }
in-its-places NoSuchNode = record { number = refl; rank = refl }
in-its-places NotBelow = record { number = refl; rank = refl }
in-its-places OutOfOrder = record { number = refl; rank = refl }
in-its-places TooMany = record { number = refl; rank = refl }
in-its-places TooMuch = record { number = refl; rank = refl }
in-its-places Full = record { number = refl; rank = refl }
in-its-places WrongSum = record { number = refl; rank = refl }
in-its-places WrongWay = record { number = refl; rank = refl }
in-its-places WrongCut = record { number = refl; rank = refl }
in-its-places WrongLink = record { number = refl; rank = refl }
in-its-places WrongLast = record { number = refl; rank = refl }
in-its-places NotTight = record { number = refl; rank = refl }
in-its-places OverBound = record { number = refl; rank = refl }
in-its-places NotZero = record { number = refl; rank = refl }
in-its-places NotSymmetric = record { number = refl; rank = refl }
in-its-places SumTooMuch = record { number = refl; rank = refl }
in-its-places TooManySplit = record { number = refl; rank = refl }
in-its-places PlansTooLong = record { number = refl; rank = refl }
in-its-places NoRoom = record { number = refl; rank = refl }

-- a key under which each reason stands in a list, from place 1 on; 15 stands at place 0
module _ (key : Reason → ℕ) (list : List Reason) (there : (r : Reason) → get_or list (key r) NoRoom ≡ r) where
  same_key : (r s : Reason) → key r ≡ key s → r ≡ s
  same_key r s e = sym (there r) ∙ ap (λ k. get_or list k NoRoom) e ∙ there s

  no-key-0 : get_or list 0 NoRoom ≡ NoRoom → 1 ≤ key NoRoom → (r : Reason) → 1 ≤ key r
  no-key-0 first some r =
      elim (dec_lt 0 (key r)) [
        | yes h ↦ omega arith
        | no h ↦
            let e : key r ≡ 0 = omega arith in
            let k : NoRoom ≡ r = sym first ∙ sym (ap (λ k. get_or list k NoRoom) e) ∙ there r in
            absurd (omega (arith, ap key k))
      ]

pub same-reason : (r s : Reason) → number_of r ≡ number_of s → r ≡ s
same-reason = same_key number_of by_number (λ r. (in-its-places r).number)

-- 0 is success
pub no-reason-0 : (r : Reason) → 1 ≤ number_of r
no-reason-0 = no-key-0 number_of by_number (λ r. (in-its-places r).number) refl (omega arith)

pub same_rank : (r s : Reason) → rank_of r ≡ rank_of s → r ≡ s
same_rank = same_key rank_of by_rank (λ r. (in-its-places r).rank)

pub no-rank-0 : (r : Reason) → 1 ≤ rank_of r
no-rank-0 = no-key-0 rank_of by_rank (λ r. (in-its-places r).rank) refl (omega arith)
