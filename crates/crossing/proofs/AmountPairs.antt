-- Of rows that are sent half either way those with amounts are split: so the first parallel pair of split rows is the first parallel pair of rows with amounts, and there is
-- none exactly where all rows with amounts cross.
use Prim.Native.Nat.{ℕ}
use mathlib.Core.Bool.{Bool, true, false, not, true≢false}
use mathlib.Core.List.{List}
use mathlib.Core.Logic.{◌↔◌}
use mathlib.Core.Path.{◌≡◌, refl, sym, ap}
use Rattle.ring.specs.declared.types.Demand.{Demand}
use Rattle.ring.specs.Crossing.{crosses, parallel}
use Rattle.crossing.specs.Pair.{ParallelSplit, NoneFrom}
use Rattle.crossing.specs.FindPair.{first_pair}
use Rattle.crossing.specs.AllCross.{CrossIfSome, AllCross, ParallelAmounts, FirstParallel, half, halves}
use Rattle.crossing.specs.declared.pair.Pair.TheVariants.{Are, None}
use Rattle.crossing.proofs.FirstPairs.{none-of, of-none, first-made, none-made}
use Rattle.crossing.proofs.PairLaws.{first-pair-is, no-pair-is}

same-test : (a b : Demand) → ParallelAmounts a b ↔ ParallelSplit (half a) (half b)
same-test a b = (
  λ c. record { one = (c.one, c.one); two = (c.two, c.two); parallel = c.parallel },
  λ c. record { one = c.one.0; two = c.two.0; parallel = c.parallel },
)

pub first-parallel-is : (rs : List Demand) (p q : ℕ) → (first_pair (halves rs) ≡ Are p q) ↔ FirstParallel rs p q
first-parallel-is rs p q =
    let scan = first-pair-is (halves rs) p q in
    let made = first-made half same-test in
    (λ e. made.0 (scan.0 e), λ f. scan.1 (made.1 f))

-- two rows cross, if both have amounts, or they are a parallel pair
cross-no-pair : (a b : Demand) → CrossIfSome a b → ParallelAmounts a b → ⊥
unfolding parallel
cross-no-pair a b c x = not-true (crosses a b) (c x.one x.two) x.parallel
  where
    not-true : (y : Bool) → y ≡ true → not y ≡ true → ⊥
    not-true true e f = true≢false (sym f)
    not-true false e f = true≢false (sym e)

cross-else : (a b : Demand) → (ParallelAmounts a b → ⊥) → CrossIfSome a b
unfolding parallel
cross-else a b n x y = go (crosses a b) refl
  where
    go : (z : Bool) → crosses a b ≡ z → z ≡ true
    go true e = refl
    go false e = absurd (n (record { one = x; two = y; parallel = ap not e }))

pub no-parallel : (rs : List Demand) → AllCross rs → NoneFrom ParallelAmounts 1 rs
no-parallel rs cross = none-of cross-no-pair 1 cross

pub all-cross-is : (rs : List Demand) → (first_pair (halves rs) ≡ None) ↔ AllCross rs
all-cross-is rs =
    let scan = no-pair-is (halves rs) in
    let made = none-made half same-test in
    (λ e. of-none cross-else 1 rs (made.0 (scan.0 e)), λ c. scan.1 (made.1 (no-parallel rs c)))
