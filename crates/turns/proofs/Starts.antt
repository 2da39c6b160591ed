-- A start that avoids link a loads link h with what lies across a and h, so its peak is at most M; and whichever way each demand goes, twice the peak
-- is at least M. Row by row, by whether the front holds each link.
use Prim.Native.Nat.{ℕ, zero, suc, ◌+◌, ◌*◌, ◌≤◌}
use mathlib.Core.Bool.{Bool, true, false, cond}
use mathlib.Core.List.{List, [], ◌∷◌}
use mathlib.Core.Path.{◌≡◌, refl, ap, ap₂, ◌∙◌}
use native.Mathlib.Omega.{arith}
use native.Mathlib.Decide.{dec_lt, ℕ_discrete}
use Rattle.ring.specs.Lists.{Each, none, more}
use Rattle.ring.specs.declared.types.Demand.{Demand}
use Rattle.ring.specs.Demand.{in_front}
use Rattle.ring.specs.Cut.{if_one, part, across}
use Rattle.ring.specs.declared.types.Routed.{Routed}
use Rattle.ring.specs.declared.types.Way.{Way}
use Rattle.ring.specs.declared.types.Way.TheVariants.{Front, Back}
use Rattle.ring.specs.Routing.{SumsTo, by_way, sent_over, split_load, whole_over, unsplit_load, peak}
use Rattle.ring.specs.RuleA.{cut_at, rule_a}
use Rattle.ring.specs.Sheet.{sents, demands}
use Rattle.turns.specs.Turns.{whole, peak_of, avoiding, start}
use Rattle.turns.specs.Promised.{StartsWithinM, WaysFloor}
use Rattle.ring.proofs.Peaks.{peak-least}
use Rattle.ring.proofs.Across.{either_order, one_link}
use Rattle.ring.proofs.Cuts.{cut-bounds}
use Rattle.ring.proofs.LargestCut.{rule-A}

-- ---- a start

avoids : (a h : ℕ) (r : Demand) → whole_over (avoiding a r) h ≡ part r a h
unfolding whole_over avoiding part
avoids a h r = go (in_front r a) (in_front r h)
  where
    go : (p q : Bool) → cond q (by_way (cond p Back Front) r.amount 0) (by_way (cond p Back Front) 0 r.amount) ≡ if_one r.amount p q
    go true true = refl
    go true false = refl
    go false true = refl
    go false false = refl

pub start-loads : (a h : ℕ) (rs : List Demand) → unsplit_load (start a rs) h ≡ across rs a h
unfolding unsplit_load start across
start-loads a h [] = refl
start-loads a h (r ∷ rs) = ap₂ (λ x y. x + y) (avoids a h r) (start-loads a h rs)

-- no across number is above M, in either order of the links
across-most : (n : ℕ) (rs : List Demand) (g h : ℕ) → 2 ≤ n → 1 ≤ g → g ≤ n → 1 ≤ h → h ≤ n → across rs g h ≤ (rule_a n rs).across
across-most n rs g h two a b c d =
    elim (ℕ_discrete g h) [
      | yes e ↦ rw (e, one_link rs h) (omega arith)
      | no e ↦ elim (dec_lt g h) [
        | yes l ↦ (rule-A n rs two).largest (cut_at (across rs) g h) (record { low = a; order = l; high = d })
        | no l ↦ rw (either_order rs g h) ((rule-A n rs two).largest (cut_at (across rs) h g) (record { low = c; order = omega arith; high = b }))
      ]
    ]

pub start-peak : (n : ℕ) (rs : List Demand) → 2 ≤ n → StartsWithinM n rs
unfolding peak_of
start-peak n rs two a low high =
    peak-least (unsplit_load (start a rs)) n (rule_a n rs).across (λ h l m. rw (start-loads a h rs) (across-most n rs a h two low high l m))

-- ---- every choice of ways

-- the same ways, with all halves of each row sent its way
wholes : List Routed → List Routed
wholes [] = []
wholes (r ∷ rs) = whole r.sent.demand r.way ∷ wholes rs

sums : (rs : List Routed) → Each (SumsTo 2) (sents (wholes rs))
unfolding wholes
sums [] = none
sums (r ∷ rs) = more (go r.way) (sums rs)
  where
    go : (w : Way) → by_way w (2 * r.sent.demand.amount) 0 + by_way w 0 (2 * r.sent.demand.amount) ≡ 2 * r.sent.demand.amount
    go Front = omega arith
    go Back = omega arith

same-demands : (rs : List Routed) → demands (sents (wholes rs)) ≡ demands (sents rs)
unfolding wholes
same-demands [] = refl
same-demands (r ∷ rs) = ap (λ (l : List Demand). r.sent.demand ∷ l) (same-demands rs)

twice : (rs : List Routed) (k : ℕ) → split_load (sents (wholes rs)) k ≡ 2 * unsplit_load rs k
unfolding wholes split_load unsplit_load sent_over whole_over
twice [] k = refl
twice (r ∷ rs) k = omega (arith, twice rs k, go r.way (in_front r.sent.demand k))
  where
    go : (w : Way) (b : Bool) → cond b (by_way w (2 * r.sent.demand.amount) 0) (by_way w 0 (2 * r.sent.demand.amount)) ≡ 2 * cond b (by_way w r.sent.demand.amount 0) (by_way w 0 r.sent.demand.amount)
    go Front true = refl
    go Front false = refl
    go Back true = refl
    go Back false = refl

peak-twice : (f g : ℕ → ℕ) → ((k : ℕ) → f k ≡ 2 * g k) → (n : ℕ) → peak f n ≡ 2 * peak g n
unfolding peak
peak-twice f g h zero = refl
peak-twice f g h (suc n) = omega (arith, peak-twice f g h n, h (suc n))

pub ways-floor : (n : ℕ) (rs : List Demand) → 2 ≤ n → WaysFloor n rs
unfolding peak_of
ways-floor n rs two ways same =
    let best = rule-A n rs two in
    let cut = cut-bounds 2 n rs (sents (wholes ways)) (record { same = same-demands ways ∙ same; sums = sums ways }) (rule_a n rs) best.among in
    omega (arith, best.is, peak-twice (split_load (sents (wholes ways))) (unsplit_load ways) (twice ways) n, cut)
