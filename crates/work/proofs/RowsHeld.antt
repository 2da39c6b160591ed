-- Lists of places: what putting a row at a place, or taking it off, does to the rows held and to every sum over them; by recursion over the places.
use Prim.Native.Nat.{ℕ, zero, suc, ◌+◌, ◌≤◌, ◌<◌}
use mathlib.Core.List.{List, [], ◌∷◌}
use mathlib.Core.Path.{◌≡◌, refl, ap}
use native.Mathlib.Omega.{arith}
use lib.ListN.{length, get_or, set, replicate}
use Rattle.ring.specs.Lists.{Each, more}
use Rattle.ring.specs.declared.types.Demand.{Demand}
use Rattle.ring.specs.Cut.{part, across}
use Rattle.work.specs.Places.{Place, empty, holds, rows_held, place_in, places_in}

-- what a place adds to an across number
abbrev pub share : Place → ℕ → ℕ → ℕ
share empty g h = 0
share (holds r) g h = part r g h

pub across-place : (x : Place) (ps : List Place) (g h : ℕ) → across (rows_held (x ∷ ps)) g h ≡ share x g h + across (rows_held ps) g h
unfolding rows_held across
across-place empty ps g h = omega arith
across-place (holds r) ps g h = refl

pub across-set : (ps : List Place) (k : ℕ) (x : Place) (g h : ℕ) → k < length ps → across (rows_held (set ps k x)) g h + share (get_or ps k empty) g h ≡ share x g h + across (rows_held ps) g h
across-set [] k x g h l = absurd (omega arith)
across-set (p ∷ ps) zero x g h l = omega (arith, across-place x ps g h, across-place p ps g h)
across-set (p ∷ ps) (suc k) x g h l = omega (arith, across-place p (set ps k x) g h, across-place p ps g h, across-set ps k x g h (omega arith))

pub held-few : (ps : List Place) → length (rows_held ps) ≤ length ps
unfolding rows_held
held-few [] = omega arith
held-few (empty ∷ ps) = omega (arith, held-few ps)
held-few (holds r ∷ ps) = omega (arith, held-few ps)

-- what holds of each row held, and of a place's row if it has one
abbrev pub Of : (Demand → Type 0) → Place → Type 0
Of P empty = Unit {0}
Of P (holds r) = P r

pub each_set : {P : Demand → Type 0} (ps : List Place) (k : ℕ) (x : Place) → Each P (rows_held ps) → Of P x → Each P (rows_held (set ps k x))
unfolding rows_held
each_set [] k x e o = e
each_set (empty ∷ ps) zero empty e o = e
each_set (empty ∷ ps) zero (holds r) e o = more o e
each_set (holds r ∷ ps) zero empty (more q e) o = e
each_set (holds r ∷ ps) zero (holds s) (more q e) o = more o e
each_set (empty ∷ ps) (suc k) x e o = each_set ps k x e o
each_set (holds r ∷ ps) (suc k) x (more q e) o = more q (each_set ps k x e o)

pub each_at : {P : Demand → Type 0} (ps : List Place) (k : ℕ) (r : Demand) → Each P (rows_held ps) → get_or ps k empty ≡ holds r → P r
unfolding rows_held
each_at [] k r e q = absurd (cc)
each_at {P} (empty ∷ ps) zero r e q = absurd (cc)
each_at {P} (holds s ∷ ps) zero r (more p e) q = let same : s ≡ r = cc in rw same at p
each_at {P} (empty ∷ ps) (suc k) r e q = each_at {P = P} ps k r e q
each_at {P} (holds s ∷ ps) (suc k) r (more p e) q = each_at {P = P} ps k r e q

pub held-fresh : (m : ℕ) → rows_held (replicate m empty) ≡ []
unfolding rows_held
held-fresh zero = refl
held-fresh (suc m) = held-fresh m

-- ---- columns

pub places-set : (is js ds : List ℕ) (k i j d : ℕ) → places_in (set is k i) (set js k j) (set ds k d) ≡ set (places_in is js ds) k (place_in i j d)
unfolding places_in
places-set [] js ds k i j d = refl
places-set (x ∷ is) [] ds zero i j d = refl
places-set (x ∷ is) [] ds (suc k) i j d = refl
places-set (x ∷ is) (y ∷ js) [] zero i j d = refl
places-set (x ∷ is) (y ∷ js) [] (suc k) i j d = refl
places-set (x ∷ is) (y ∷ js) (z ∷ ds) zero i j d = refl
places-set (x ∷ is) (y ∷ js) (z ∷ ds) (suc k) i j d = ap (λ (l : List Place). place_in x y z ∷ l) (places-set is js ds k i j d)

pub places-length : (is js ds : List ℕ) → length is ≡ length js → length js ≡ length ds → length (places_in is js ds) ≡ length is
unfolding places_in
places-length [] js ds a b = refl
places-length (x ∷ is) [] ds a b = absurd (omega arith)
places-length (x ∷ is) (y ∷ js) [] a b = absurd (omega arith)
places-length (x ∷ is) (y ∷ js) (z ∷ ds) a b = ap suc (places-length is js ds (omega arith) (omega arith))

pub places-at : (is js ds : List ℕ) (k : ℕ) → length is ≡ length js → length js ≡ length ds → get_or (places_in is js ds) k empty ≡ place_in (get_or is k 0) (get_or js k 0) (get_or ds k 0)
unfolding places_in
places-at [] js ds k a b = refl
places-at (x ∷ is) [] ds k a b = absurd (omega arith)
places-at (x ∷ is) (y ∷ js) [] k a b = absurd (omega arith)
places-at (x ∷ is) (y ∷ js) (z ∷ ds) zero a b = refl
places-at (x ∷ is) (y ∷ js) (z ∷ ds) (suc k) a b = places-at is js ds k (omega arith) (omega arith)

pub places-fresh : (m : ℕ) → places_in (replicate m 0) (replicate m 0) (replicate m 0) ≡ replicate m empty
unfolding places_in
places-fresh zero = refl
places-fresh (suc m) = ap (λ (l : List Place). empty ∷ l) (places-fresh m)
