-- The loops over links make each load's weight and the sums of weights; and a path's sum is the difference of two of them, or what is left of all.
use Rattle.std.proofs.Common.{◌≡◌, ℕ, zero, suc, ◌+◌, ◌-◌, ◌*◌, ◌^◌, ◌%◌, ◌≤◌, ◌<◌, Bool, true, false, cond, not, List, [], ◌∷◌, length, get_or, set, refl, sym, ap, ◌∙◌, arith, ltb, leb, le-ltb, le-leb, w64, Fits, get_or-set_same, get_or-set_other}
use Rattle.std.specs.List.{count_by}
use Rattle.std.proofs.lemmas.List.Sums.{sum_by-cons, count_by-le-length}
use native.Mathlib.Decide.{dec_le, ℕ_discrete}
use native.Mathlib.Nat.{pow-succ'}
use lib.Pow.{pow_mono, shl_exact}
use borrow.Author.Tests.{lt-ltb, lt-leb}
use Rattle.ring.specs.declared.types.Demand.{Demand}
use Rattle.ring.specs.Demand.{in_front, OnRing}
use Rattle.ring.specs.Routing.{peak}
use Rattle.ring.specs.Sheet.{numbers_from}
use Rattle.ring.proofs.Peaks.{peak-above, peak-attained}
use Rattle.ring.proofs.Side.{in-front, before-front, after_front}
use Rattle.ring.specs.Limits.{desk}
use Rattle.weight.specs.LinkSteps.{link_at}
use Rattle.ring.specs.declared.types.Routed.{Routed}
use Rattle.ring.specs.declared.types.Way.TheVariants.{Front, Back}
use Rattle.turns.specs.declared.loads.Loads.TheInside.{Inside}
use Rattle.turns.specs.Turns.{on_path}
use Rattle.turns.specs.Choosing.{rank_weight_in, rank_weight, sum_to, off_top, path_key, all_weights, LoadOf, Keys}
use Rattle.turns.specs.Loads.{loads_in, Figured}
use Rattle.turns.proofs.LoadsSteps.{links_are, keys_are}
use Rattle.turns.proofs.Weights.{sum-to, weights-below}

-- ---- a load's weight

-- each load is below v or is not
both-counts : (v : ℕ) (xs : List ℕ) → count_by (λ x. ltb x v) xs + count_by (λ x. leb v x) xs ≡ length xs
both-counts v [] = refl
both-counts v (x ∷ xs) =
    rw (sum_by-cons (λ x. cond (ltb x v) 1 0) x xs, sum_by-cons (λ x. cond (leb v x) 1 0) x xs)
    (elim (dec_le v x) [
      | yes l ↦ rw (le-ltb x v l, le-leb v x l) (omega (arith, both-counts v xs))
      | no l ↦ rw (lt-ltb x v (omega arith), lt-leb v x (omega arith)) (omega (arith, both-counts v xs))
    ])

pub rank_fits : (loads : List ℕ) (v others : ℕ) → others ≡ count_by (λ x. leb v x) loads → others ≤ length loads
rank_fits loads v others e = omega (arith, both-counts v loads)

pub rank_is : (loads : List ℕ) (v others : ℕ) → others ≡ count_by (λ x. leb v x) loads → length loads - others ≡ count_by (λ x. ltb x v) loads
rank_is loads v others e = omega (arith, both-counts v loads)

-- a weight is 2 to the number of smaller loads
weight-count : (load : ℕ → ℕ) (v s : ℕ) (xs : List ℕ) → ((x : ℕ) → x < length xs → load (s + x) ≡ get_or xs x 0) → rank_weight_in load v (numbers_from s (length xs)) ≡ 2 ^ count_by (λ x. ltb x v) xs
unfolding rank_weight_in numbers_from
weight-count load v s [] h = refl
weight-count load v s (x ∷ xs) h =
    let a : s + 0 ≡ s = omega arith in
    let here : load s ≡ x = rw a at (h 0 (omega arith)) in
    rw here
    (go (ltb x v) (weight-count load v (suc s) xs (λ y l. let b : s + suc y ≡ suc s + y = omega arith in rw b at (h (suc y) (omega arith)))) ∙
    ap (λ c. 2 ^ c) (sym (sum_by-cons (λ x. cond (ltb x v) 1 0) x xs)))
  where
    rest : ℕ
    rest = rank_weight_in load v (numbers_from (suc s) (length xs))

    count : ℕ
    count = count_by (λ x. ltb x v) xs

    go : (b : Bool) → rest ≡ 2 ^ count → cond b (2 * rest) rest ≡ 2 ^ (cond b 1 0 + count)
    go true e = let s : 1 + count ≡ suc count = omega arith in rw s (omega (arith, e, pow-succ' 2 count))
    go false e = let s : 0 + count ≡ count = omega arith in rw s e

weight-counted : (loads : List ℕ) (v : ℕ) → rank_weight (length loads) (link_at loads) v ≡ 2 ^ count_by (λ x. ltb x v) loads
weight-counted loads v = weight-count (link_at loads) v 1 loads (λ x l. let e : (1 + x) - 1 ≡ x = omega arith in rw e)

-- no load is less than itself
count-under : (v : ℕ) (xs : List ℕ) (k : ℕ) → k < length xs → get_or xs k 0 ≡ v → count_by (λ x. ltb x v) xs < length xs
count-under v [] k l e = absurd (omega arith)
count-under v (x ∷ xs) zero l e = rw (sum_by-cons (λ x. cond (ltb x v) 1 0) x xs, le-ltb x v (omega (arith, e))) (omega (arith, count_by-le-length (λ x. ltb x v) xs))
count-under v (x ∷ xs) (suc k) l e = rw (sum_by-cons (λ x. cond (ltb x v) 1 0) x xs) (go (ltb x v) (count-under v xs k (omega arith) e))
  where
    go : (b : Bool) → count_by (λ x. ltb x v) xs < length xs → cond b 1 0 + count_by (λ x. ltb x v) xs < suc (length xs)
    go true l = omega arith
    go false l = omega arith

pub count_fits : (loads : List ℕ) (v r : ℕ) → length loads ≤ desk.nodes → LoadOf loads v → r ≡ count_by (λ x. ltb x v) loads → r < 64
count_fits loads v r few h e = omega (arith, count-under v loads h.place h.within h.is)

pub weight_is : (loads : List ℕ) (v r : ℕ) → length loads ≤ desk.nodes → LoadOf loads v → r ≡ count_by (λ x. ltb x v) loads → (1 * 2 ^ r) % 2 ^ 64 ≡ rank_weight (length loads) (link_at loads) v
weight_is loads v r few h e = shl_exact 1 r 64 (omega arith) (omega (arith, count_fits loads v r few h e)) ∙ (one-times (2 ^ r) ∙ (ap (λ x. 2 ^ x) e ∙ sym (weight-counted loads v)))
  where
    one-times : (x : ℕ) → 1 * x ≡ x
    one-times x = omega arith

-- ---- the sums

-- each link's load is one of them
pub load_of : (loads : List ℕ) (k : ℕ) → k < length loads → LoadOf loads (get_or loads k 0)
load_of loads k l = record { place = k; within = l; is = refl }

abbrev weight_at : List ℕ → ℕ → ℕ
weight_at loads h = rank_weight (length loads) (link_at loads) (link_at loads h)

pub same_sum : (f g : ℕ → ℕ) (m : ℕ) → ((k : ℕ) → 1 ≤ k → k ≤ m → f k ≡ g k) → sum_to f m ≡ sum_to g m
unfolding sum_to
same_sum f g zero h = refl
same_sum f g (suc m) h = omega (arith, same_sum f g m (λ k a b. h k a (omega arith)), h (suc m) (omega arith) (omega arith))

sum-rises : (f : ℕ → ℕ) (k m : ℕ) → sum_to f k ≤ sum_to f (k + m)
unfolding sum_to
sum-rises f k zero = let e : k + 0 ≡ k = omega arith in rw e (omega arith)
sum-rises f k (suc m) = let e : k + suc m ≡ suc (k + m) = omega arith in rw e (omega (arith, sum-rises f k m))

-- all weights together stay below 2 ^ n, by a load above them all
all-weights : (loads : List ℕ) → sum_to (weight_at loads) (length loads) < 2 ^ length loads
unfolding sum_to
all-weights loads =
    let e : 0 + n ≡ n = omega arith in
    let s = rw e at (sum-to (λ k. cond (ltb (link_at loads k) top) (weight_at loads k) 0) 0 n) in
    omega (
      arith,
      s,
      weights-below n (link_at loads) top,
      weight-counted loads top,
      pow_mono (count_by-le-length (λ x. ltb x top) loads),
      same_sum (weight_at loads) (λ k. cond (ltb (link_at loads k) top) (weight_at loads k) 0) n (λ k a b. rw (lt-ltb (link_at loads k) top (omega (arith, peak-above (link_at loads) n k a b)))),
    )
  where
    n : ℕ
    n = length loads

    top : ℕ
    top = suc (peak (link_at loads) n)

-- where the loop stands: the sums of the first k links, and before them 0
pub record Summing (loads keys : List ℕ) (sum k : ℕ) : Type 0 where
  pub total : sum ≡ sum_to (weight_at loads) k
  pub so_far : (h : ℕ) → h ≤ k → get_or keys h 0 ≡ sum_to (weight_at loads) h

module _ (loads : List ℕ) (few : length loads ≤ desk.nodes) where
  pub sum_start : (keys : List ℕ) → length keys ≡ suc desk.nodes → Summing loads (set keys 0 0) 0 0
  unfolding sum_to
  sum_start keys s = record { total = refl; so_far = λ h l. let e : h ≡ 0 = omega arith in rw e (get_or-set_same keys 0 0 0 (omega arith)) }

  module _ (keys : List ℕ) (sum k w : ℕ) (l : k < length loads) (e : w ≡ rank_weight (length loads) (link_at loads) (get_or loads k 0)) (o : Summing loads keys sum k) where
    next-sum : sum + w ≡ sum_to (weight_at loads) (k + 1)
    unfolding sum_to
    next-sum =
        let a : k + 1 ≡ suc k = omega arith in
        let b : suc k - 1 ≡ k = omega arith in
        rw (a, b) (omega (arith, o.total))

    pub sum_fits : Fits w64 (sum + w)
    sum_fits =
        let a : (k + 1) + (length loads - (k + 1)) ≡ length loads = omega arith in
        let rise = rw a at (sum-rises (weight_at loads) (k + 1) (length loads - (k + 1))) in
        omega (arith, next-sum, rise, all-weights loads, pow_mono few)

    pub sum_turn : length keys ≡ suc desk.nodes → Summing loads (set keys (k + 1) (sum + w)) (sum + w) (k + 1)
    sum_turn size =
        record {
          total = next-sum;
          so_far = λ h m. elim (ℕ_discrete h (k + 1)) [
            | yes q ↦ rw q (get_or-set_same keys (k + 1) (sum + w) 0 (omega arith) ∙ next-sum)
            | no q ↦ get_or-set_other keys (k + 1) h (sum + w) 0 q ∙ o.so_far h (omega arith)
          ];
        }

  pub sum_done : (keys : List ℕ) (sum k : ℕ) → length loads ≤ k → Summing loads keys sum k → Keys (length loads) (link_at loads) keys
  sum_done keys sum k l o = record { is = λ h m. o.so_far h (omega arith) }

-- ---- a path's sum

module _ (w : ℕ → ℕ) (r : Demand) where
  abbrev front_sum : ℕ → ℕ
  front_sum m = sum_to (λ k. cond (in_front r k) (w k) 0) m

  abbrev back_sum : ℕ → ℕ
  back_sum m = sum_to (λ k. cond (not (in_front r k)) (w k) 0) m

  before-sum : (m : ℕ) → m < r.first → front_sum m ≡ 0
  unfolding sum_to
  before-sum zero l = refl
  before-sum (suc m) l = rw (before-front r (suc m) l) (omega (arith, before-sum m (omega arith)))

  inside-sum : (m : ℕ) → 1 ≤ r.first → r.first ≤ suc m → m < r.second → front_sum m + sum_to w (r.first - 1) ≡ sum_to w m
  unfolding sum_to
  inside-sum zero low l h = let e : r.first - 1 ≡ 0 = omega arith in rw e
  inside-sum (suc m) low l h =
      elim (dec_le r.first (suc m)) [
        | yes a ↦ rw (in-front r (suc m) a h) (omega (arith, inside-sum m low a (omega arith)))
        | no a ↦ let e : r.first - 1 ≡ suc m = omega arith in rw e (omega (arith, before-sum (suc m) (omega arith)))
      ]

  after-sum : (m : ℕ) → r.second ≤ suc m → front_sum m ≡ front_sum (r.second - 1)
  unfolding sum_to
  after-sum zero l = let e : r.second - 1 ≡ 0 = omega arith in rw e
  after-sum (suc m) l =
      elim (dec_le r.second (suc m)) [
        | yes a ↦ rw (after_front r (suc m) a) (omega (arith, after-sum m a))
        | no a ↦ let e : r.second - 1 ≡ suc m = omega arith in rw e
      ]

  both_sums : (m : ℕ) → back_sum m + front_sum m ≡ sum_to w m
  unfolding sum_to
  both_sums zero = refl
  both_sums (suc m) = go (in_front r (suc m)) (both_sums m)
    where
      go : (b : Bool) → back_sum m + front_sum m ≡ sum_to w m → (back_sum m + cond (not b) (w (suc m)) 0) + (front_sum m + cond b (w (suc m)) 0) ≡ sum_to w m + w (suc m)
      go true on = omega arith
      go false on = omega arith

  -- over a ring of n links
  pub front-sum : (n : ℕ) → OnRing n r → front_sum n + sum_to w (r.first - 1) ≡ sum_to w (r.second - 1)
  front-sum n on = omega (arith, after-sum n (omega (arith, on.high)), inside-sum (r.second - 1) on.low (omega (arith, on.order)) (omega (arith, on.order)))

module _ (s : Inside) (now : List ℕ) (is : loads_in s ≡ now) (all : Figured s) (r : Routed) (on : OnRing (length now) r.sent.demand) where
  abbrev n : ℕ
  n = length now

  abbrev w : ℕ → ℕ
  w h = weight_at now h

  abbrev demand : Demand
  demand = r.sent.demand

  abbrev key : ℕ → ℕ
  key k = get_or s.keys k 0

  -- the two marks, and all
  at_first : key (demand.first - 1) ≡ sum_to w (demand.first - 1)
  at_first = (keys_are s now is all).is (demand.first - 1) (omega (arith, on.order, on.high))

  at_second : key (demand.second - 1) ≡ sum_to w (demand.second - 1)
  at_second = (keys_are s now is all).is (demand.second - 1) (omega (arith, on.high))

  at_n : key s.links ≡ sum_to w n
  at_n = rw (links_are s now is all) ((keys_are s now is all).is n (omega arith))

  pub key_order : key (demand.first - 1) ≤ key (demand.second - 1)
  key_order = omega (arith, at_first, at_second, front-sum w demand n on)

  pub key_rest : key (demand.second - 1) - key (demand.first - 1) ≤ key s.links
  key_rest = omega (arith, at_first, at_second, at_n, front-sum w demand n on, both_sums w demand n)

  pub key_front : r.way ≡ Front → key (demand.second - 1) - key (demand.first - 1) ≡ path_key n (link_at now) r
  unfolding path_key
  key_front e = rw e (omega (arith, at_first, at_second, front-sum w demand n on))

  pub key_back : r.way ≡ Back → key s.links - (key (demand.second - 1) - key (demand.first - 1)) ≡ path_key n (link_at now) r
  unfolding path_key
  key_back e = rw e (omega (arith, at_first, at_second, at_n, front-sum w demand n on, both_sums w demand n))

-- ---- the peak's weight

-- the peak is one of the loads
pub peak_load : (loads : List ℕ) (top : ℕ) → 1 ≤ length loads → top ≡ peak (link_at loads) (length loads) → LoadOf loads top
peak_load loads top some e = let a = peak-attained (link_at loads) (length loads) some in record { place = a.link - 1; within = omega (arith, a.low, a.high); is = a.is ∙ sym e }

sum-above : (f : ℕ → ℕ) (k m : ℕ) → 1 ≤ k → k ≤ m → f k ≤ sum_to f m
unfolding sum_to
sum-above f k zero a b = absurd (omega arith)
sum-above f k (suc m) a b = elim (ℕ_discrete k (suc m)) [ yes e ↦ rw e (omega arith) | no e ↦ omega (arith, sum-above f k m a (omega arith)) ]

module _ (s : Inside) (now : List ℕ) (is : loads_in s ≡ now) (all : Figured s) (top : ℕ) (some : 1 ≤ length now) (t : top ≡ peak (link_at now) (length now)) (w : ℕ) (e : w ≡ rank_weight (length now) (link_at now) top) where
  every : get_or s.keys s.links 0 ≡ all_weights (length now) (link_at now)
  every = rw (links_are s now is all) ((keys_are s now is all).is (length now) (omega arith))

  within : w ≤ all_weights (length now) (link_at now)
  within =
      let a = peak-attained (link_at now) (length now) some in
      let h = rw (a.is, ← t, ← e) at (sum-above (weight_at now) a.link (length now) a.low a.high) in
      h

  pub peak_fits : w ≤ get_or s.keys s.links 0
  peak_fits = omega (arith, every, within)

  pub peak_left : (get_or s.keys s.links 0 - w) + w ≡ all_weights (length now) (link_at now)
  peak_left = omega (arith, every, within)

sum-most-to : (f g : ℕ → ℕ) (m : ℕ) → ((k : ℕ) → 1 ≤ k → k ≤ m → f k ≤ g k) → sum_to f m ≤ sum_to g m
unfolding sum_to
sum-most-to f g zero h = omega arith
sum-most-to f g (suc m) h = omega (arith, sum-most-to f g m (λ k a b. h k a (omega arith)), h (suc m) (omega arith) (omega arith))

-- a figure's sum over links with a property, and over all others
sum-apart : (f : ℕ → ℕ) (has : ℕ → Bool) (m : ℕ) → sum_to (λ k. cond (has k) (f k) 0) m + sum_to (λ k. cond (has k) 0 (f k)) m ≡ sum_to f m
unfolding sum_to
sum-apart f has zero = refl
sum-apart f has (suc m) = go (has (suc m)) (sum-apart f has m)
  where
    some : ℕ
    some = sum_to (λ k. cond (has k) (f k) 0) m

    others : ℕ
    others = sum_to (λ k. cond (has k) 0 (f k)) m

    go : (b : Bool) → some + others ≡ sum_to f m → (some + cond b (f (suc m)) 0) + (others + cond b 0 (f (suc m))) ≡ sum_to f m + f (suc m)
    go true on = omega arith
    go false on = omega arith

-- where no link off a row's path has the peak, the weights off it are together below that of the peak
pub heavy-path : (n : ℕ) (load : ℕ → ℕ) (r : Routed) → off_top n load r < peak load n → all_weights n load < path_key n load r + rank_weight n load (peak load n)
unfolding off_top path_key sum_to
heavy-path n load r less =
    let e : 0 + n ≡ n = omega arith in
    let s = rw e at (sum-to below 0 n) in
    omega (arith, sum-apart w (on_path r) n, sum-most-to off below n (λ k a b. each k a b (on_path r k) refl), s, weights-below n load top)
  where
    top : ℕ
    top = peak load n

    w : ℕ → ℕ
    w k = rank_weight n load (load k)

    below : ℕ → ℕ
    below k = cond (ltb (load k) top) (w k) 0

    off : ℕ → ℕ
    off k = cond (on_path r k) 0 (w k)

    each : (k : ℕ) → 1 ≤ k → k ≤ n → (b : Bool) → on_path r k ≡ b → off k ≤ below k
    each k a b true e = rw e (omega arith)
    each k a b false e =
        let h = rw e at (peak-above (λ k. cond (on_path r k) 0 (load k)) n k a b) in
        rw (e, lt-ltb (load k) top (omega (arith, h))) (omega arith)

-- ---- the laws of each function

pub ruleset below_laws = (peak_load, peak_fits, peak_left)

pub ruleset key_laws = (key_order, key_rest, key_front, key_back)
