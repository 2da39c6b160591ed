-- The scan over the rows ends with the row that is chosen: it holds the best of the rows passed whose turn lowers the peak.
use Rattle.std.proofs.Common.{◌≡◌, ℕ, zero, suc, ◌+◌, ◌≤◌, ◌<◌, Bool, true, false, ◌&&◌, cond, List, [], ◌∷◌, ◌++◌, refl, sym, ap, ◌∙◌, arith, ltb, Option, Some, None, slice_get, length, take}
use borrow.Author.Tests.{lt-ltb, le-ltb, ltb-true}
use Rattle.std.proofs.lemmas.List.{take_more, take_all, length-take}
use Rattle.std.proofs.lemmas.Option.{get_or_from_slice_get, slice_get_within}
use Rattle.ring.specs.declared.types.Routed.{Routed}
use Rattle.ring.specs.Demand.{OnRing}
use Rattle.ring.specs.Routing.{unsplit_load, peak}
use Rattle.ring.specs.Sheet.{sents, demands, numbers_from}
use Rattle.weight.specs.LinkSteps.{link_at}
use Rattle.across.specs.Filled.{DemandsFit}
use Rattle.turns.specs.declared.pick.BestRow.{BestRow}
use Rattle.turns.specs.Turns.{peak_of, on_path, PlacedRow, placed_row, placed_from, stands_before, falling_rows, lowers, choice}
use Rattle.turns.specs.Choosing.{off_top, lowers_by, rank_weight_in, rank_weight, path_key, all_weights}
use Rattle.turns.specs.Picks.{Picks}
use Rattle.turns.specs.TurnedLoads.{Carries}
use Rattle.turns.proofs.InOrder.{scan, joined, first-in-order, scan-more}
use Rattle.turns.proofs.Smaller.{not-both, chain, later-stands}
use Rattle.turns.proofs.Lowering.{at-place, lowers-by}
use Rattle.turns.proofs.KeySteps.{same_sum, heavy-path}
use Rattle.turns.proofs.Weights.{smaller-key}
use Rattle.turns.proofs.RowsFit.{row-fits}

-- a row at a place takes the place of the one that is kept where its number is larger and its turn lowers the peak
unfoldable pub considered : ℕ → (ℕ → ℕ) → ℕ → BestRow → ℕ → Routed → BestRow
considered n load top best place r =
    let key = path_key n load r in
    cond (ltb best.key key && lowers_by (off_top n load r) r.sent.demand.amount top) (record { place = Some place; key = key }) best

-- ---- figures look at the ring's links alone

module _ (n : ℕ) (f g : ℕ → ℕ) (same : (k : ℕ) → 1 ≤ k → k ≤ n → f k ≡ g k) where
  pub same-peak : (a b : ℕ → ℕ) (m : ℕ) → ((k : ℕ) → 1 ≤ k → k ≤ m → a k ≡ b k) → peak a m ≡ peak b m
  unfolding peak
  same-peak a b zero h = refl
  same-peak a b (suc m) h = omega (arith, same-peak a b m (λ k p q. h k p (omega arith)), h (suc m) (omega arith) (omega arith))

  same-weight : (v s m : ℕ) → 1 ≤ s → s + m ≤ n + 1 → rank_weight_in f v (numbers_from s m) ≡ rank_weight_in g v (numbers_from s m)
  unfolding rank_weight_in numbers_from
  same-weight v s zero a b = refl
  same-weight v s (suc m) a b = rw (same s a (omega arith), same-weight v (suc s) m (omega arith) (omega arith))

  same-off : (r : Routed) → off_top n f r ≡ off_top n g r
  unfolding off_top
  same-off r = same-peak (λ k. cond (on_path r k) 0 (f k)) (λ k. cond (on_path r k) 0 (g k)) n (λ k a b. ap (λ x. cond (on_path r k) 0 x) (same k a b))

  same_key : (r : Routed) → path_key n f r ≡ path_key n g r
  unfolding path_key
  same_key r =
      same_sum (λ k. cond (on_path r k) (rank_weight n f (f k)) 0) (λ k. cond (on_path r k) (rank_weight n g (g k)) 0) n
      (λ k a b. ap (λ x. cond (on_path r k) x 0) (ap (rank_weight n f) (same k a b) ∙ same-weight (g k) 1 n (omega arith) (omega arith)))

  same_all : all_weights n f ≡ all_weights n g
  same_all =
      same_sum (λ k. rank_weight n f (f k)) (λ k. rank_weight n g (g k)) n (λ k a b. ap (rank_weight n f) (same k a b) ∙ same-weight (g k) 1 n (omega arith) (omega arith))

  pub same-considered : (top : ℕ) (best : BestRow) (place : ℕ) (r : Routed) → considered n f top best place r ≡ considered n g top best place r
  unfolding considered
  same-considered top best place r = rw (same-off r, same_key r)

pub top_peak : (rs : List Routed) (loads : List ℕ) (x : ℕ) → Carries (unsplit_load rs) loads → x ≡ peak (link_at loads) (length loads) → x ≡ peak_of (length loads) rs
unfolding peak_of
top_peak rs loads x c e = e ∙ same-peak (length loads) (link_at loads) (unsplit_load rs) c.is (link_at loads) (unsplit_load rs) (length loads) c.is

-- ---- a row beside the one that is kept

module _ (n : ℕ) (load : ℕ → ℕ) (top : ℕ) (best : BestRow) (place key : ℕ) (r : Routed) (ek : key ≡ path_key n load r) where
  takes : best.key < key → lowers_by (off_top n load r) r.sent.demand.amount top ≡ true → ◌≡◌ {A = BestRow} (record { place = Some place; key = key }) (considered n load top best place r)
  unfolding considered
  takes l f = rw (← ek, lt-ltb best.key key l, f)

  stays-high : best.key < key → lowers_by (off_top n load r) r.sent.demand.amount top ≡ false → best ≡ considered n load top best place r
  unfolding considered
  stays-high l f = rw (← ek, lt-ltb best.key key l, f)

  stays-ahead : key ≤ best.key → best ≡ considered n load top best place r
  unfolding considered
  stays-ahead l = rw (← ek, le-ltb best.key key l)

lowers-under : (off amount top : ℕ) → lowers_by off amount top ≡ true → off < top
lowers-under off amount top e = go (ltb 0 amount) (ltb (off + amount) top) refl e
  where
    go : (x y : Bool) → ltb (off + amount) top ≡ y → x && y ≡ true → off < top
    go true true f g = omega (arith, ltb-true (off + amount) top f)
    go true false f g = cc
    go false y f g = cc

-- ---- the scan

placed-more : (k : ℕ) (l : List Routed) (r : Routed) (p : ℕ) → p ≡ k + length l → placed_from k (l ++ r ∷ []) ≡ placed_from k l ++ placed_row p r ∷ []
unfolding placed_from
placed-more k [] r p e = let s : p ≡ k = omega arith in rw s
placed-more k (q ∷ l) r p e = ap (λ z. placed_row k q ∷ z) (placed-more (suc k) l r p (omega arith))

module _ (n : ℕ) (rs : List Routed) where
  abbrev load : ℕ → ℕ
  load k = unsplit_load rs k

  abbrev key : Routed → ℕ
  key r = path_key n load r

  abbrev found_to : ℕ → Option PlacedRow
  found_to t = scan (stands_before n load) (lowers n rs) (placed_from 0 (take t rs))

  -- what is kept is what the scan has found, of the first t rows
  pub data Found (t : ℕ) : BestRow → Option PlacedRow → Type 0 where
    nobody : (below : ℕ) → below + rank_weight n load (peak_of n rs) ≡ all_weights n load → Found t (record { place = None; key = below }) None
    somebody : (place k : ℕ) (r : Routed) → place < t → slice_get rs place ≡ Some r → k ≡ key r → Found t (record { place = Some place; key = k }) (Some (placed_row place r))

  -- where the scan stands: the first t rows are passed
  abbrev pub Picking : BestRow → ℕ → Type 0
  Picking best t = Found t best (found_to t)

  module _ (best : BestRow) (t top : ℕ) (r : Routed) (is-top : top ≡ peak_of n rs) (at : slice_get rs t ≡ Some r) (on : OnRing n r.sent.demand) (o : Picking best t) where
    -- the row's turn, by numbers
    turn-lowers : lowers n rs (placed_row t r) ≡ lowers_by (off_top n load r) r.sent.demand.amount top
    turn-lowers = rw is-top (lowers-by n rs t r (at-place rs t r at) on (placed_row t r) refl)

    one_more : found_to (t + 1) ≡ cond (lowers n rs (placed_row t r)) (joined (stands_before n load) (found_to t) (placed_row t r)) (found_to t)
    one_more =
        let in-rows = slice_get_within rs t r at in
        let more = take_more rs t r in-rows ∙ ap (λ (x : Routed). take t rs ++ x ∷ []) (get_or_from_slice_get rs t r r at) in
        ap (λ l. scan (stands_before n load) (lowers n rs) (placed_from 0 l)) more ∙
        (ap (λ l. scan (stands_before n load) (lowers n rs) l) (placed-more 0 (take t rs) r t (omega (arith, length-take t rs, in-rows))) ∙
        scan-more (stands_before n load) (not-both n load) (chain n load) (lowers n rs) (placed_from 0 (take t rs)) (placed_row t r))

    abbrev new : BestRow
    new = record { place = Some t; key = key r }

    later : {best : BestRow} {found : Option PlacedRow} → Found t best found → Found (t + 1) best found
    later (nobody k e) = nobody k e
    later (somebody p k q a b c) = somebody p k q (omega arith) b c

    -- a row whose turn lowers the peak has all links on its path that carry it
    heavy : lowers_by (off_top n load r) r.sent.demand.amount top ≡ true → all_weights n load < key r + rank_weight n load (peak_of n rs)
    unfolding peak_of
    heavy e = heavy-path n load r (rw is-top at (lowers-under (off_top n load r) r.sent.demand.amount top e))

    -- the better of the two, by their numbers, is the one that stands before the other
    beside : all_weights n load < key r + rank_weight n load (peak_of n rs) → {best : BestRow} {found : Option PlacedRow} → Found t best found → Found (t + 1) (cond (ltb best.key (key r)) new best) (joined (stands_before n load) found (placed_row t r))
    unfolding joined
    beside h (nobody k e) = rw (lt-ltb k (key r) (omega arith)) (somebody t (key r) r (omega arith) at refl)
    beside h (somebody p k q a b c) =
        go (ltb k (key r)) refl (later-stands n load (placed_row p q) (placed_row t r) (omega arith) ∙ (smaller-key n load q r ∙ (rw c)))
      where
        go : (x : Bool) → ltb k (key r) ≡ x → stands_before n load (placed_row t r) (placed_row p q) ≡ ltb k (key r) →
            Found (t + 1) (cond (ltb k (key r)) new (record { place = Some p; key = k })) (cond (stands_before n load (placed_row t r) (placed_row p q)) (Some (placed_row t r)) (Some (placed_row p q)))
        go true e f = rw (f, e) (somebody t (key r) r (omega arith) at refl)
        go false e f = rw (f, e) (somebody p k q (omega arith) b c)

    turn : (z : BestRow) → z ≡ considered n load top best t r → Picking z (t + 1)
    unfolding considered
    turn z e = go (lowers_by (off_top n load r) r.sent.demand.amount top) refl turn-lowers (ltb best.key (key r)) refl e
      where
        go : (x : Bool) → lowers_by (off_top n load r) r.sent.demand.amount top ≡ x → lowers n rs (placed_row t r) ≡ x → (y : Bool) → ltb best.key (key r) ≡ y → z ≡ cond (ltb best.key (key r) && x) new best → Picking z (t + 1)
        go true d f true g e = rw (rw g at e, one_more, f) (rw g at (beside (heavy d) o))
        go true d f false g e = rw (rw g at e, one_more, f) (rw g at (beside (heavy d) o))
        go false d f true g e = rw (rw g at e, one_more, f) (later o)
        go false d f false g e = rw (rw g at e, one_more, f) (later o)

-- ---- row after row

pub pick_start : (rs : List Routed) (loads : List ℕ) (top below : ℕ) → Carries (unsplit_load rs) loads → top ≡ peak (link_at loads) (length loads) → below + rank_weight (length loads) (link_at loads) top ≡ all_weights (length loads) (link_at loads) →
    Picking (length loads) rs (record { place = None; key = below }) 0
unfolding scan placed_from
pick_start rs loads top below c t e =
    let n : ℕ = length loads in
    let weight : rank_weight n (link_at loads) top ≡ rank_weight n (unsplit_load rs) (peak_of n rs) =
    same-weight n (link_at loads) (unsplit_load rs) c.is top 1 n (omega arith) (omega arith) ∙ ap (rank_weight n (unsplit_load rs)) (top_peak rs loads top c t) in
    nobody below (omega (arith, e, weight, same_all n (link_at loads) (unsplit_load rs) c.is))

module _ (rs : List Routed) (loads : List ℕ) (count : ℕ) (best : BestRow) (fit : DemandsFit (length loads) (demands (sents rs))) (o : Picking (length loads) rs best count) where
  module _ (r : Routed) (here : slice_get rs count ≡ Some r) where
    pub pick_on : OnRing (length loads) r.sent.demand
    pick_on = (row-fits (length loads) rs fit count r here).on

    pick-turn : (top : ℕ) (z : BestRow) → Carries (unsplit_load rs) loads → top ≡ peak (link_at loads) (length loads) → z ≡ considered (length loads) (link_at loads) top best count r →
        Picking (length loads) rs z (count + 1)
    pick-turn top z c t q =
        let n : ℕ = length loads in
        turn n rs best count top r (top_peak rs loads top c t) here pick_on o z (q ∙ same-considered n (link_at loads) (unsplit_load rs) c.is top best count r)

    module _ (c : Carries (unsplit_load rs) loads) (top : ℕ) (t : top ≡ peak (link_at loads) (length loads)) (key : ℕ) (ek : key ≡ path_key (length loads) (link_at loads) r) where
      pub pick_ahead : key ≤ best.key → Picking (length loads) rs best (count + 1)
      pick_ahead l = pick-turn top best c t (stays-ahead (length loads) (link_at loads) top best count key r ek l)

      -- the row is read again
      module _ (l : best.key < key) (q : Routed) (again : slice_get rs count ≡ Some q) (b : Bool) (e : b ≡ lowers_by (off_top (length loads) (link_at loads) q) q.sent.demand.amount top) where
        same : q ≡ r
        same = cc

        pub pick_takes : b ≡ true → Picking (length loads) rs (record { place = Some count; key = key }) (count + 1)
        pick_takes f = pick-turn top _ c t (takes (length loads) (link_at loads) top best count key r ek l (rw same at (sym e ∙ f)))

        pub pick_high : b ≡ false → Picking (length loads) rs best (count + 1)
        pick_high f = pick-turn top _ c t (stays-high (length loads) (link_at loads) top best count key r ek l (rw same at (sym e ∙ f)))

  pub pick_done : length rs ≤ count → Picks (length loads) rs best.place
  unfolding choice falling_rows
  pick_done l = go best _ (rw (take_all count rs l) at o) (first-in-order (stands_before n (load n rs)) (not-both n (load n rs)) (chain n (load n rs)) (lowers n rs) (placed_from 0 rs))
    where
      n : ℕ
      n = length loads

      go : (best : BestRow) (found : Option PlacedRow) → Found n rs count best found → choice n rs ≡ found → Picks n rs best.place
      go _ _ (nobody k h) e = e
      go _ _ (somebody p k r a at h) e = record { row = r; at = at; is = e }
