-- A row is turned back in the loads of the ring's links; and what is held for the rows behind it.
use Rattle.std.proofs.Common.{◌≡◌, ℕ, suc, ◌+◌, ◌-◌, ◌*◌, ◌^◌, ◌≤◌, ◌<◌, Bool, true, false, cond, max, List, [], ◌∷◌, ◌++◌, length, take, get_or, refl, sym, ap, subst, ◌∙◌, arith}
use native.Mathlib.Nat.{pow-suc}
use Rattle.std.proofs.lemmas.List.{get_or_default, get_or-take, length-take, take-append-le, take_all}
use Rattle.ring.specs.declared.types.Demand.{Demand}
use Rattle.ring.specs.Demand.{in_front, OnRing}
use Rattle.ring.specs.Lists.{Each, none, more}
use Rattle.ring.specs.Routing.{peak}
use Rattle.ring.proofs.Peaks.{same-peak}
use Rattle.weight.specs.Limits.{load_bound}
use Rattle.weight.specs.LinkSteps.{link_at, OverFits, OverStep}
use Rattle.best.specs.Tries.{better_of, back_over, tried_in, ahead_of, amounts_of, Turnable, TurnedBack}
use Rattle.best.specs.declared.tries.Tried.{Tried}

-- the largest load, link after link
pub peak_turn : (loads : List ℕ) (k most load z : ℕ) → most ≡ peak (link_at loads) k → load ≡ get_or loads k 0 → z ≡ max most load → z ≡ peak (link_at loads) (k + 1)
unfolding peak
peak_turn loads k most load z o e f = let a : k + 1 ≡ suc k = omega arith in let b : suc k - 1 ≡ k = omega arith in rw a (f ∙ (rw (o, e, b) refl))

module _ (n : ℕ) (loads : List ℕ) (long : n ≤ length loads) where
  abbrev line : List ℕ
  line = take n loads

  length-line : length line ≡ n
  length-line = omega (arith, length-take n loads)

  line-here : (x d : ℕ) → x < n → get_or line x d ≡ link_at loads (x + 1)
  line-here x d l =
      let i : (x + 1) - 1 ≡ x = omega arith in
      rw i (get_or_default line x d 0 (omega (arith, length-line)) ∙ get_or-take n loads x 0 l)

  -- the peak of the ring's links
  pub line_peak : (p : ℕ) → p ≡ peak (link_at line) (length line) → p ≡ peak (link_at loads) n
  line_peak p e = e ∙ (rw length-line (same-peak (link_at line) (link_at loads) n (λ k a b. let i : (k - 1) + 1 ≡ k = omega arith in rw i at (line-here (k - 1) 0 (omega arith)))))

  -- no load falls below 0, and none grows too large
  pub back_fits : (r : Demand) {ahead behind : ℕ → Type 0} → Turnable n (r ∷ []) loads → ((x : ℕ) → r.amount ≤ x → ahead x) → ((x : ℕ) → x + r.amount ≤ load_bound → behind x) → OverFits ahead behind r line
  unfolding ahead_of amounts_of
  back_fits r t p q =
      record {
        on = rw length-line (on t.on);
        ahead = λ x d l e. p _ (let h = t.ahead (x + 1) (omega arith) (omega (arith, length-line)) in let g = rw e at h in omega (arith, g, line-here x d (omega (arith, length-line))));
        behind = λ x d l e. q _ (omega (arith, t.room (x + 1) (omega arith) (omega (arith, length-line)), line-here x d (omega (arith, length-line))));
      }
    where
      on : Each (OnRing n) (r ∷ []) → OnRing n r
      on (more h hs) = h

  pub back_is : (r : Demand) (part rest new : List ℕ) → new ≡ part ++ rest → {ahead behind : ℕ → ℕ → Type 0} → ((x y : ℕ) → ahead x y → y ≡ x - r.amount) → ((x y : ℕ) → behind x y → y ≡ x + r.amount)
      → OverStep ahead behind r line part → TurnedBack n r loads new
  unfolding back_over
  back_is r part rest new is {ahead = ahead} {behind = behind} p q s =
      record {
        is = λ k a b.
            let e : (k - 1) + 1 ≡ k = omega arith in
            seen k a b ∙ (rw e at (each (k - 1) (omega arith) (in_front r ((k - 1) + 1)) refl));
      }
    where
      size : length part ≡ n
      size = s.size ∙ length-line

      seen : (k : ℕ) → 1 ≤ k → k ≤ n → link_at new k ≡ get_or part (k - 1) 0
      seen k a b = rw is (sym (get_or-take n (part ++ rest) (k - 1) 0 (omega arith)) ∙ ap (λ (l : List ℕ). get_or l (k - 1) 0) (take-append-le n part rest (omega (arith, size)) ∙ take_all n part (omega (arith, size))))

      each : (x : ℕ) → x < n → (f : Bool) → in_front r (x + 1) ≡ f → get_or part x 0 ≡ back_over r (link_at loads) (x + 1)
      each x l true e = p _ _ (s.ahead x 0 (omega (arith, length-line)) e) ∙ (rw (e, line-here x 0 l) refl)
      each x l false e = q _ _ (s.behind x 0 (omega (arith, length-line)) e) ∙ (rw (e, line-here x 0 l) refl)

-- ---- the rows behind the first

module _ {n : ℕ} {r : Demand} {rs ss : List Demand} {loads : List ℕ} (is : ss ≡ r ∷ rs) (held : Turnable n ss loads) where
  all-held : Turnable n (r ∷ rs) loads
  all-held = subst (λ ss. Turnable n ss loads) is held

  first-on : Each (OnRing n) (r ∷ rs) → OnRing n r
  first-on (more h hs) = h

  rest-on : Each (OnRing n) (r ∷ rs) → Each (OnRing n) rs
  rest-on (more h hs) = hs

  pub first_held : Turnable n (r ∷ []) loads
  unfolding ahead_of amounts_of
  first_held =
      record {
        few = held.few;
        on = more (first-on all-held.on) none;
        ahead = λ k a b. omega (arith, all-held.ahead k a b);
        room = λ k a b. omega (arith, all-held.room k a b);
      }

  pub front_held : Turnable n rs loads
  unfolding ahead_of amounts_of
  front_held =
      record {
        few = held.few;
        on = rest-on all-held.on;
        ahead = λ k a b. omega (arith, all-held.ahead k a b);
        room = λ k a b. omega (arith, all-held.room k a b);
      }

  pub back_held : {new : List ℕ} → TurnedBack n r loads new → Turnable n rs new
  unfolding ahead_of amounts_of back_over
  back_held {new} t =
      record {
        few = held.few;
        on = rest-on all-held.on;
        ahead = λ k a b. ahead _ _ _ (in_front r k) (t.is k a b) (all-held.ahead k a b);
        room = λ k a b. room _ _ _ _ (in_front r k) (t.is k a b) (all-held.room k a b) (all-held.ahead k a b);
      }
    where
      ahead : (x y z : ℕ) (f : Bool) → y ≡ cond f (x - r.amount) (x + r.amount) → cond f r.amount 0 + z ≤ x → z ≤ y
      ahead x y z true e l = omega (arith, e, l)
      ahead x y z false e l = omega (arith, e, l)

      room : (x y z w : ℕ) (f : Bool) → y ≡ cond f (x - r.amount) (x + r.amount) → x + (r.amount + z) ≤ load_bound → cond f r.amount 0 + w ≤ x → y + z ≤ load_bound
      room x y z w true e l h = omega (arith, e, l, h)
      room x y z w false e l h = omega (arith, e, l, h)

module _ {r : Demand} {rs ss : List Demand} (is : ss ≡ r ∷ rs) (c most : ℕ) (few : (c + 1) * 2 ^ length ss ≤ most) where
  doubled : (c + 1) * (2 ^ length rs * 2) ≤ most
  doubled = let e : 2 ^ length ss ≡ 2 ^ length rs * 2 = ap (λ (l : List Demand). 2 ^ length l) is ∙ pow-suc 2 (length rs) in rw e at few

  pub front_few : (2 * c + 1) * 2 ^ length rs ≤ most
  front_few = omega (arith, doubled)

  pub back_few : (2 * c + 1 + 1) * 2 ^ length rs ≤ most
  back_few = omega (arith, doubled)

-- ---- the best does not depend on loads of no link

pub tried-same : (n : ℕ) (f g : ℕ → ℕ) → ((k : ℕ) → 1 ≤ k → k ≤ n → f k ≡ g k) → (rs : List Demand) (c : ℕ) (b : Tried) → tried_in n f rs c b ≡ tried_in n g rs c b
unfolding tried_in back_over
tried-same n f g h [] c b = ap (λ p. better_of b (record { peak = p; choice = c })) (same-peak f g n h)
tried-same n f g h (r ∷ rs) c b =
    ap (λ x. tried_in n (back_over r f) rs (2 * c + 1) x) (tried-same n f g h rs (2 * c) b)
    ∙ tried-same n (back_over r f) (back_over r g) (λ k a l. let e = h k a l in rw e refl) rs (2 * c + 1) (tried_in n g rs (2 * c) b)

pub leaf_is : (n : ℕ) (loads : List ℕ) (long : n ≤ length loads) (ss : List Demand) (c : ℕ) (b x : Tried) → length ss ≡ 0 → (p : ℕ) → p ≡ peak (link_at (take n loads)) (length (take n loads)) → x ≡ better_of b (record { peak = p; choice = c }) → x ≡ tried_in n (link_at loads) ss c b
unfolding tried_in
leaf_is n loads long [] c b x z p e f = f ∙ ap (λ p. better_of b (record { peak = p; choice = c })) (line_peak n loads long p e)
leaf_is n loads long (s ∷ ss) c b x z p e f = absurd (omega (arith, z))

pub node_is : (n : ℕ) (loads new : List ℕ) (r : Demand) (rs ss : List Demand) (c : ℕ) (b x y : Tried) → ss ≡ r ∷ rs → TurnedBack n r loads new → x ≡ tried_in n (link_at loads) rs (2 * c) b → y ≡ tried_in n (link_at new) rs (2 * c + 1) x
    → y ≡ tried_in n (link_at loads) ss c b
unfolding tried_in
node_is n loads new r rs ss c b x y is t e f = rw is (f ∙ tried-same n (link_at new) (back_over r (link_at loads)) t.is rs (2 * c + 1) x ∙ ap (λ x. tried_in n (back_over r (link_at loads)) rs (2 * c + 1) x) e)
