-- A row is turned in the loads of its links, and the loads are then those of the rows with it turned.
use Rattle.std.proofs.Common.{◌≡◌, ℕ, zero, suc, ◌+◌, ◌-◌, ◌≤◌, ◌<◌, Bool, true, false, cond, List, [], ◌∷◌, ◌++◌, Some, slice_get, length, take, get_or, set, refl, ap, ◌∙◌, arith}
use Rattle.std.proofs.lemmas.List.{get_or_default, take-append-le, take_all}
use Rattle.ring.specs.declared.types.Routed.{Routed}
use Rattle.ring.specs.declared.types.Way.{Way}
use Rattle.ring.specs.declared.types.Way.TheVariants.{Front, Back}
use Rattle.ring.specs.Demand.{in_front, OnRing}
use Rattle.ring.specs.Routing.{by_way, unsplit_load}
use Rattle.ring.specs.Sheet.{sents, demands}
use Rattle.weight.specs.Limits.{load_bound}
use Rattle.weight.specs.LinkSteps.{link_at, OverFits, OverStep}
use Rattle.across.specs.Filled.{DemandsFit}
use Rattle.turns.specs.Turns.{on_way, on_path, turned, turn_at, whole, other_way}
use Rattle.turns.specs.TurnedLoads.{Carries, LoadsTurned, RoomFor, PathCarries}
use Rattle.turns.specs.Settles.{TurnsTo}
use Rattle.turns.proofs.Lowering.{at-place, Moved, falls, rises, moved}
use Rattle.turns.proofs.RowsFit.{row-fits, load-most}

-- ---- over the links

-- what becomes of a link's load
abbrev turn_load : ℕ → Bool → ℕ → ℕ
turn_load amount on x = cond on (x - amount) (x + amount)

-- where the front falls by what goes over it and rises by what goes over the back, and the back the other way round
by-way : (w : Way) (front : Bool) (amount x : ℕ) →
    cond front ((x + by_way w 0 amount) - by_way w amount 0) ((x + by_way w amount 0) - by_way w 0 amount) ≡ turn_load amount (on_way w front) x
by-way Front true amount x = omega arith
by-way Front false amount x = omega arith
by-way Back true amount x = omega arith
by-way Back false amount x = omega arith

-- as the figures of a line are changed over the two sides of a demand: how x becomes y where it falls, and where it rises
module _ (r : Routed) (line : List ℕ) where
  abbrev amount : ℕ
  amount = r.sent.demand.amount

  load-here : (x d : ℕ) → x < length line → get_or line x d ≡ link_at line (x + 1)
  load-here x d l = let i : (x + 1) - 1 ≡ x = omega arith in rw i (get_or_default line x d 0 l)

  -- no sum grows too large, no load falls below 0
  module _ (on : OnRing (length line) r.sent.demand) (room : RoomFor amount line) (path : PathCarries r line) where
    can-fall : (x d : ℕ) → x < length line → on_path r (x + 1) ≡ true → amount ≤ get_or line x d
    can-fall x d l e = omega (arith, load-here x d l, path.most (x + 1) (omega arith) (omega arith) e)

    can-rise : (x d : ℕ) → x < length line → get_or line x d + amount ≤ load_bound
    can-rise x d l = omega (arith, load-here x d l, room.sums (x + 1) (omega arith) (omega arith))

    pub turn_fits : {ahead behind : ℕ → Type 0} (front back : ℕ) → front ≡ by_way r.way amount 0 → back ≡ by_way r.way 0 amount →
        ((x : ℕ) → front ≤ x + back → x + back ≤ load_bound → ahead x) → ((x : ℕ) → back ≤ x + front → x + front ≤ load_bound → behind x) → OverFits ahead behind r.sent.demand line
    turn_fits {ahead = ahead} {behind = behind} front back f b p q = go r.way refl
      where
        go : (w : Way) → r.way ≡ w → OverFits ahead behind r.sent.demand line
        go Front w =
            let f' : front ≡ amount = rw w at f in
            let b' : back ≡ 0 = rw w at b in
            record {
              on = on;
              ahead = λ x d l e. p _ (omega (arith, f', b', can-fall x d l (rw (w, e)))) (omega (arith, b', can-rise x d l));
              behind = λ x d l e. q _ (omega (arith, b')) (omega (arith, f', can-rise x d l));
            }
        go Back w =
            let f' : front ≡ 0 = rw w at f in
            let b' : back ≡ amount = rw w at b in
            record {
              on = on;
              ahead = λ x d l e. p _ (omega (arith, f')) (omega (arith, b', can-rise x d l));
              behind = λ x d l e. q _ (omega (arith, f', b', can-fall x d l (rw (w, e)))) (omega (arith, f', can-rise x d l));
            }

  -- what is told of one side, and of the other
  module _ (part rest new : List ℕ) (n : ℕ) (long : length line ≡ n) (is : new ≡ part ++ rest) where
    seen : length part ≡ length line → take n new ≡ part
    seen size = rw is (take-append-le n part rest (omega arith) ∙ take_all n part (omega arith))

    pub turn_is : {ahead behind : ℕ → ℕ → Type 0} (front back : ℕ) → front ≡ by_way r.way amount 0 → back ≡ by_way r.way 0 amount →
        ((x y : ℕ) → ahead x y → y ≡ (x + back) - front) → ((x y : ℕ) → behind x y → y ≡ (x + front) - back) → OverStep ahead behind r.sent.demand line part → LoadsTurned r line (take n new)
    turn_is front back f b p q s =
        rw (seen s.size) record {
          size = s.size;
          is = λ k a b. let e : (k - 1) + 1 ≡ k = omega arith in rw e at (each (k - 1) (omega arith) (in_front r.sent.demand ((k - 1) + 1)) refl);
        }
      where
        each : (x : ℕ) → x < length line → (a : Bool) → in_front r.sent.demand (x + 1) ≡ a → get_or part x 0 ≡ turn_load amount (on_path r (x + 1)) (get_or line x 0)
        each x l true e = p _ _ (s.ahead x 0 l e) ∙ (rw (e, f, b) (by-way r.way true amount (get_or line x 0)))
        each x l false e = q _ _ (s.behind x 0 l e) ∙ (rw (e, f, b) (by-way r.way false amount (get_or line x 0)))

-- ---- the rows

-- a row turned is another in its place
put-turned : (rs : List Routed) (p : ℕ) (r : Routed) → slice_get rs p ≡ Some r → set rs p (turned r) ≡ turn_at p rs
unfolding turn_at
put-turned [] p r e = refl
put-turned (q ∷ rs) zero r e = let same : q ≡ r = cc in rw same
put-turned (q ∷ rs) (suc p) r e = ap (λ (l : List Routed). q ∷ l) (put-turned rs p r e)

module _ (n : ℕ) (rs : List Routed) (fit : DemandsFit n (demands (sents rs))) (loads : List ℕ) (long : length loads ≡ n) (c : Carries (unsplit_load rs) loads) (p : ℕ) (r : Routed) (at : slice_get rs p ≡ Some r) where
  shift : (k : ℕ) → Moved n rs p r (at-place rs p r at) k
  shift k = moved n rs p r (at-place rs p r at) k

  pub turn_on : OnRing (length loads) r.sent.demand
  turn_on = rw long (row-fits n rs fit p r at).on

  pub turn_room : RoomFor r.sent.demand.amount loads
  turn_room = record { sums = λ k a b. omega (arith, c.is k a b, load-most n rs fit k, (row-fits n rs fit p r at).small) }

  pub turn_path : PathCarries r loads
  turn_path = record { most = λ k a b t. elim (shift k) [ falls q f ↦ omega (arith, c.is k a b, f) | rises q f ↦ cc ] }

  pub turn_done : (new : List ℕ) (w : Way) (q : Routed) (rs' : List Routed) → LoadsTurned r loads new → w ≡ other_way r.way → q ≡ whole r.sent.demand w → rs' ≡ set rs p q → TurnsTo p rs rs' loads new
  turn_done new w q rs' s a b e =
      let is = (rw (b, a) at e) ∙ put-turned rs p r at in
      record { is = is; size = s.size; carries = rw is (record { is = λ k a b. let h : k ≤ length loads = rw s.size at b in one k (shift k) (s.is k a h) (c.is k a h) }) }
    where
      one : (k : ℕ) → Moved n rs p r (at-place rs p r at) k → link_at new k ≡ turn_load r.sent.demand.amount (on_path r k) (link_at loads k) → link_at loads k ≡ unsplit_load rs k → link_at new k ≡ unsplit_load (turn_at p rs) k
      one k (falls e f) q w = let q' = rw e at q in omega arith
      one k (rises e f) q w = let q' = rw e at q in omega arith

-- ---- the laws of `turn_row`

pub ruleset row_laws = (turn_on, turn_room, turn_path, turn_done)
