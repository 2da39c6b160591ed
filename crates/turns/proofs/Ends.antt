-- Each turn that is taken lowers the peak, so the turns end, there are at most first peak less last peak of them, and no single turn lowers the
-- peak where they end; of the starts the answer has the least peak, the smallest link winning ties.
use Rattle.std.specs.Prelude.{Option, Some, None}
use Prim.Native.Nat.{ℕ, zero, suc, ◌+◌, ◌-◌, ◌*◌, ◌≤◌, ◌<◌}
use mathlib.Core.Bool.{false}
use mathlib.Core.List.{List, [], ◌∷◌}
use mathlib.Core.Path.{◌≡◌, refl, ap, ◌∙◌}
use native.Mathlib.Omega.{arith}
use native.Mathlib.Decide.{dec_lt, ℕ_discrete}
use lib.ListN.{length}
use borrow.Author.Tests.{ltb-true, ltb-false, le-ltb}
use Rattle.ring.specs.Lists.{Each, none, more}
use Rattle.ring.specs.declared.types.Demand.{Demand}
use Rattle.ring.specs.declared.types.Routed.{Routed}
use Rattle.ring.specs.Sheet.{sents, demands}
use Rattle.turns.specs.Turns.{peak_of, avoiding, start, turn_at, PlacedRow, placed_from, falling_rows, lowers, choice, Settled, settle, TurnedRows, from_start, lower, best_from, least_start}
use Rattle.ring.specs.RuleA.{largest_across}
use Rattle.turns.specs.Promised.{NoTurnLowers, StartEnds}
use Rattle.ring.proofs.Side.{cond-elim}
use Rattle.turns.proofs.InOrder.{first-has, none_has, each-ordered}
use Rattle.turns.proofs.Starts.{ways-floor}

-- ---- one turn

-- the row that is chosen lowers the peak
pub choice-lowers : (n : ℕ) (rs : List Routed) (p : PlacedRow) → choice n rs ≡ Some p → peak_of n (turn_at p.place rs) < peak_of n rs
unfolding choice lowers
choice-lowers n rs p e = ltb-true _ _ (first-has (lowers n rs) (falling_rows n rs) p e)

at_place : (P : ℕ → Type 0) (k : ℕ) (rs : List Routed) → Each (λ (x : PlacedRow). P x.place) (placed_from k rs) → (p : ℕ) → p < length rs → P (k + p)
unfolding placed_from
at_place P k [] e p l = absurd (omega arith)
at_place P k (r ∷ rs) (more q e) zero l = let s : k + 0 ≡ k = omega arith in rw s q
at_place P k (r ∷ rs) (more q e) (suc p) l = let s : k + suc p ≡ suc k + p = omega arith in rw s (at_place P (suc k) rs e p (omega arith))

turn-behind : (p : ℕ) (rs : List Routed) → length rs ≤ p → turn_at p rs ≡ rs
unfolding turn_at
turn-behind p [] l = refl
turn-behind zero (r ∷ rs) l = absurd (omega arith)
turn-behind (suc p) (r ∷ rs) l = ap (λ (k : List Routed). r ∷ k) (turn-behind p rs (omega arith))

-- where none is chosen no single turn lowers the peak
pub no-turn-lowers : (n : ℕ) (rs : List Routed) → choice n rs ≡ None → NoTurnLowers n rs
unfolding choice lowers falling_rows
no-turn-lowers n rs e p =
    let all = each-ordered _ (placed_from 0 rs) (none_has (lowers n rs) (falling_rows n rs) e) in
    elim (dec_lt p (length rs)) [
      | yes l ↦
          let z : 0 + p ≡ p = omega arith in
          rw z at (at_place (λ q. peak_of n rs ≤ peak_of n (turn_at q rs)) 0 rs (still all) p l)
      | no l ↦ rw (turn-behind p rs (omega arith)) (omega arith)
    ]
  where
    still : {l : List PlacedRow} → Each (λ x. lowers n rs x ≡ false) l → Each (λ (x : PlacedRow). peak_of n rs ≤ peak_of n (turn_at x.place rs)) l
    still none = none
    still (more f e) = more (ltb-false _ _ f) (still e)

pub turn-demands : (p : ℕ) (rs : List Routed) → demands (sents (turn_at p rs)) ≡ demands (sents rs)
unfolding turn_at
turn-demands p [] = refl
turn-demands zero (r ∷ rs) = refl
turn-demands (suc p) (r ∷ rs) = ap (λ (l : List Demand). r.sent.demand ∷ l) (turn-demands p rs)

-- ---- all turns of a start

-- where the turns end, from these rows on with so many turns behind them
pub record Ended (n turns : ℕ) (rs : List Routed) (s : Settled) : Type 0 where
  pub still : choice n s.rows ≡ None
  pub bound : s.turns + peak_of n s.rows ≤ turns + peak_of n rs
  pub demands : demands (sents s.rows) ≡ demands (sents rs)

pub ends : (n most turns : ℕ) (rs : List Routed) → peak_of n rs ≤ most → Ended n turns rs (settle n most turns rs)
unfolding settle
ends n zero turns rs l = go (choice n rs) refl
  where
    go : (f : Option PlacedRow) → choice n rs ≡ f → Ended n turns rs (record { rows = rs; turns = turns })
    go None e = record { still = e; bound = omega arith; demands = refl }
    go (Some p) e = absurd (omega (arith, choice-lowers n rs p e))
ends n (suc most) turns rs l = go (choice n rs) refl (λ p h. ends n most (suc turns) (turn_at p.place rs) h)
  where
    go : (f : Option PlacedRow) → choice n rs ≡ f →
        ((p : PlacedRow) → peak_of n (turn_at p.place rs) ≤ most → Ended n (suc turns) (turn_at p.place rs) (settle n most (suc turns) (turn_at p.place rs))) →
        Ended n turns rs (settle n (suc most) turns rs)
    go None e on = rw (e, settle) (record { still = e; bound = omega arith; demands = refl })
    go (Some p) e on =
        let less = choice-lowers n rs p e in
        let o = on p (omega arith) in
        rw (e, settle) (record { still = o.still; bound = omega (arith, o.bound); demands = o.demands ∙ turn-demands p.place rs })

pub start-demands : (a : ℕ) (rs : List Demand) → demands (sents (start a rs)) ≡ rs
unfolding start avoiding
start-demands a [] = refl
start-demands a (r ∷ rs) = ap (λ (l : List Demand). r ∷ l) (start-demands a rs)

-- what a start leads to: its peak is that of its rows, which are the table's, no turn lowers it, and each turn did
pub record FromStart (n : ℕ) (rs : List Demand) (a : ℕ) (x : TurnedRows) : Type 0 where
  pub peak : x.figures.peak ≡ peak_of n x.rows
  pub demands : demands (sents x.rows) ≡ rs
  pub still : NoTurnLowers n x.rows
  pub link : x.figures.link ≡ a
  pub turns : x.figures.turns + x.figures.peak ≤ peak_of n (start a rs)

pub each-start : (n : ℕ) (rs : List Demand) (a : ℕ) → FromStart n rs a (from_start n rs a)
unfolding from_start
each-start n rs a =
    let e = ends n (peak_of n (start a rs)) 0 (start a rs) (omega arith) in
    record { peak = refl; demands = e.demands ∙ start-demands a rs; still = no-turn-lowers n (from_start n rs a).rows e.still; link = refl; turns = omega (arith, e.bound) }

pub starts-end : (n : ℕ) (rs : List Demand) (a : ℕ) → StartEnds n rs a
starts-end n rs a =
    let f = each-start n rs a in
    let same : start (from_start n rs a).figures.link rs ≡ start a rs = ap (λ k. start k rs) f.link in
    record { still = f.still; turns = rw same f.turns }

-- ---- the least of all starts

module _ (n : ℕ) (rs : List Demand) where
  abbrev start_peak : ℕ → ℕ
  start_peak a = (from_start n rs a).figures.peak

  -- of the starts before `to` the answer is one, none has a lower peak, and those before it have higher ones
  pub record Least (to : ℕ) (x : TurnedRows) : Type 0 where
    pub low : 1 ≤ x.figures.link
    pub high : x.figures.link < to
    pub is : x ≡ from_start n rs x.figures.link
    pub least : (a : ℕ) → 1 ≤ a → a < to → x.figures.peak ≤ start_peak a
    pub first : (a : ℕ) → 1 ≤ a → a < x.figures.link → x.figures.peak < start_peak a

  pub first-start : Least 2 (from_start n rs 1)
  unfolding from_start
  first-start =
      record {
        low = omega arith;
        high = omega arith;
        is = refl;
        least = λ a l m. let e : a ≡ 1 = omega arith in rw e (omega arith);
        first = λ a l m. absurd (omega arith);
      }

  pub next_start : (a : ℕ) (x : TurnedRows) → 1 ≤ a → Least a x → Least (suc a) (lower x (from_start n rs a))
  unfolding lower
  next_start a x h o = cond-elim (Least (suc a)) _ (from_start n rs a) x (λ t. later (ltb-true _ _ t)) (λ f. earlier (ltb-false _ _ f))
    where
      later : start_peak a < x.figures.peak → Least (suc a) (from_start n rs a)
      later l =
          unfold from_start in
          record {
            low = h;
            high = omega arith;
            is = refl;
            least = λ b p q. elim (ℕ_discrete b a) [ yes e ↦ rw e (omega arith) | no e ↦ omega (arith, l, o.least b p (omega arith)) ];
            first = λ b p q. omega (arith, l, o.least b p q);
          }

      earlier : x.figures.peak ≤ start_peak a → Least (suc a) x
      earlier l =
          record {
            low = o.low;
            high = omega (arith, o.high);
            is = o.is;
            least = λ b p q. elim (ℕ_discrete b a) [ yes e ↦ rw e l | no e ↦ o.least b p (omega arith) ];
            first = o.first;
          }

  all-starts : (a m : ℕ) (x : TurnedRows) → 1 ≤ a → Least a x → Least (a + m) (best_from n rs a m x)
  unfolding best_from
  all-starts a zero x h o = let e : a + 0 ≡ a = omega arith in rw e o
  all-starts a (suc m) x h o = let e : a + suc m ≡ suc a + m = omega arith in rw e (all-starts (suc a) m _ (omega arith) (next_start a x h o))

  -- a later start does not take the place of one whose peak is M/2, rounded up
  pub no-lower : (a m : ℕ) (x : TurnedRows) → 2 ≤ n → 2 * x.figures.peak ≤ largest_across n rs + 1 → best_from n rs a m x ≡ x
  unfolding best_from lower
  no-lower a zero x two l = refl
  no-lower a (suc m) x two l = rw kept (no-lower (suc a) m x two l)
    where
      kept : lower x (from_start n rs a) ≡ x
      kept =
          let s = each-start n rs a in
          let floor = ways-floor n rs two (from_start n rs a).rows s.demands in
          rw (le-ltb (start_peak a) x.figures.peak (omega (arith, floor, s.peak, l)))

  -- ---- the answer

  pub least-is : 2 ≤ n → Least (n + 1) (least_start n rs)
  unfolding least_start
  least-is two = let e : 2 + (n - 1) ≡ n + 1 = omega arith in rw e at (all-starts 2 (n - 1) (from_start n rs 1) (omega arith) first-start)
