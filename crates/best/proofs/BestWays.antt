-- The scan finds the best choice: it keeps the best of the choices that it has seen; and what is best among numbers is best among choices.
use Prim.Native.Nat.{ℕ, zero, suc, ◌+◌, ◌^◌, ◌≤◌, ◌<◌}
use mathlib.Core.Bool.{Bool, true, false, cond, ◌&&◌, ◌||◌}
use mathlib.Core.List.{List, [], ◌∷◌}
use mathlib.Core.Logic.{◌⊎◌, inl, inr}
use mathlib.Core.Path.{◌≡◌, refl, sym, ◌∙◌, ap, subst}
use native.Mathlib.Omega.{arith}
use native.Mathlib.Nat.{one-le-pow}
use native.Mathlib.Decide.{dec_lt, ℕ_discrete}
use borrow.Author.Tests.{ltb-true, ltb-false, eqb-true, eqb-false}
use Rattle.std.specs.Prelude.{count_ones}
use Rattle.ring.specs.declared.types.Sent.{Sent}
use Rattle.ring.specs.declared.types.Routed.{Routed}
use Rattle.ring.specs.declared.types.Way.{Way}
use Rattle.ring.specs.declared.types.Way.TheVariants.{Front, Back}
use Rattle.ring.specs.Routing.{unsplit_load, peak}
use Rattle.best.specs.declared.tries.Tried.{Tried}
use Rattle.best.specs.Best.{splits, turned_back, GoesF, here, there, IsBest}
use Rattle.best.specs.Choices.{choose, tried_of, best_over}
use Rattle.best.specs.Tries.{better_of}
use Rattle.best.proofs.Choices.{number-choice, Numbered, number_of, smaller-goes-F, turned-is-ones}

-- the first test, or the second with the third
three-tests : (P : Bool → Type 0) (x y z : Bool) → (x ≡ true → P true) → (y ≡ true → z ≡ true → P true) → (y ≡ true → z ≡ false → P false)
    → (x ≡ false → y ≡ false → P false) → P (x || y && z)
three-tests P true y z f g h k = f refl
three-tests P false true true f g h k = g refl refl
three-tests P false true false f g h k = h refl refl
three-tests P false false z f g h k = k refl refl

-- the test taken apart
data Contest (earlier later : Tried) : Tried → Type 0 where
  lower : later.peak < earlier.peak → Contest earlier later later
  fewer : later.peak ≡ earlier.peak → count_ones later.choice < count_ones earlier.choice → Contest earlier later later
  higher : earlier.peak < later.peak → Contest earlier later earlier
  no-fewer : later.peak ≡ earlier.peak → count_ones earlier.choice ≤ count_ones later.choice → Contest earlier later earlier

contest : (earlier later : Tried) → Contest earlier later (better_of earlier later)
unfolding better_of
contest earlier later =
    three-tests (λ b. Contest earlier later (cond b later earlier)) _ _ _ (λ x. lower (ltb-true _ _ x)) (λ y z. fewer (eqb-true _ _ y) (ltb-true _ _ z))
    (λ y z. no-fewer (eqb-true _ _ y) (ltb-false _ _ z)) (λ x y. higher (above (ltb-false _ _ x) (eqb-false _ _ y)))
  where
    above : {a b : ℕ} → b ≤ a → (a ≡ b → ⊥) → b < a
    above l n = omega arith

module _ (n : ℕ) (ss : List Sent) where
  abbrev pub peak_of : ℕ → ℕ
  peak_of c = peak (unsplit_load (choose c ss)) n

  -- the best of the choices below c
  pub record Leads (c : ℕ) (best : Tried) : Type 0 where
    pub is : best ≡ tried_of n ss best.choice
    pub below : best.choice < c
    pub least : (d : ℕ) → d < c → best.peak ≤ peak_of d
    pub fewest : (d : ℕ) → d < c → peak_of d ≡ best.peak → count_ones best.choice ≤ count_ones d
    pub first : (d : ℕ) → d < c → peak_of d ≡ best.peak → count_ones d ≡ count_ones best.choice → best.choice ≤ d

  -- a choice below c + 1 is below c, or c itself
  last : (P : ℕ → Type 0) (c : ℕ) → ((d : ℕ) → d < c → P d) → P c → (d : ℕ) → d < suc c → P d
  last P c below at_c d l = elim (dec_lt d c) [ yes m ↦ below d m | no m ↦ let e : d ≡ c = omega arith in rw e at_c ]

  step : (c : ℕ) (best : Tried) → Leads c best → Leads (suc c) (better_of best (tried_of n ss c))
  step c best h = go (contest best (tried_of n ss c))
    where
      new : (peak_of c < best.peak) ⊎ ((peak_of c ≡ best.peak) × (count_ones c < count_ones best.choice)) → Leads (suc c) (tried_of n ss c)
      new (inl l) =
          record {
            is = refl;
            below = omega arith;
            least = last (λ d. peak_of c ≤ peak_of d) c (λ d m. omega (arith, h.least d m)) (omega arith);
            fewest = last (λ d. peak_of d ≡ peak_of c → count_ones c ≤ count_ones d) c (λ d m e. absurd (omega (arith, h.least d m))) (λ e. omega arith);
            first = last (λ d. peak_of d ≡ peak_of c → count_ones d ≡ count_ones c → c ≤ d) c (λ d m e f. absurd (omega (arith, h.least d m))) (λ e f. omega arith);
          }
      new (inr l) =
          record {
            is = refl;
            below = omega arith;
            least = last (λ d. peak_of c ≤ peak_of d) c (λ d m. omega (arith, l.0, h.least d m)) (omega arith);
            fewest = last (λ d. peak_of d ≡ peak_of c → count_ones c ≤ count_ones d) c (λ d m e. omega (arith, l.1, h.fewest d m (e ∙ l.0))) (λ e. omega arith);
            first = last (λ d. peak_of d ≡ peak_of c → count_ones d ≡ count_ones c → c ≤ d) c (λ d m e f. absurd (omega (arith, l.1, h.fewest d m (e ∙ l.0)))) (λ e f. omega arith);
          }

      old : best.peak ≤ peak_of c → (peak_of c ≡ best.peak → count_ones best.choice ≤ count_ones c) → Leads (suc c) best
      old l m =
          record {
            is = h.is;
            below = omega (arith, h.below);
            least = last (λ d. best.peak ≤ peak_of d) c h.least l;
            fewest = last (λ d. peak_of d ≡ best.peak → count_ones best.choice ≤ count_ones d) c h.fewest m;
            first = last (λ d. peak_of d ≡ best.peak → count_ones d ≡ count_ones best.choice → best.choice ≤ d) c h.first (λ e f. omega (arith, h.below));
          }

      go : {x : Tried} → Contest best (tried_of n ss c) x → Leads (suc c) x
      go (lower l) = new (inl l)
      go (fewer q l) = new (inr (q, l))
      go (higher l) = old (omega arith) (λ q. omega arith)
      go (no-fewer q l) = old (omega arith) (λ _. l)

  scan : (c m : ℕ) (best : Tried) → Leads c best → Leads (c + m) (best_over (tried_of n ss) c m best)
  unfolding best_over
  scan c zero best h = let e : c + 0 ≡ c = omega arith in rw e h
  scan c (suc m) best h = let e : c + suc m ≡ suc c + m = omega arith in rw e (scan (suc c) m (better_of best (tried_of n ss c)) (step c best h))

  -- from choice 0, which is tried once more, through all others
  pub best-leads : Leads (2 ^ splits ss) (best_over (tried_of n ss) 0 (2 ^ splits ss) (tried_of n ss 0))
  unfolding best_over
  best-leads = go (2 ^ splits ss) (one-le-pow (splits ss) 2 (omega arith))
    where
      only : (P : ℕ → Type 0) → P 0 → (d : ℕ) → d < 1 → P d
      only P p d l = let e : d ≡ 0 = omega arith in rw e p

      set_out : Leads 1 (tried_of n ss 0)
      set_out =
          record {
            is = refl;
            below = omega arith;
            least = only (λ d. peak_of 0 ≤ peak_of d) (omega arith);
            fewest = only (λ d. peak_of d ≡ peak_of 0 → count_ones 0 ≤ count_ones d) (λ e. omega arith);
            first = λ d l e f. omega arith;
          }

      same : {x : Tried} → Contest (tried_of n ss 0) (tried_of n ss 0) x → x ≡ tried_of n ss 0
      same (lower l) = refl
      same (fewer q l) = refl
      same (higher l) = refl
      same (no-fewer q l) = refl

      go : (m : ℕ) → 1 ≤ m → Leads m (best_over (tried_of n ss) 0 m (tried_of n ss 0))
      go zero l = absurd (omega arith)
      go (suc m) l =
          let e = same (contest (tried_of n ss 0) (tried_of n ss 0)) in
          let f : 1 + m ≡ suc m = omega arith in
          rw e (rw f at (scan 1 m (tried_of n ss 0) set_out))

  -- ---- among choices

  pub is-best : (best : Tried) → Leads (2 ^ splits ss) best → IsBest n ss (choose best.choice ss)
  is-best best h =
      record {
        choice = number-choice best.choice ss;
        least = λ o c. let x = number_of ss o c in let e = x.is in let l : peak_of best.choice ≤ peak_of x.c = omega (arith, own, h.least x.c x.below) in rw e at l;
        fewest = λ o c p. fewest (number_of ss o c) p;
        first = λ o c p t. first (number_of ss o c) p t;
      }
    where
      own : peak_of best.choice ≡ best.peak
      own = sym (ap (λ (b : Tried). b.peak) h.is)

      ones : {c : ℕ} → c < 2 ^ splits ss → turned_back (choose c ss) ≡ count_ones c
      ones {c} l = turned-is-ones c ss l

      same : {o : List Routed} (x : Numbered ss o) → peak (unsplit_load o) n ≡ peak_of best.choice → peak_of x.c ≡ best.peak
      same x p = ap (λ (o : List Routed). peak (unsplit_load o) n) x.is ∙ p ∙ own

      fewest : {o : List Routed} → Numbered ss o → peak (unsplit_load o) n ≡ peak_of best.choice → turned_back (choose best.choice ss) ≤ turned_back o
      fewest x p = let e = x.is in let l : turned_back (choose best.choice ss) ≤ turned_back (choose x.c ss) = omega (arith, ones h.below, ones x.below, h.fewest x.c x.below (same x p)) in rw e at l

      first : {o : List Routed} → Numbered ss o → peak (unsplit_load o) n ≡ peak_of best.choice → turned_back o ≡ turned_back (choose best.choice ss)
          → (o ≡ choose best.choice ss) ⊎ GoesF (choose best.choice ss) o
      first {o} x p t =
          let l = h.first x.c x.below (same x p) (sym (ones x.below) ∙ ap turned_back x.is ∙ t ∙ ones h.below) in
          elim (ℕ_discrete x.c best.choice) [
            | yes e ↦ inl (sym x.is ∙ ap (λ c. choose c ss) e)
            | no e ↦ inr (subst (GoesF (choose best.choice ss)) x.is (smaller-goes-F best.choice x.c ss (omega arith) x.below))
          ]

-- ---- there is one best

-- the way of the first row, and the rows behind it
first_way : List Routed → Way
first_way [] = Front
first_way (r ∷ l) = r.way

rest_of : List Routed → List Routed
rest_of [] = []
rest_of (r ∷ l) = l

one-goes-F : {a b x y : List Routed} → GoesF a b → GoesF x y → x ≡ b → y ≡ a → ⊥
unfolding first_way rest_of
one-goes-F here here e f = let z : Front ≡ Back = ap first_way e in cc
one-goes-F here (there q) e f = let z : Front ≡ Back = sym (ap first_way f) ∙ ap first_way e in cc
one-goes-F (there p) here e f = let z : Front ≡ Back = ap first_way e ∙ sym (ap first_way f) in cc
one-goes-F (there p) (there q) e f = one-goes-F p q (ap rest_of e) (ap rest_of f)

pub best-unique : (n : ℕ) (ss : List Sent) (a b : List Routed) → IsBest n ss a → IsBest n ss b → a ≡ b
best-unique n ss a b x y = go (x.first b y.choice (sym same-peak) (sym same-turned)) (y.first a x.choice same-peak same-turned)
  where
    same-peak : peak (unsplit_load a) n ≡ peak (unsplit_load b) n
    same-peak = omega (arith, x.least b y.choice, y.least a x.choice)

    same-turned : turned_back a ≡ turned_back b
    same-turned = omega (arith, x.fewest b y.choice (sym same-peak), y.fewest a x.choice same-peak)

    go : (b ≡ a) ⊎ GoesF a b → (a ≡ b) ⊎ GoesF b a → a ≡ b
    go (inl e) d = sym e
    go (inr p) (inl e) = e
    go (inr p) (inr q) = absurd (one-goes-F p q refl refl)
