-- Split rows that cross: a link lies in the fronts of the first of them and in the backs of the others, or the other way round.
use Prim.Native.Nat.{ℕ, ◌≤◌, ◌<◌}
use mathlib.Core.Bool.{Bool, true, false, not}
use mathlib.Core.List.{List, ◌∷◌}
use mathlib.Core.Logic.{◌⊎◌, inl, inr, ⊎_elim}
use mathlib.Core.Path.{◌≡◌}
use native.Mathlib.Omega.{arith}
use native.Mathlib.Decide.{dec_le, dec_lt}
use Rattle.ring.specs.declared.types.Sent.{Sent}
use Rattle.ring.specs.Lists.{Each, none, more, Pairs, no_pair, and_pairs}
use Rattle.ring.specs.Demand.{in_front}
use Rattle.ring.specs.Routing.{Split}
use Rattle.ring.specs.Rules.{Staggered}
use Rattle.ring.proofs.Lists.{each, each_both}
use Rattle.ring.proofs.Side.{in-front, before-front, after_front}
use Rattle.ring.proofs.Splits.{Splitting, split, whole, splitting}
use Rattle.ring.proofs.Move.{InOrder}

-- if the row is split, its front holds link k (c is true) or does not (c is false)
abbrev pub OnSide : Bool → ℕ → Sent → Type 0
OnSide c k s = Split s → in_front s.demand k ≡ c

-- in the front (c is true) of the first split rows, then in the back of the others; or the other way round
pub data Crossover (c : Bool) (k : ℕ) : List Sent → Type 0 where
  from_here : {ss : List Sent} → Each (OnSide (not c) k) ss → Crossover c k ss
  not_yet : {s : Sent} {ss : List Sent} → OnSide c k s → Crossover c k ss → Crossover c k (s ∷ ss)

-- no split row has ended before link k: it lies in the fronts of those that have begun
none-ended : (k : ℕ) {ss : List Sent} → Pairs Staggered ss → Each (λ s. Split s → k < s.demand.second) ss → Crossover true k ss
none-ended k no_pair none = from_here none
none-ended k (and_pairs {a = s} {l = ss} later all) (more h hs) = go (splitting s) (dec_le s.demand.first k) (none-ended k all hs)
  where
    go : Splitting s → Dec (s.demand.first ≤ k) → Crossover true k ss → Crossover true k (s ∷ ss)
    go (whole n e) d x = not_yet (λ p. absurd (n p)) x
    go (split p e) (yes l) x = not_yet (λ p. in-front s.demand k l (h p)) x
    go (split p e) (no l) x =
        from_here (more (λ _. before-front s.demand k (omega arith)) (each (λ b st q. before-front b.demand k (omega (arith, (st p q).begins))) later))

-- all split rows have begun before link k: it lies in the fronts of those that have not ended
all-begun : (k : ℕ) {ss : List Sent} → Pairs Staggered ss → Each (λ s. Split s → s.demand.first ≤ k) ss → Crossover false k ss
all-begun k no_pair none = from_here none
all-begun k (and_pairs {a = s} {l = ss} later all) (more h hs) = go (splitting s) (dec_le s.demand.second k) (all-begun k all hs)
  where
    go : Splitting s → Dec (s.demand.second ≤ k) → Crossover false k ss → Crossover false k (s ∷ ss)
    go (whole n e) d x = not_yet (λ p. absurd (n p)) x
    go (split p e) (yes l) x = not_yet (λ p. after_front s.demand k l) x
    go (split p e) (no l) x =
        from_here
        (more {a = s} (λ q. in-front s.demand k (h q) (omega arith))
        (each_both (λ b st begun q. in-front b.demand k (begun q) (omega (arith, (st p q).ends))) later hs))

-- by the first split row: it has ended, and so all have begun, or it has not, and so none has
pub crossover : (k : ℕ) {ss : List Sent} → Each InOrder ss → Pairs Staggered ss → Crossover true k ss ⊎ Crossover false k ss
crossover k o p = ⊎_elim (λ e. inl (none-ended k p e)) (λ e. inr (all-begun k p e)) (which o p)
  where
    Open : List Sent → Type 0
    Open ss = Each (λ s. Split s → k < s.demand.second) ss

    Begun : List Sent → Type 0
    Begun ss = Each (λ s. Split s → s.demand.first ≤ k) ss

    which : {ss : List Sent} → Each InOrder ss → Pairs Staggered ss → Open ss ⊎ Begun ss
    which none no_pair = inl none
    which (more {a = s} {l = ss} o os) (and_pairs later all) = go (splitting s) (dec_lt k s.demand.second) (which os all)
      where
        go : Splitting s → Dec (k < s.demand.second) → Open ss ⊎ Begun ss → Open (s ∷ ss) ⊎ Begun (s ∷ ss)
        go (whole n e) d (inl x) = inl (more (λ p. absurd (n p)) x)
        go (whole n e) d (inr x) = inr (more (λ p. absurd (n p)) x)
        go (split p e) (yes l) x = inl (more {a = s} (λ _. l) (each (λ b st q. omega (arith, (st p q).ends)) later))
        go (split p e) (no l) x = inr (more {a = s} (λ _. omega arith) (each (λ b st q. omega (arith, (st p q).meets)) later))
