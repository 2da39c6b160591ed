-- Where no two split rows are parallel rule C changes nothing: no pair clashes, so each move leaves both rows as they are.
use Prim.Native.Nat.{ℕ, zero, suc}
use mathlib.Core.List.{List, ◌∷◌}
use mathlib.Core.Path.{◌≡◌, refl, ap}
use lib.ListN.{length}
use Rattle.ring.specs.Lists.{Each, none, more, Pairs, no_pair, and_pairs}
use Rattle.ring.specs.declared.types.Sent.{Sent}
use Rattle.ring.specs.RuleC.{Swept, both, move, sweep, pass, rule_c}
use Rattle.ring.specs.Rules.{Quiet}
use Rattle.ring.proofs.Splits.{Splitting, split, whole, splitting}

still-pair : (a b : Sent) → Quiet a b → move a b ≡ both a b
unfolding move
still-pair a b q = go (splitting a) (splitting b)
  where
    go : Splitting a → Splitting b → move a b ≡ both a b
    go (whole n e) t = rw e
    go (split p e) (whole n f) = rw (e, f)
    go (split p e) (split p' f) = rw (e, f, q p p')

still-row : (a : Sent) {bs : List Sent} → Each (Quiet a) bs → sweep a bs ≡ record { head = a; tail = bs }
unfolding sweep
still-row a none = refl
still-row a (more {a = b} {l = bs} q qs) =
    rw (still-pair a b q) (ap {B = Swept} (λ (w : Swept). record { head = w.head; tail = b ∷ w.tail }) (still-row a qs))

still-pass : (count : ℕ) {ss : List Sent} → Pairs Quiet ss → pass count ss ≡ ss
unfolding pass
still-pass zero q = refl
still-pass (suc count) no_pair = refl
still-pass (suc count) (and_pairs {a = a} {l = l} q qs) = rw (still-row a q) (ap (λ (l : List Sent). a ∷ l) (still-pass count qs))

pub still : (ss : List Sent) → Pairs Quiet ss → rule_c ss ≡ ss
unfolding rule_c
still ss q = still-pass (length ss) q
