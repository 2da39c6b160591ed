-- Findings one after the other: what is given of the first of them is given of all, where nothing holds the next are looked at, and one answer is given.
use Rattle.std.proofs.Common.{Result, Ok, Err, ◌⊎◌, ⊎_elim, inl, inr, ◌≡◌, refl, sym, ◌∙◌}
use Prim.Native.Nat.{ℕ}
use native.Mathlib.Decide.{ℕ_discrete}
use Rattle.ring.specs.LineSize.{IsFibres, two_fibres, four_fibres}
use Rattle.reasons.specs.declared.finding.Finding.{Finding}
use Rattle.reasons.specs.Findings.{Findings, nothing, finding, then, First}

-- nothing is found
abbrev pub fine : Result Unit Finding
fine = Ok tt

-- fibres are 2 or 4 where nothing is found against them
pub fibres-of : (fibres : ℕ) → ((IsFibres fibres → ⊥) → ⊥) → IsFibres fibres
fibres-of fibres n =
    elim (ℕ_discrete fibres two_fibres) [ yes e ↦ inl e | no a ↦ elim (ℕ_discrete fibres four_fibres) [ yes e ↦ inr e | no b ↦ absurd (n (⊎_elim a b)) ] ]

pub then-on : (fs gs : Findings) (r : Result Unit Finding) → First fs fine → First gs r → First (then fs gs) r
unfolding then
then-on nothing gs r h k = k
then-on (finding A reason place fs) gs r (inl h) k = absurd (cc)
then-on (finding A reason place fs) gs r (inr h) k = inr (h.0, then-on fs gs r h.1 k)

pub then-stop : (fs gs : Findings) (f : Finding) → First fs (Err f) → First (then fs gs) (Err f)
unfolding then
then-stop nothing gs f h = absurd (cc)
then-stop (finding A reason place fs) gs f (inl h) = inl h
then-stop (finding A reason place fs) gs f (inr h) = inr (h.0, then-stop fs gs f h.1)

-- ---- what it means that nothing is found

-- of the first finding, whose fact is A
pub none-of : {A B : Type 0} {f : Finding} → (A × (fine ≡ Err f)) ⊎ ((A → ⊥) × B) → (A → ⊥) × B
none-of (inl h) = absurd (cc)
none-of (inr h) = h

pub both-of : (fs gs : Findings) → First (then fs gs) fine → First fs fine × First gs fine
unfolding then
both-of nothing gs h = (refl, h)
both-of (finding A reason place fs) gs h = let p = none-of h in let q = both-of fs gs p.1 in (inr (p.0, q.0), q.1)

-- ---- where something is found

-- it is of the first of them, or nothing of these is found and it is of the others
pub either-of : (fs gs : Findings) (f : Finding) → First (then fs gs) (Err f) → First fs (Err f) ⊎ (First fs fine × First gs (Err f))
unfolding then
either-of nothing gs f h = inr (refl, h)
either-of (finding A reason place fs) gs f (inl h) = inl (inl h)
either-of (finding A reason place fs) gs f (inr h) = go (either-of fs gs f h.1)
  where
    go : First fs (Err f) ⊎ (First fs fine × First gs (Err f)) → First (finding A reason place fs) (Err f) ⊎ (First (finding A reason place fs) fine × First gs (Err f))
    go (inl k) = inl (inr (h.0, k))
    go (inr k) = inr (inr (h.0, k.0), k.1)

-- ---- one answer

-- any two answers agree
pub one-answer : (fs : Findings) (r s : Result Unit Finding) → First fs r → First fs s → r ≡ s
one-answer nothing r s h k = h ∙ sym k
one-answer (finding A reason place fs) r s (inl h) (inl k) = h.1 ∙ sym k.1
one-answer (finding A reason place fs) r s (inl h) (inr k) = absurd (k.0 h.0)
one-answer (finding A reason place fs) r s (inr h) (inl k) = absurd (h.0 k.0)
one-answer (finding A reason place fs) r s (inr h) (inr k) = one-answer fs r s h.1 k.1
