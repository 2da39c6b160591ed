-- One reason is given, with one line and one byte: of two that come first neither comes before the other. So a reader that is right refuses with it, and accepts where
-- none holds.
use Prim.Native.Nat.{ℕ, ◌<◌}
use mathlib.Core.Logic.{inl, inr, ◌↔◌}
use mathlib.Core.Path.{◌≡◌, refl, ap, sym, subst}
use native.Mathlib.Omega.{arith}
use Rattle.std.specs.Prelude.{Result, Ok, Err}
use Rattle.reasons.specs.Reasons.{rank_of, FirstReason, NoReason, Earlier}
use Rattle.reasons.specs.declared.reason.Reason.{Reason}
use Rattle.reasons.specs.declared.reason.Refusal.{Refusal}
use Rattle.reasons.proofs.ReasonNumbers.{same_rank}

pub same-place : (r s : Reason) (line other : ℕ) → (Earlier r line s other → ⊥) → (Earlier s other r line → ⊥) → (r ≡ s) × (line ≡ other)
same-place r s line other up down =
    let a : line < other → ⊥ = λ l. up (inl l) in
    let b : other < line → ⊥ = λ l. down (inl l) in
    let e : line ≡ other = omega arith in
    let c : rank_of r < rank_of s → ⊥ = λ l. up (inr (e, l)) in
    let d : rank_of s < rank_of r → ⊥ = λ l. down (inr (sym e, l)) in
    (same_rank r s (omega arith), e)

-- an answer that is right by what the reasons say
pub data RightBy (Says : Reason → ℕ → Type 0) (Before : Reason → ℕ → Reason → ℕ → Type 0) (ByteIs : Reason → ℕ → ℕ → Type 0) {A : Type 0} : Result A Refusal → Type 0 where
  none_holds : {a : A} → NoReason Says → RightBy Says Before ByteIs (Ok a)
  first_holds : {r : Refusal} → FirstReason Says Before ByteIs r.reason r.line r.byte → RightBy Says Before ByteIs (Err r)

module _ {Says : Reason → ℕ → Type 0} {Before : Reason → ℕ → Reason → ℕ → Type 0} {ByteIs : Reason → ℕ → ℕ → Type 0} where
  -- in an order in which of two reasons on their lines one comes before, where they are not the same
  module _
      (same : (r s : Reason) (line other : ℕ) → (Before r line s other → ⊥) → (Before s other r line → ⊥) → (r ≡ s) × (line ≡ other))
      (one : (line b c : ℕ) (r : Reason) → ByteIs r line b → ByteIs r line c → b ≡ c) where
    pub one-first : {r s : Reason} {line other byte on : ℕ} → FirstReason Says Before ByteIs r line byte → FirstReason Says Before ByteIs s other on → (r ≡ s) × (line ≡ other) × (byte ≡ on)
    one-first {r} {s} {line} {other} {byte} {on} f g =
        let e = same r s line other (λ e. g.first r line e f.holds) (λ e. f.first s other e g.holds) in
        let k : r ≡ s = e.0 in
        let l : line ≡ other = e.1 in
        (k, l, one other byte on s (rw (k, l) at f.byte_is) g.byte_is)

    pub refused-as : {A : Type 0} {x : Result A Refusal} → RightBy Says Before ByteIs x → (r : Refusal) → (x ≡ Err r) ↔ FirstReason Says Before ByteIs r.reason r.line r.byte
    refused-as {A} {x} right r = (λ e. there (subst (RightBy Says Before ByteIs) e right), λ g. back g right)
      where
        there : RightBy Says Before ByteIs {A = A} (Err r) → FirstReason Says Before ByteIs r.reason r.line r.byte
        there (first_holds g) = g

        back : FirstReason Says Before ByteIs r.reason r.line r.byte → {y : Result A Refusal} → RightBy Says Before ByteIs y → y ≡ Err r
        back g (none_holds none) = absurd (none r.reason r.line g.holds)
        back g (first_holds f) = let o = one-first f g in let a = o.0 in let b = o.1 in let c = o.2 in ap Err (λ i. record { reason = a i; line = b i; byte = c i })

  -- something is read exactly where none holds
  pub accepted-as : {A : Type 0} {x : Result A Refusal} → RightBy Says Before ByteIs x → ((a : A) × (x ≡ Ok a)) ↔ NoReason Says
  accepted-as {A} {x} right = (λ h. there (subst (RightBy Says Before ByteIs) h.1 right), λ none. back none right)
    where
      there : {a : A} → RightBy Says Before ByteIs {A = A} (Ok a) → NoReason Says
      there (none_holds none) = none

      back : NoReason Says → {y : Result A Refusal} → RightBy Says Before ByteIs y → (a : A) × (y ≡ Ok a)
      back none (none_holds {a} also) = (a, refl)
      back none (first_holds {r} g) = absurd (none r.reason r.line g.holds)
