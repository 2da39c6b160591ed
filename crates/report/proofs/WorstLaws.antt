-- The worst ratio of a family is what it is said to be, and no other ratio is.
use Prim.Native.Nat.{ℕ, ◌+◌, ◌*◌, ◌<◌, ◌≤◌}
use mathlib.Core.Bool.{Bool, true, false, cond}
use mathlib.Core.List.{List, [], ◌∷◌, ◌++◌, append_assoc, append-nil}
use mathlib.Core.Logic.{inl, inr}
use mathlib.Core.Path.{◌≡◌, refl, ap, sym, ◌∙◌}
use native.Mathlib.Nat.{mul-le-mul_left}
use native.Mathlib.Omega.{arith}
use lib.Dec.{eqb, ltb}
use borrow.Author.Tests.{ne_eqb}
use Rattle.std.proofs.lemmas.Bool.{cases_lt, eqb-true, eqb-false, ltb-true, ltb-false}
use Rattle.ring.specs.Lists.{Each, none, more}
use Rattle.family.specs.declared.family.Family.{Family}
use Rattle.family.specs.declared.family.Family.TheVariants.{Sonet, Sdh}
use Rattle.report.specs.declared.outcome.Outcome.{Outcome}
use Rattle.report.specs.declared.outcome.Outcome.TheVariants.{Refused, Accepted}
use Rattle.report.specs.declared.totals.Ratio.{Ratio}
use Rattle.report.specs.Totals.{nothing, ratio, is_worse, worst_with, worst_from, totals, is_of, plans_of, report_of, totals_in}
use Rattle.report.specs.Worst.{Enters, enters, Below, AtMost, IfEnters, FirstWorst, IsWorst, none_enters, is_first, WorstIs}

-- ---- fractions, by cross products

-- t / a ≤ u / b < v / c
at-most-below : (t a u b v c : ℕ) → 0 < a → t * b ≤ u * a → u * c < v * b → t * c < v * a
at-most-below t a u b v c p h i =
    elim (cases_lt (t * c) (v * a)) [
      | inl l ↦ l
      | inr l ↦ absurd (
          let x : c * (t * b) ≤ c * (u * a) = mul-le-mul_left c h in
          let y : a * (u * c + 1) ≤ a * (v * b) = mul-le-mul_left a (omega arith) in
          let z : b * (v * a) ≤ b * (t * c) = mul-le-mul_left b l in
          omega arith)
    ]

-- ---- lists

each-join : {P : Outcome → Type 0} {js ks : List Outcome} → Each P js → Each P ks → Each P (js ++ ks)
each-join none l = l
each-join (more h k) l = more h (each-join k l)

each-of : {P Q : Outcome → Type 0} → ((j : Outcome) → P j → Q j) → {js : List Outcome} → Each P js → Each Q js
each-of f none = none
each-of f (more {a = j} h k) = more (f j h) (each-of f k)

-- ---- what enters

enters-above : {f : Family} {j : Outcome} {r : Ratio} → Enters f j r → 0 < r.across
enters-above (enters p a h) = h

ratio_of : Outcome → Ratio
ratio_of Refused = nothing
ratio_of (Accepted f p a) = ratio p a

enters-with : {f : Family} {j : Outcome} {r : Ratio} → Enters f j r → r ≡ ratio_of j
unfolding ratio_of
enters-with (enters p a h) = refl

enters-once : {f : Family} {j : Outcome} {r s : Ratio} → Enters f j r → Enters f j s → r ≡ s
enters-once e i = enters-with e ∙ sym (enters-with i)

abbrev Out : Family → Outcome → Type 0
Out f = IfEnters f (λ (r : Ratio). ⊥)

-- ---- one more piece

module _ (family : Family) where
  -- one that does not enter
  more-out : (js : List Outcome) (w : Ratio) (j : Outcome) → Out family j → IsWorst family js w → IsWorst family (js ++ j ∷ []) w
  more-out js w j o (none_enters h e) = none_enters (each-join h (more o none)) e
  more-out js w j o (is_first f) = is_first (record {
    before = f.before;
    plan = f.plan;
    after = f.after ++ j ∷ [];
    all = ap (λ (l : List Outcome). l ++ j ∷ []) f.all ∙ append_assoc f.before (f.plan ∷ f.after) (j ∷ []);
    its = f.its;
    below = f.below;
    at_most = each-join f.at_most (more (λ r e. absurd (o r e)) none);
  })

  module _ (js : List Outcome) (w : Ratio) (j : Outcome) (r : Ratio) (its : Enters family j r) where
    -- one that is not worse
    more-better : FirstWorst family js w → AtMost r w → IsWorst family (js ++ j ∷ []) w
    more-better f h = is_first (record {
      before = f.before;
      plan = f.plan;
      after = f.after ++ j ∷ [];
      all = ap (λ (l : List Outcome). l ++ j ∷ []) f.all ∙ append_assoc f.before (f.plan ∷ f.after) (j ∷ []);
      its = f.its;
      below = f.below;
      at_most = each-join f.at_most (more (λ s e. rw (enters-once its e) at h) none);
    })

    -- one that is worse than all
    more-worse : Each (IfEnters family (λ (s : Ratio). Below s r)) js → IsWorst family (js ++ j ∷ []) r
    more-worse h = is_first (record { before = js; plan = j; after = []; all = refl; its = its; below = h; at_most = none })

    all-below : FirstWorst family js w → Below w r → Each (IfEnters family (λ (s : Ratio). Below s r)) js
    all-below f h =
        let at-most : (s : Ratio) (k : Outcome) → Enters family k s → AtMost s w → Below s r =
        λ s k e l. at-most-below s.twice s.across w.twice w.across r.twice r.across (enters-above e) l h in
        rw f.all
        (each-join (each-of (λ k g s e. at-most s k e (let b = g s e in omega arith)) f.below)
        (more (λ s e. rw (enters-once f.its e) at h) (each-of (λ k g s e. at-most s k e (g s e)) f.at_most)))

  more-enters : (js : List Outcome) (w : Ratio) (j : Outcome) (r : Ratio) → Enters family j r → IsWorst family js w → IsWorst family (js ++ j ∷ []) (cond (is_worse r w) r w)
  unfolding is_worse
  more-enters js w j r its (none_enters h e) =
      rw e (more-worse js w j r its (each-of (λ k o s i. absurd (o s i)) h))
  more-enters js w j r its (is_first f) =
      let positive : eqb w.across 0 ≡ false = ne_eqb w.across 0 (λ e. let p = enters-above f.its in omega arith) in
      rw positive (go (ltb (w.twice * r.across) (r.twice * w.across)) (ltb-true _ _) (ltb-false _ _))
    where
      go : (v : Bool) → (v ≡ true → Below w r) → (v ≡ false → r.twice * w.across ≤ w.twice * r.across) → IsWorst family (js ++ j ∷ []) (cond v r w)
      go true h i = more-worse js w j r its (all-below js w j r its f (h refl))
      go false h i = more-better js w j r its f (i refl)

-- ---- all pieces

-- what is no plan of the family does not enter
passed-by : (family : Family) (done js : List Outcome) (w v : Ratio) (j : Outcome) → Out family j → IsWorst family done w
    → (IsWorst family (done ++ j ∷ []) w → IsWorst family ((done ++ j ∷ []) ++ js) v) → IsWorst family (done ++ j ∷ js) v
passed-by family done js w v j o h next = let r = next (more-out family done w j o h) in rw (append_assoc done (j ∷ []) js) at r

-- one more plan of the family
one-plan : (family : Family) (done : List Outcome) (w : Ratio) (p a : ℕ) → IsWorst family done w → IsWorst family (done ++ Accepted family p a ∷ []) (worst_with w p a)
unfolding worst_with ratio_of
one-plan family done w p a h = go (eqb a 0) (eqb-true a 0) (eqb-false a 0)
  where
    zero-out : a ≡ 0 → Out family (Accepted family p a)
    zero-out e r i =
        let l = enters-above i in
        let s = enters-with i in
        absurd (let m : 0 < a = rw s at l in omega arith)

    go : (v : Bool) → (v ≡ true → a ≡ 0) → (v ≡ false → a ≡ 0 → ⊥)
        → IsWorst family (done ++ Accepted family p a ∷ []) (cond v w (cond (is_worse (ratio p a) w) (ratio p a) w))
    go true f g = more-out family done w (Accepted family p a) (zero-out (f refl)) h
    go false f g = more-enters family done w (Accepted family p a) (ratio p a) (enters p a (let n = g refl in omega arith)) h

taken : (family : Family) (done js : List Outcome) (w v : Ratio) (p a : ℕ) → IsWorst family done w
    → (IsWorst family (done ++ Accepted family p a ∷ []) (worst_with w p a) → IsWorst family ((done ++ Accepted family p a ∷ []) ++ js) v)
    → IsWorst family (done ++ Accepted family p a ∷ js) v
taken family done js w v p a h next = let r = next (one-plan family done w p a h) in rw (append_assoc done (Accepted family p a ∷ []) js) at r

from-here : (family : Family) (done js : List Outcome) (w : Ratio) → IsWorst family done w → IsWorst family (done ++ js) (worst_from w (plans_of family js))
unfolding worst_from plans_of is_of
from-here family done [] w h = rw (append-nil done) h
from-here family done (Refused ∷ js) w h =
    passed-by family done js w _ Refused (λ r e. elim e [ ]) h (from-here family (done ++ Refused ∷ []) js w)
from-here Sonet done (Accepted Sonet p a ∷ js) w h =
    taken Sonet done js w _ p a h (from-here Sonet (done ++ Accepted Sonet p a ∷ []) js (worst_with w p a))
from-here Sonet done (Accepted Sdh p a ∷ js) w h =
    passed-by Sonet done js w _ (Accepted Sdh p a) (λ r e. elim e [ ]) h (from-here Sonet (done ++ Accepted Sdh p a ∷ []) js w)
from-here Sdh done (Accepted Sonet p a ∷ js) w h =
    passed-by Sdh done js w _ (Accepted Sonet p a) (λ r e. elim e [ ]) h (from-here Sdh (done ++ Accepted Sonet p a ∷ []) js w)
from-here Sdh done (Accepted Sdh p a ∷ js) w h =
    taken Sdh done js w _ p a h (from-here Sdh (done ++ Accepted Sdh p a ∷ []) js (worst_with w p a))

-- the worst ratio of a family in the report of these
worst_of : Family → List Outcome → Ratio
worst_of family os = (totals_in family (report_of os)).worst

worst-is : (family : Family) (os : List Outcome) → IsWorst family os (worst_of family os)
unfolding worst_of report_of totals
worst-is Sonet os = from-here Sonet [] os nothing (none_enters none refl)
worst-is Sdh os = from-here Sdh [] os nothing (none_enters none refl)

-- ---- no other ratio is

out-of : (P : Outcome → Type 0) (xs : List Outcome) (j : Outcome) (ys : List Outcome) → Each P (xs ++ j ∷ ys) → P j
out-of P [] j ys (more h k) = h
out-of P (x ∷ xs) j ys (more h k) = out-of P xs j ys k

module _ (family : Family) where
  -- two plans of one list, each the first of the worst, are one
  same-first : (b : List Outcome) (j : Outcome) (a : List Outcome) (c : List Outcome) (k : Outcome) (d : List Outcome) (w v : Ratio) → b ++ j ∷ a ≡ c ++ k ∷ d → Enters family j w → Enters family k v
      → Each (IfEnters family (λ (r : Ratio). Below r w)) b → Each (IfEnters family (λ (r : Ratio). AtMost r w)) a
      → Each (IfEnters family (λ (r : Ratio). Below r v)) c → Each (IfEnters family (λ (r : Ratio). AtMost r v)) d → w ≡ v
  same-first [] j a [] k d w v e i l m n o p = let s : j ≡ k = cc in enters-once (rw s at i) l
  same-first [] j a (x ∷ c) k d w v e i l m n (more o q) p =
      let s : j ≡ x = cc in
      let t : a ≡ c ++ k ∷ d = cc in
      let f = o w (rw s at i) in
      let g = out-of _ c k d (rw t at n) v l in
      absurd (omega arith)
  same-first (x ∷ b) j a [] k d w v e i l (more m q) n o p =
      let s : k ≡ x = cc in
      let t : d ≡ b ++ j ∷ a = cc in
      let f = m v (rw s at l) in
      let g = out-of _ b j a (rw t at p) w i in
      absurd (omega arith)
  same-first (x ∷ b) j a (y ∷ c) k d w v e i l (more m q) n (more o u) p =
      same-first b j a c k d w v (cc) i l q n u p

  one-worst : (js : List Outcome) (w v : Ratio) → IsWorst family js w → IsWorst family js v → w ≡ v
  one-worst js w v (none_enters h e) (none_enters i f) = e ∙ sym f
  one-worst js w v (none_enters h e) (is_first g) = absurd (out-of (Out family) g.before g.plan g.after (rw g.all at h) v g.its)
  one-worst js w v (is_first f) (none_enters i e) = absurd (out-of (Out family) f.before f.plan f.after (rw f.all at i) w f.its)
  one-worst js w v (is_first f) (is_first g) =
      same-first f.before f.plan f.after g.before g.plan g.after w v (sym f.all ∙ g.all) f.its g.its f.below f.at_most g.below g.at_most

pub worst-is-so : WorstIs
unfolding worst_of
worst-is-so family os w = (λ e. rw e (worst-is family os), λ h. one-worst family os w (worst_of family os) h (worst-is family os))
