-- Rule B's sending and rule D's directions are the only ones that keep to their rule: row by row each leaves one choice.
use Prim.Native.Nat.{ℕ, ◌*◌, ◌/◌, min}
use mathlib.Core.List.{List, ◌∷◌}
use mathlib.Core.Path.{◌≡◌, refl, sym, ◌∙◌, ap, ap₂, subst}
use native.Mathlib.Omega.{arith}
use Rattle.ring.specs.declared.types.Demand.{Demand}
use Rattle.ring.specs.declared.types.Sent.{Sent}
use Rattle.ring.specs.declared.types.Routed.{Routed}
use Rattle.ring.specs.RuleB.{Room, room_after}
use Rattle.ring.specs.Rules.{LeastOf, RowSent, RowsSent, all_sent, sent_then, Step, goes_F, goes_B, stays_F, stays_B, Run, done, next}

-- ---- B

-- one number is the least slack
one-least : (room : Room) (number : ℕ → ℕ → ℕ) (r : Demand) (s t : ℕ) → LeastOf room number r s → LeastOf room number r t → s ≡ t
one-least room number r s t a b =
    let s-below = a.below b.one.x b.one.y b.one.low b.one.order b.one.high in
    let t-below = b.below a.one.x a.one.y a.one.low a.one.order a.one.high in
    omega (arith, s-below, t-below, a.one.is, b.one.is)

one-row : (n : ℕ) (room : Room) (r : Demand) (rest : List Demand) (t u : Sent) → RowSent n room r rest t → RowSent n room r rest u → t ≡ u
one-row n room r rest t u a b = same (a.demand ∙ sym b.demand) fronts (omega (arith, fronts, a.back, b.back))
  where
    fronts : t.front ≡ u.front
    fronts = a.front ∙ ap (λ s. min (2 * r.amount) (s / 2)) (one-least room _ r a.s b.s a.least b.least) ∙ sym b.front

    same : t.demand ≡ u.demand → t.front ≡ u.front → t.back ≡ u.back → t ≡ u
    same e f g i = record { demand = e i; front = f i; back = g i }

pub one-sending : {n : ℕ} {room : Room} {rs : List Demand} {ss ts : List Sent} → RowsSent n room rs ss → RowsSent n room rs ts → ss ≡ ts
one-sending all_sent all_sent = refl
one-sending {n} (sent_then {room} {r} {rest} {t} {ts} a later) (sent_then {t = u} {ts = us} b bs) =
    let e = one-row n room r rest t u a b in
    ap₂ (λ (s : Sent) (l : List Sent). s ∷ l) e (one-sending later (subst (λ s. RowsSent n (room_after room s) rest us) (sym e) bs))

-- ---- D

-- what one row leaves behind
record Left (largest added taken added' taken' : ℕ) (r q : Routed) (added'' taken'' : ℕ) : Type 0 where
  way : r ≡ q
  adds : added' ≡ added''
  takes : taken' ≡ taken''

one-step : {largest added taken : ℕ} {s : Sent} {r q : Routed} {a b c d : ℕ} → Step largest added taken s r a b → Step largest added taken s q c d → Left largest added taken a b r q c d
one-step (goes_F p l) (goes_F q m) = record { way = refl; adds = refl; takes = refl }
one-step (goes_F p l) (goes_B q m) = absurd (omega (arith, l, m))
one-step (goes_F p l) (stays_F z) = absurd (omega (arith, p.1, z))
one-step (goes_F p l) (stays_B z m) = absurd (omega (arith, p.0, z))
one-step (goes_B p l) (goes_F q m) = absurd (omega (arith, l, m))
one-step (goes_B p l) (goes_B q m) = record { way = refl; adds = refl; takes = refl }
one-step (goes_B p l) (stays_F z) = absurd (omega (arith, p.1, z))
one-step (goes_B p l) (stays_B z m) = absurd (omega (arith, p.0, z))
one-step (stays_F z) (goes_F q m) = absurd (omega (arith, q.1, z))
one-step (stays_F z) (goes_B q m) = absurd (omega (arith, q.1, z))
one-step (stays_F z) (stays_F y) = record { way = refl; adds = refl; takes = refl }
one-step (stays_F z) (stays_B y m) = absurd (omega (arith, z, m))
one-step (stays_B z l) (goes_F q m) = absurd (omega (arith, q.0, z))
one-step (stays_B z l) (goes_B q m) = absurd (omega (arith, q.0, z))
one-step (stays_B z l) (stays_F y) = absurd (omega (arith, y, l))
one-step (stays_B z l) (stays_B y m) = record { way = refl; adds = refl; takes = refl }

pub one-run : {largest added taken : ℕ} {ss : List Sent} {rs qs : List Routed} → Run largest added taken ss rs → Run largest added taken ss qs → rs ≡ qs
one-run done done = refl
one-run {largest} (next {added' = a} {taken' = b} {r} {ss} {rs} x xs) (next {added' = c} {taken' = d} {r = q} {rs = qs} y ys) =
    let e = one-step x y in
    ap₂ (λ (z : Routed) (l : List Routed). z ∷ l) e.way
    (one-run xs (subst (λ t. Run largest a t ss qs) (sym e.takes) (subst (λ s. Run largest s d ss qs) (sym e.adds) ys)))
