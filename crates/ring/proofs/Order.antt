-- Rule C's recursion makes one move at each pair of places, in the order of the list of pairs; and no other rows come of such moves.
use Prim.Native.Nat.{ℕ, zero, suc, ◌+◌, ◌-◌}
use mathlib.Core.List.{List, [], ◌∷◌, ◌++◌, map, append_assoc}
use mathlib.Core.Path.{◌≡◌, refl, sym, ◌∙◌, ap, ap₂}
use native.Mathlib.Omega.{arith}
use lib.ListN.{length, length-append}
use Rattle.std.specs.List.{flat_map}
use Rattle.ring.specs.Routing.{Sent}
use Rattle.ring.specs.RuleC.{move, sweep, pass, rule_c}
use Rattle.ring.specs.Sheet.{numbers_from}
use Rattle.ring.specs.Rules.{Places, places, pairs_of_places, MovedAt, MovedInTurn, no_more, move_then, OncePerPair}

-- the pairs of four rows, as they are written out
pub places-of-four : pairs_of_places 4 ≡ places 1 2 ∷ places 1 3 ∷ places 1 4 ∷ places 2 3 ∷ places 2 4 ∷ places 3 4 ∷ []
unfolding numbers_from
places-of-four = refl

-- one run and then another
in-turn-on : {ps qs : List Places} {x y z : List Sent} → MovedInTurn ps x y → MovedInTurn qs y z → MovedInTurn (ps ++ qs) x z
in-turn-on no_more r = r
in-turn-on (move_then m rest) r = move_then m (in-turn-on rest r)

-- ---- the first row against the rows behind it

sweep-length : (a : Sent) (bs : List Sent) → length (sweep a bs).tail ≡ length bs
unfolding sweep
sweep-length a [] = refl
sweep-length a (b ∷ bs) = ap suc (sweep-length (move a b).one bs)

-- `between` are the rows that the first row has met already
sweep-in-turn : (before : List Sent) (a : Sent) (between bs : List Sent) (p q : ℕ) → p ≡ length before + 1 → q ≡ p + length between + 1 →
    MovedInTurn (map (places p) (numbers_from q (length bs))) (before ++ (a ∷ between) ++ bs) (before ++ ((sweep a bs).head ∷ between) ++ (sweep a bs).tail)
unfolding sweep numbers_from
sweep-in-turn before a between [] p q e f = no_more
sweep-in-turn before a between (b ∷ bs) p q e f =
    let m = move a b in
    let met : (x : Sent) (ys : List Sent) → before ++ (x ∷ (between ++ (m.two ∷ []))) ++ ys ≡ before ++ (x ∷ between) ++ (m.two ∷ ys) = λ x ys. simp append_assoc in
    let rest = sweep-in-turn before m.one (between ++ (m.two ∷ [])) bs p (suc q) e (omega (arith, length-append between (m.two ∷ []))) in
    move_then
    (record { before = before; a = a; between = between; b = b; behind = bs; first = e; second = f; old_rows = refl; new_rows = refl })
    (rw (met m.one bs, met (sweep m.one bs).head (sweep m.one bs).tail) at rest)

-- ---- all rows as first rows

pass-in-turn : (total count : ℕ) (before ss : List Sent) (p : ℕ) → length ss ≡ count → p ≡ length before + 1 → total ≡ length before + count →
    MovedInTurn (flat_map (λ x. map (places x) (numbers_from (x + 1) (total - x))) (numbers_from p count)) (before ++ ss) (before ++ pass count ss)
unfolding pass numbers_from
pass-in-turn total zero before ss p l e f = no_more
pass-in-turn total (suc count) before [] p l e f = absurd (omega arith)
pass-in-turn total (suc count) before (s ∷ ss) p l e f =
    let w = sweep s ss in
    let many : total - p ≡ length ss = omega arith in
    let rest = pass-in-turn total count (before ++ (w.head ∷ [])) w.tail (suc p) (omega (arith, sweep-length s ss)) (omega (arith, length-append before (w.head ∷ []))) (omega (arith, length-append before (w.head ∷ []))) in
    in-turn-on
    (rw many (rw (append_assoc before (s ∷ []) ss, append_assoc before (w.head ∷ []) w.tail) at (sweep-in-turn before s [] ss p (p + 1) e (omega arith))))
    (rw (append_assoc before (w.head ∷ []) w.tail, append_assoc before (w.head ∷ []) (pass count w.tail)) at rest)

pub rule-C-order : (ss : List Sent) → OncePerPair ss (rule_c ss)
unfolding rule_c
rule-C-order ss = pass-in-turn (length ss) (length ss) [] ss 1 refl refl (omega arith)

-- ---- such moves leave one list alone

-- lists that are as long as each other end alike where they go on alike
same-parts : (xs ys : List Sent) {us vs : List Sent} → length xs ≡ length ys → xs ++ us ≡ ys ++ vs → (xs ≡ ys) × (us ≡ vs)
same-parts [] [] l e = (refl, e)
same-parts [] (y ∷ ys) l e = absurd (omega arith)
same-parts (x ∷ xs) [] l e = absurd (omega arith)
same-parts (x ∷ xs) (y ∷ ys) {us = us} {vs = vs} l e =
    let tails : xs ++ us ≡ ys ++ vs = cc in
    let heads : x ≡ y = cc in
    let rest = same-parts xs ys {us = us} {vs = vs} (omega arith) tails in
    (ap₂ (λ (z : Sent) (l : List Sent). z ∷ l) heads rest.0, rest.1)

moved-at-one : (at : Places) (old new new' : List Sent) → MovedAt at old new → MovedAt at old new' → new ≡ new'
moved-at-one at old new new' m m' =
    let firsts = same-parts (m.before ++ (m.a ∷ m.between)) (m'.before ++ (m'.a ∷ m'.between)) (omega (arith, m.first, m'.first, m.second, m'.second, length-append m.before (m.a ∷ m.between), length-append m'.before (m'.a ∷ m'.between))) (sym m.old_rows ∙ m'.old_rows) in
    let befores = same-parts m.before m'.before (omega (arith, m.first, m'.first)) firsts.0 in
    let one : m.a ≡ m'.a = cc (befores.1) in
    let between : m.between ≡ m'.between = cc (befores.1) in
    let two : m.b ≡ m'.b = cc (firsts.1) in
    let behind : m.behind ≡ m'.behind = cc (firsts.1) in
    m.new_rows ∙ rw (befores.0, one, between, two, behind) (sym m'.new_rows)

in-turn-one : (ps : List Places) (old new new' : List Sent) → MovedInTurn ps old new → MovedInTurn ps old new' → new ≡ new'
in-turn-one [] old new new' no_more no_more = refl
in-turn-one (at ∷ rest) old new new' (move_then {next = x} m r) (move_then {next = y} m' r') =
    let e = moved-at-one at old x y m m' in
    in-turn-one rest y new new' (rw e at r) r'

pub rule-C-only : (ss new : List Sent) → OncePerPair ss new → new ≡ rule_c ss
rule-C-only ss new r = in-turn-one (pairs_of_places (length ss)) ss new (rule_c ss) r (rule-C-order ss)
