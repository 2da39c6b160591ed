-- The loops over the ways of rows: they are noted, and compared. Rows that have the ways that were noted, but for rows of amount 0, are alike, and come to one peak.
use Rattle.std.proofs.Common.{◌≡◌, ℕ, suc, ◌+◌, ◌≤◌, ◌<◌, Bool, true, false, true≢false, not, List, [], ◌∷◌, Some, slice_get, length, get_or, set, refl, sym, ap, ◌∙◌, arith, get_or-set_same, get_or-set_other}
use borrow.Author.Tests.{lt-ltb}
use native.Mathlib.Decide.{dec_lt, ℕ_discrete}
use Rattle.std.proofs.lemmas.List.{length-set}
use Rattle.std.proofs.lemmas.Option.{slice_get_within}
use Rattle.ring.specs.declared.types.Demand.{Demand}
use Rattle.ring.specs.declared.types.Routed.{Routed}
use Rattle.ring.specs.declared.types.Way.{Way}
use Rattle.ring.specs.declared.types.Way.TheVariants.{Front, Back}
use Rattle.ring.specs.Lists.{Each, none, more}
use Rattle.ring.specs.Sheet.{sents, demands}
use Rattle.ring.specs.Limits.{desk}
use Rattle.turns.specs.Turns.{peak_of, whole}
use Rattle.turns.specs.Settles.{Wholes}
use Rattle.turns.specs.Known.{same_way, differs, Noted, SameWays, IfSame, end_peak}
use Rattle.turns.proofs.SameStarts.{Alike, ended, same, nothing, alike-peak, alike-settle}

-- ---- alike by their ways

abbrev GoesWhole : Routed → Type 0
GoesWhole r = r ≡ whole r.sent.demand r.way

by-ways : {now known : List Routed} → demands (sents now) ≡ demands (sents known) → Each GoesWhole now → Each GoesWhole known →
    ((k : ℕ) (q r : Routed) → slice_get now k ≡ Some q → slice_get known k ≡ Some r → 0 < q.sent.demand.amount → q.way ≡ r.way) → Alike now known
by-ways {now = []} {known = []} e none none f = ended
by-ways {now = []} {known = r ∷ l} e a b f = absurd (let z : ◌≡◌ {A = ℕ} 0 1 = cc in omega arith)
by-ways {now = q ∷ k} {known = []} e a b f = absurd (let z : ◌≡◌ {A = ℕ} 0 1 = cc in omega arith)
by-ways {now = q ∷ k} {known = r ∷ l} e (more a o) (more b p) f =
    let d : q.sent.demand ≡ r.sent.demand = cc in
    let rest : demands (sents k) ≡ demands (sents l) = cc in
    let on = by-ways rest o p (λ i x y g h s. f (suc i) x y g h s) in
    elim (dec_lt 0 q.sent.demand.amount) [
      | yes s ↦ let w : q.way ≡ r.way = f 0 q r refl refl s in let z : q ≡ r = a ∙ (rw (d, w) (sym b)) in rw z (same r on)
      | no s ↦ nothing q r (omega arith) (omega (arith, ap (λ (x : Demand). x.amount) d)) on
    ]

pub known_peak : (n : ℕ) (now known : List Routed) (ways : List Way) → demands (sents now) ≡ demands (sents known) → Wholes now → Wholes known → SameWays now ways → Noted known ways → end_peak n now ≡ end_peak n known
unfolding end_peak
known_peak n now known ways e a b s t =
    let o : Alike now known = by-ways e a.each b.each (λ k q r g h m. sym (s.is k q g m) ∙ t.is k r h) in
    rw (alike-peak n o) (alike-peak n (alike-settle n (peak_of n known) 0 o))

-- ---- ways are noted

-- where the loop stands: the ways of the first t rows are noted
pub record Noting (rs : List Routed) (ways : List Way) (t : ℕ) : Type 0 where
  pub size : length ways ≡ desk.rows
  pub is : (k : ℕ) (r : Routed) → k < t → slice_get rs k ≡ Some r → get_or ways k Front ≡ r.way

module _ (rs : List Routed) where
  pub note_start : (ways : List Way) → length ways ≡ desk.rows → Noting rs ways 0
  note_start ways size = record { size = size; is = λ k r a e. absurd (omega arith) }

  pub note_turn : (ways : List Way) (t : ℕ) (r : Routed) → length rs ≤ desk.rows → slice_get rs t ≡ Some r → Noting rs ways t → Noting rs (set ways t r.way) (t + 1)
  note_turn ways t r few at o =
      record {
        size = length-set ways t r.way ∙ o.size;
        is = λ k q a e. elim (ℕ_discrete k t) [
          | yes z ↦ let same : q ≡ r = cc in rw (z, same) (get_or-set_same ways t r.way Front (omega (arith, slice_get_within rs t r at, o.size)))
          | no z ↦ get_or-set_other ways t k r.way Front z ∙ o.is k q (omega arith) e
        ];
      }

  pub note_done : (ways : List Way) (t : ℕ) → length rs ≤ t → Noting rs ways t → Noted rs ways
  note_done ways t l o = record { size = o.size; is = λ k r e. o.is k r (omega (arith, slice_get_within rs k r e)) e }

-- ---- ways are compared

-- where the loop stands: the first t rows have the ways
pub record Comparing (rs : List Routed) (ways : List Way) (t : ℕ) : Type 0 where
  pub is : (k : ℕ) (r : Routed) → k < t → slice_get rs k ≡ Some r → 0 < r.sent.demand.amount → get_or ways k Front ≡ r.way

same-way : (v w : Way) → same_way v w ≡ true → v ≡ w
same-way Front Front e = refl
same-way Front Back e = cc
same-way Back Front e = cc
same-way Back Back e = refl

differs-not : (r : Routed) (w : Way) → differs r w ≡ false → 0 < r.sent.demand.amount → w ≡ r.way
differs-not r w e s = go (same_way w r.way) refl (rw (lt-ltb 0 r.sent.demand.amount s) at e)
  where
    go : (b : Bool) → same_way w r.way ≡ b → not (same_way w r.way) ≡ false → w ≡ r.way
    go true f g = same-way w r.way f
    go false f g = cc (rw f at g)

module _ (rs : List Routed) (ways : List Way) where
  pub same_start : Comparing rs ways 0
  same_start = record { is = λ k r a e s. absurd (omega arith) }

  pub same_turn : (t : ℕ) (r : Routed) → slice_get rs t ≡ Some r → differs r (get_or ways t Front) ≡ false → Comparing rs ways t → Comparing rs ways (t + 1)
  same_turn t r at d o =
      record {
        is = λ k q a e s. elim (ℕ_discrete k t) [
          | yes z ↦ let same : q ≡ r = cc in rw (z, same) (differs-not r (get_or ways t Front) d (rw same at s))
          | no z ↦ o.is k q (omega arith) e s
        ];
      }

  pub same_done : (t : ℕ) → length rs ≤ t → Comparing rs ways t → IfSame true rs ways
  same_done t l o = record { same = λ e. record { is = λ k r at s. o.is k r (omega (arith, slice_get_within rs k r at)) at s } }

  pub same_not : IfSame false rs ways
  same_not = record { same = λ e. absurd (true≢false (sym e)) }

-- ---- the laws of each function

pub ruleset note_laws = (note_start, note_turn, note_done)

pub ruleset same_laws = (same_start, same_turn, same_done, same_not)
