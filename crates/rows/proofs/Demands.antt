-- The demands of rows, place by place, and of one row more; and rows of which nothing is sent, which their demands tell.
use Rattle.std.proofs.Common.{◌≡◌, ℕ, List, [], ◌∷◌, ◌++◌, Some, slice_get, map, refl, ap, sym, ◌∙◌}
use Rattle.std.proofs.lemmas.Option.{slice_get-map}
use Rattle.ring.specs.declared.types.Demand.{Demand}
use Rattle.ring.specs.declared.types.Sent.{Sent}
use Rattle.ring.specs.declared.types.Routed.{Routed}
use Rattle.ring.specs.Sheet.{sents, demands}
use Rattle.rows.specs.Columns.{unsent}

pub demands-more : (rs : List Routed) (r : Routed) → demands (sents (rs ++ r ∷ [])) ≡ demands (sents rs) ++ r.sent.demand ∷ []
demands-more [] r = refl
demands-more (x ∷ rs) r = ap (λ (l : List Demand). x.sent.demand ∷ l) (demands-more rs r)

pub demands-get : (rs : List Routed) (k : ℕ) (r : Routed) → slice_get rs k ≡ Some r → slice_get (demands (sents rs)) k ≡ Some r.sent.demand
demands-get rs k r e = slice_get-map (λ (s : Sent). s.demand) (sents rs) k ∙ rw (slice_get-map (λ (r : Routed). r.sent) rs k, e)

-- ---- rows of which nothing is sent

demands-unsent : (ds : List Demand) → demands (sents (map unsent ds)) ≡ ds
demands-unsent [] = refl
demands-unsent (d ∷ ds) = ap (λ (l : List Demand). d ∷ l) (demands-unsent ds)

-- rows that are told by some demands have these, and no others
pub demands-told : (rs : List Routed) (ds : List Demand) → rs ≡ map unsent ds → demands (sents rs) ≡ ds
demands-told rs ds e = ap (λ (l : List Routed). demands (sents l)) e ∙ demands-unsent ds

pub unsent-told : (rs : List Routed) (ds : List Demand) → rs ≡ map unsent ds → rs ≡ map unsent (demands (sents rs))
unsent-told rs ds e = e ∙ ap (λ (l : List Demand). map unsent l) (sym (demands-told rs ds e))

unsent-append : (ds es : List Demand) → map unsent (ds ++ es) ≡ map unsent ds ++ map unsent es
unsent-append [] es = refl
unsent-append (d ∷ ds) es = ap (λ (l : List Routed). unsent d ∷ l) (unsent-append ds es)

-- one more behind rows that are told by theirs
pub unsent-more : (rs new : List Routed) (d : Demand) → rs ≡ map unsent (demands (sents rs)) → new ≡ rs ++ unsent d ∷ [] → new ≡ map unsent (demands (sents new))
unsent-more rs new d e more =
    let f : demands (sents new) ≡ demands (sents rs) ++ d ∷ [] = ap (λ (l : List Routed). demands (sents l)) more ∙ demands-more rs (unsent d) in
    more ∙ ap (λ (l : List Routed). l ++ unsent d ∷ []) e ∙ sym (ap (λ (l : List Demand). map unsent l) f ∙ unsent-append (demands (sents rs)) (d ∷ []))
