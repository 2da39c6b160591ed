-- Rows that are sent by a choice fit as they did, and their loads can be turned: so all choices can be tried from the first, and the last answer is the best.
use Rattle.std.proofs.Common.{◌≡◌, ℕ, ◌-◌, ◌*◌, ◌^◌, ◌≤◌, Bool, true, false, cond, List, [], ◌∷◌, length, refl, sym, ap, subst, ◌∙◌, arith}
use Rattle.std.proofs.lemmas.List.{length-map}
use native.Mathlib.Nat.{mul-suc, one-le-pow}
use borrow.Author.Tests.{lt-ltb}
use Rattle.ring.specs.declared.types.Demand.{Demand}
use Rattle.ring.specs.declared.types.Sent.{Sent}
use Rattle.ring.specs.declared.types.Routed.{Routed}
use Rattle.ring.specs.declared.types.Link.{Link}
use Rattle.ring.specs.declared.types.Way.TheVariants.{Front}
use Rattle.ring.specs.Demand.{OnRing}
use Rattle.ring.specs.Lists.{Each, none, more}
use Rattle.ring.specs.Routing.{routed, is_split, unsplit_load, peak}
use Rattle.ring.specs.Sheet.{sents}
use Rattle.ring.proofs.Lists.{each, each-of-map}
use Rattle.ring.proofs.Totals.{total-most, unsplit-total, whole-small}
use Rattle.ring.specs.Limits.{desk}
use Rattle.weight.specs.Rows.{RowFits, Fit}
use Rattle.weight.specs.LinkSteps.{link_at}
use Rattle.weight.specs.Weighed.{weight_in, weighed_link}
use Rattle.weight.specs.declared.Weight.{Weight}
use Rattle.weight.proofs.Weighing.{link_is}
use Rattle.best.specs.declared.tries.Tried.{Tried}
use Rattle.best.specs.Best.{splits, IsBest}
use Rattle.best.specs.Tries.{tried_in, ahead_of, amounts_of, Turnable, UnsplitOf}
use Rattle.best.specs.Choices.{choose, split_rows, choice_load}
use Rattle.best.proofs.Choices.{number_same}
use Rattle.best.proofs.ChoiceLoads.{as-many, load-is, best-chosen}

-- ---- rows sent by a choice

-- a row fits by what it sends
abbrev SentFits : ℕ → Sent → Type 0
SentFits n s = RowFits n (routed s Front)

sents-fit : (n : ℕ) {rs : List Routed} → Each (RowFits n) rs → Each (SentFits n) (sents rs)
sents-fit n none = none
sents-fit n (more f e) = more (record { on = f.on; amount = f.amount; halves = f.halves }) (sents-fit n e)

module _ (n : ℕ) (rs : List Routed) (fit : Fit n rs) (c : ℕ) where
  abbrev ss : List Sent
  ss = sents rs

  chosen-each : Each (RowFits n) (choose c ss)
  chosen-each =
      let all : Each (SentFits n) (sents (choose c ss)) = subst (Each (SentFits n)) (sym (number_same c ss)) (sents-fit n fit.each) in
      each (λ r f. record { on = f.on; amount = f.amount; halves = f.halves }) (each-of-map (λ (r : Routed). r.sent) (choose c ss) all)

  chosen-few : length (choose c ss) ≤ desk.rows
  chosen-few =
      omega (
        arith,
        fit.few,
        length-map (choose c ss) (λ (r : Routed). r.sent),
        length-map rs (λ (r : Routed). r.sent),
        ap (λ (l : List Sent). length l) (number_same c ss),
      )

  pub choice_fits : (now : List Routed) → now ≡ choose c ss → Fit n now
  choice_fits now e = rw e (record { links = fit.links; few = chosen-few; each = chosen-each })

-- ---- the loads of the first choice

ahead-is : (rs : List Demand) (k : ℕ) → ahead_of rs k ≡ choice_load rs 0 k
unfolding ahead_of choice_load
ahead-is [] k = refl
ahead-is (r ∷ rs) k =
    let t = lt-ltb 0 (2 ^ length rs) (omega (arith, one-le-pow (length rs) 2 (omega arith))) in
    rw t (omega (arith, ahead-is rs k))

amounts-most : (n : ℕ) (ss : List Sent) → Each (SentFits n) ss → amounts_of (split_rows ss) ≤ desk.amount * length ss
unfolding split_rows amounts_of
amounts-most n [] none = omega arith
amounts-most n (s ∷ ss) (more f e) = go (is_split s) (amounts-most n ss e)
  where
    go : (b : Bool) → amounts_of (split_rows ss) ≤ desk.amount * length ss → amounts_of (cond b (s.demand ∷ split_rows ss) (split_rows ss)) ≤ desk.amount * length (s ∷ ss)
    go true l = omega (arith, l, f.amount, mul-suc desk.amount (length ss))
    go false l = omega (arith, l, mul-suc desk.amount (length ss))

split-on-ring : (n : ℕ) (ss : List Sent) → Each (SentFits n) ss → Each (OnRing n) (split_rows ss)
unfolding split_rows
split-on-ring n [] none = none
split-on-ring n (s ∷ ss) (more f e) = go (is_split s) (split-on-ring n ss e)
  where
    go : (b : Bool) → Each (OnRing n) (split_rows ss) → Each (OnRing n) (cond b (s.demand ∷ split_rows ss) (split_rows ss))
    go true l = more f.on l
    go false l = l

module _ (n : ℕ) (rs : List Routed) (fit : Fit n rs) (loads : List ℕ) (is : (k : ℕ) → 1 ≤ k → k ≤ n → link_at loads k ≡ unsplit_load (choose 0 (sents rs)) k) where
  abbrev first : List Routed
  first = choose 0 (sents rs)

  load-most : (k : ℕ) → unsplit_load first k ≤ desk.amount * length first
  load-most k = total-most (unsplit-total k) desk.amount {l = first} (each (λ r f. omega (arith, whole-small r k, f.amount)) (chosen-each n rs fit 0))

  pub first_turnable : (found : List Demand) → found ≡ split_rows (sents rs) → Turnable n found loads
  first_turnable found e =
      rw e (record {
        few = fit.links;
        on = split-on-ring n (sents rs) (sents-fit n fit.each);
        ahead = λ k a b. omega (arith, is k a b, ahead-is (split_rows (sents rs)) k, load-is 0 (sents rs) k);
        room = λ k a b. omega (arith, is k a b, load-most k, chosen-few n rs fit 0, amounts-most n (sents rs) (sents-fit n fit.each), length-map rs (λ (r : Routed). r.sent), fit.few);
      })

-- ---- all that `send_best` does

pub split_count : (found : List Demand) (ss : List Sent) (x : ℕ) → found ≡ split_rows ss → x ≡ length found → x ≡ splits ss
split_count found ss x e f = f ∙ ap (λ (l : List Demand). length l) e ∙ as-many ss

module _ (n : ℕ) (rs first : List Routed) (fit : Fit n rs) (sent : first ≡ choose 0 (sents rs)) where
  same-rows : sents first ≡ sents rs
  same-rows = ap sents sent ∙ number_same 0 (sents rs)

  pub split_still : (x : ℕ) → x ≡ splits (sents rs) → x ≡ splits (sents first)
  split_still x e = rw same-rows e

  module _ (w : Weight) (weighed : w ≡ weight_in n first) (loads : List ℕ) (unsplit : UnsplitOf w.links loads) where
    loads-are : (k : ℕ) → 1 ≤ k → k ≤ n → link_at loads k ≡ unsplit_load (choose 0 (sents rs)) k
    loads-are k a b =
        unsplit.is (k - 1) (omega (arith, fit.links))
        ∙ ap (λ (w : Weight). (weighed_link w k).unsplit) weighed
        ∙ ap (λ (l : Link). l.unsplit) (link_is n first k a b)
        ∙ ap (λ rs. unsplit_load rs k) sent

    pub first_held : (found : List Demand) → found ≡ split_rows (sents rs) → Turnable n found loads
    first_held found e = first_turnable n rs fit loads loads-are found e

    pub best_sent : (found : List Demand) (best : Tried) (now : List Routed) → found ≡ split_rows (sents rs)
        → best ≡ tried_in n (link_at loads) found 0 (record { peak = w.unsplit_peak; choice = 0 }) → now ≡ choose best.choice (sents first) → IsBest n (sents rs) now
    unfolding weight_in
    best_sent found best now e tried goes =
        let p : w.unsplit_peak ≡ peak (unsplit_load (choose 0 (sents rs))) n = ap (λ (w : Weight). w.unsplit_peak) weighed ∙ ap (λ rs. peak (unsplit_load rs) n) sent in
        let t = rw (e, p) at tried in
        rw (goes, same-rows) (best-chosen n (sents rs) (link_at loads) loads-are best t)
