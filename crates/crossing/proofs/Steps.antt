-- The steps of asking whether all rows with amounts cross: the rows are halved one by one, the split rows of the halves counted, and each way out is one answer.
use Rattle.std.proofs.Common.{◌≡◌, ℕ, suc, ◌+◌, ◌*◌, ◌≤◌, ◌<◌, true, false, List, [], ◌∷◌, ◌++◌, map, Some, slice_get, length, take, drop, set, refl, sym, ap, ◌∙◌, append_assoc, append-nil, w64, arith}
use mir.Val.{Fits}
use Rattle.std.proofs.lemmas.List.{take_all, drop_all}
use Rattle.ring.specs.Limits.{desk}
use Rattle.ring.specs.Lists.{Each, none, more}
use Rattle.ring.proofs.LargestCut.{rule-A}
use Rattle.ring.specs.Cut.{across}
use Rattle.ring.specs.RuleA.{largest_cut, rule_a, largest_across}
use Rattle.ring.specs.RuleD.{largest_split}
use Rattle.ring.specs.Routing.{is_split}
use Rattle.ring.specs.Sheet.{sents, demands, demands_of}
use Rattle.ring.proofs.Side.{cond-elim}
use Rattle.ring.proofs.Small.{demands-length}
use Rattle.ring.specs.declared.types.Cut.{Cut}
use Rattle.ring.specs.declared.types.Demand.{Demand}
use Rattle.ring.specs.declared.types.Sent.{Sent}
use Rattle.ring.specs.declared.types.Routed.{Routed}
use Rattle.rows.proofs.Zip.{Passed, next-old, put-passed, put-taken}
use Rattle.across.specs.Filled.{DemandFits, DemandsFit, TriangleOf}
use Rattle.across.specs.Cells.{cell}
use Rattle.weight.specs.Limits.{across_bound}
use Rattle.best.specs.Best.{splits, most_split}
use Rattle.across.proofs.CutSteps.{same-cut}
use Rattle.across.proofs.FillSteps.{across-few}
use Rattle.crossing.specs.AllCross.{AllCross, largest_amount, with_amount, half, halves}
use Rattle.crossing.specs.Crossing.{CrossingIs, all, parallel, many}
use Rattle.crossing.specs.FindPair.{first_pair}
use Rattle.crossing.specs.declared.crossing.Crossing.TheVariants.{All, Parallel, Many}
use Rattle.crossing.specs.declared.pair.Pair.{Pair}
use Rattle.crossing.specs.declared.pair.Pair.TheVariants.{Are, None}
use Rattle.crossing.proofs.AmountPairs.{first-parallel-is, all-cross-is}
use Rattle.crossing.proofs.HalfWays.{SentHalf, splits-are, largest-is}

-- ---- the rows are halved

-- a row that is sent half either way, its way as it was
abbrev halved_row : Routed → Routed
halved_row r = record { sent = half r.sent.demand; way = r.way }

pub record Halving (old now : List Routed) (t : ℕ) : Type 0 where
  pub passed : Passed old now t
  pub left : take t now ++ map halved_row (drop t old) ≡ map halved_row old

pub halve_turn : (old now : List Routed) (t : ℕ) (r : Routed) → slice_get now t ≡ Some r → Halving old now t → Halving old (set now t (halved_row r)) (t + 1)
halve_turn old now t r at o =
    record {
      passed = put-passed old now t r at o.passed (halved_row r);
      left =
          rw (put-taken old now t r at o.passed (halved_row r), append_assoc)
          (ap (λ l. take t now ++ l) (sym (ap (λ l. map halved_row l) (next-old old now t r at o.passed))) ∙ o.left);
    }

sents-halved : (rs : List Routed) → sents (map halved_row rs) ≡ halves (demands_of rs)
sents-halved [] = refl
sents-halved (r ∷ rs) = ap (λ (l : List Sent). half r.sent.demand ∷ l) (sents-halved rs)

pub halve_done : (old now : List Routed) (t : ℕ) → length old ≤ t → Halving old now t → sents now ≡ halves (demands_of old)
halve_done old now t l o =
    let a = take_all t now (omega (arith, o.passed.size)) in
    let b = drop_all t old l in
    ap sents (sym (append-nil now) ∙ (rw (a, b) at o.left)) ∙ sents-halved old

-- ---- the split rows are counted

-- there are at most as many as rows
splits-few : (rs : List Routed) → splits (sents rs) ≤ length rs
unfolding splits
splits-few [] = omega arith
splits-few (r ∷ rs) = cond-elim (λ k. k ≤ length (r ∷ rs)) (is_split r.sent) (suc (splits (sents rs))) (splits (sents rs)) (λ t. omega (arith, splits-few rs)) (λ f. omega (arith, splits-few rs))

pub count_fits : (rs left : List Routed) (count : ℕ) → length rs ≤ desk.rows → count + splits (sents left) ≡ splits (sents rs) → Fits w64 (count + 1)
count_fits rs left count few m = omega (arith, few, m, splits-few rs)

pub one_more : (left rest : List Routed) (r : Routed) (count sum : ℕ) → left ≡ r ∷ rest → is_split r.sent ≡ true → count + splits (sents left) ≡ sum → (count + 1) + splits (sents rest) ≡ sum
unfolding splits
one_more left rest r count sum l e m = let f = rw l at m in let g = rw e at f in omega (arith, g)

pub passed_over : (left rest : List Routed) (r : Routed) (count sum : ℕ) → left ≡ r ∷ rest → is_split r.sent ≡ false → count + splits (sents left) ≡ sum → count + splits (sents rest) ≡ sum
unfolding splits
passed_over left rest r count sum l e m = let f = rw l at m in let g = rw e at f in g

pub counted : (left : List Routed) (count sum : ℕ) → left ≡ [] → count + splits (sents left) ≡ sum → count ≡ sum
unfolding splits
counted left count sum l m = let f = rw l at m in omega (arith, f)

-- ---- halves of demands

demands-halves : (rs : List Demand) → demands (halves rs) ≡ rs
demands-halves [] = refl
demands-halves (r ∷ rs) = ap (λ (l : List Demand). r ∷ l) (demands-halves rs)

sent-half : (rs : List Demand) → Each SentHalf (halves rs)
sent-half [] = none
sent-half (r ∷ rs) = more (record { front = refl; back = refl }) (sent-half rs)

splits-halves : (rs : List Demand) → splits (halves rs) ≡ with_amount rs
splits-halves rs = splits-are (sent-half rs) ∙ ap with_amount (demands-halves rs)

largest-halves : (rs : List Demand) → largest_split (halves rs) ≡ largest_amount rs
largest-halves rs = largest-is (sent-half rs) ∙ ap largest_amount (demands-halves rs)

largest-small : (n : ℕ) (rs : List Demand) → Each (DemandFits n) rs → largest_amount rs ≤ desk.amount
unfolding largest_amount
largest-small n [] none = omega arith
largest-small n (r ∷ rs) (more f e) = omega (arith, f.small, largest-small n rs e)

-- ---- the answers

module _ (n : ℕ) (rs : List Demand) (new : List Routed) (halved : sents new ≡ halves rs) where
  pub same-demands : demands_of new ≡ rs
  same-demands = ap demands halved ∙ demands-halves rs

  largest-same : (largest : ℕ) → largest ≡ largest_split (sents new) → largest ≡ largest_amount rs
  largest-same largest f = f ∙ ap largest_split halved ∙ largest-halves rs

  module _ (fit : DemandsFit n rs) where
    pub amount-small : (largest : ℕ) → largest ≡ largest_split (sents new) → largest ≤ desk.amount
    amount-small largest f = omega (arith, largest-same largest f, largest-small n rs fit.each)

    pub rows-few : length new ≤ desk.rows
    rows-few = omega (arith, fit.few, demands-length new, ap length same-demands)

    module _ (two : 2 ≤ n) (triangle : List ℕ) (cut : Cut) (numbers : TriangleOf n (demands_of new) triangle) (ec : cut ≡ largest_cut (cell triangle) n) where
      most-is : cut.across ≡ largest_across n rs
      unfolding rule_a
      most-is = ap (λ (c : Cut). c.across) (ec ∙ same-cut n (cell triangle) (across (demands_of new)) numbers.is two) ∙ ap (largest_across n) same-demands

      -- numbers that a bound is made of
      pub most-small : cut.across ≤ across_bound
      most-small = let most = rule_a n rs in let is = (rule-A n rs two).is in omega (arith, most-is, is, across-few rs most.g most.h n fit.each, fit.few)

  module _ (found : Pair) (is : found ≡ first_pair (sents new)) where
    pub is-parallel : (p q : ℕ) → found ≡ Are p q → CrossingIs n rs (Parallel p q)
    is-parallel p q e = parallel ((first-parallel-is rs p q).0 (sym (ap first_pair halved) ∙ sym is ∙ e))

    module _ (none_is : found ≡ None) (count : ℕ) (counts : count ≡ splits (sents new)) where
      counted-is : count ≡ with_amount rs
      counted-is = counts ∙ ap splits halved ∙ splits-halves rs

      cross : AllCross rs
      cross = (all-cross-is rs).0 (sym (ap first_pair halved) ∙ sym is ∙ none_is)

      pub is-many : most_split < count → CrossingIs n rs Many
      is-many l = many cross (omega (arith, counted-is))

      pub is-all : count ≤ most_split → (fit : DemandsFit n rs) (two : 2 ≤ n) (triangle : List ℕ) (cut : Cut) → TriangleOf n (demands_of new) triangle → cut ≡ largest_cut (cell triangle) n
          → (largest : ℕ) → largest ≡ largest_split (sents new) → CrossingIs n rs (All (cut.across + 2 * largest))
      is-all l fit two triangle cut numbers ec largest f =
          rw (most-is fit two triangle cut numbers ec, largest-same largest f) (all cross (omega (arith, counted-is)))
