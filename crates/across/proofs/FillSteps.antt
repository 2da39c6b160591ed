-- The triangle under the loops that fill it: sums over the rows that a test lets pass. Those at a pair of nodes, summed up along a line, are those that end there;
-- and with those that end later they are those of which the front holds both links. No sum comes near the type's end.
use Rattle.std.proofs.Common.{◌≡◌, ℕ, ◌+◌, ◌*◌, ◌-◌, ◌<◌, ◌≤◌, Bool, cond, ◌&&◌, List, [], ◌∷◌, length, replicate, refl, sym, ap, ◌∙◌, leb, eqb, arith}
use mathlib.Core.Bool.{xor}
use native.Mathlib.Decide.{ℕ_discrete}
use Rattle.std.proofs.lemmas.List.{length-replicate}
use Rattle.std.proofs.lemmas.Bool.Decides.{nat_tests}
use Rattle.ring.specs.Limits.{desk}
use Rattle.ring.specs.Lists.{Each, none, more}
use Rattle.ring.specs.declared.types.Demand.{Demand}
use Rattle.ring.specs.declared.types.Routed.{Routed}
use Rattle.ring.specs.Cut.{part, across}
use Rattle.ring.specs.Sheet.{sents, demands}
use Rattle.ring.proofs.Laid.{zeros-at}
use Rattle.ring.proofs.Lists.{each, first-of, rest-of}
use Rattle.ring.proofs.Side.{cond-elim}
use Rattle.ring.proofs.Totals.{part_small, total-most, across-total}
use Rattle.across.specs.Triangle.{place_of, at}
use Rattle.across.specs.Step.{raised}
use Rattle.across.specs.Cells.{most_places, FromMeans}
use Rattle.across.specs.Lines.{PutAt, Holds}
use Rattle.across.specs.Filled.{DemandFits, DemandsFit, TriangleOf}
use Rattle.across.proofs.LineSteps.{seen-so, one-more}

-- no pair has more than all rows' amounts across
pub across-few : (rs : List Demand) (g h : ℕ) (n : ℕ) → Each (DemandFits n) rs → across rs g h ≤ desk.amount * length rs
across-few rs g h n e = total-most {sum = λ rs. across rs g h} (across-total g h) desk.amount (each (λ r f. omega (arith, part_small r g h, f.small)) e)

-- ---- sums of halves

-- the halves of a row that passes a test, and of all that do
abbrev halves : (Demand → Bool) → Demand → ℕ
halves p r = cond (p r) (2 * r.amount) 0

abbrev pub total : (Demand → Bool) → List Demand → ℕ
total p [] = 0
total p (r ∷ rs) = halves p r + total p rs

module _ (n : ℕ) where
  -- where of each row so many are those by two other tests
  total-adds : (p q s : Demand → Bool) → ((r : Demand) → DemandFits n r → halves p r ≡ halves q r + halves s r) → (rs : List Demand) → Each (DemandFits n) rs → total p rs ≡ total q rs + total s rs
  total-adds p q s f [] none = refl
  total-adds p q s f (r ∷ rs) (more e es) = omega (arith, f r e, total-adds p q s f rs es)

  total-few : (p : Demand → Bool) (rs : List Demand) → Each (DemandFits n) rs → total p rs ≤ 2 * desk.amount * length rs
  total-few p [] none = omega arith
  total-few p (r ∷ rs) (more e es) = cond-elim (λ x. x + total p rs ≤ 2 * desk.amount * length (r ∷ rs)) (p r) (2 * r.amount) 0 (λ t. omega (arith, e.small, total-few p rs es)) (λ t. omega (arith, total-few p rs es))

-- between two nodes; from a first node up to i to j; and to j or behind it
abbrev between : ℕ → ℕ → Demand → Bool
between i j r = eqb r.first i && eqb r.second j

abbrev pub ending : ℕ → ℕ → Demand → Bool
ending i j r = leb r.first i && eqb r.second j

abbrev holding : ℕ → ℕ → Demand → Bool
holding i j r = leb r.first i && leb j r.second

holds-more : (i j : ℕ) (r : Demand) → halves (holding i j) r ≡ halves (ending i j) r + halves (holding i (j + 1)) r
holds-more i j r = grind (arith, nat_tests)

ends-more : (i j : ℕ) (r : Demand) → 1 ≤ i → halves (ending i j) r ≡ halves (ending (i - 1) j) r + halves (between i j) r
ends-more i j r l = grind (arith, nat_tests)

ends-none : (j : ℕ) (r : Demand) → 1 ≤ r.first → halves (ending 0 j) r ≡ 0
ends-none j r a = grind (arith, nat_tests)

holds-none : (i n : ℕ) (r : Demand) → r.second ≤ n → halves (holding i (n + 1)) r ≡ 0
holds-none i n r a = grind (arith, nat_tests)

between-none : (i n : ℕ) (r : Demand) → r.second ≤ n → halves (between i (n + 1)) r ≡ 0
between-none i n r a = grind (arith, nat_tests)

-- what lies across two links is what holds one of them alone
row-across : (g h : ℕ) (r : Demand) → g < h → 2 * part r g h + 2 * halves (holding g (h + 1)) r ≡ halves (holding g (g + 1)) r + halves (holding h (h + 1)) r
unfolding part xor
row-across g h r l = grind (arith, nat_tests)

sums-across : (g h : ℕ) → g < h → (rs : List Demand) → 2 * across rs g h + 2 * total (holding g (h + 1)) rs ≡ total (holding g (g + 1)) rs + total (holding h (h + 1)) rs
unfolding across
sums-across g h l [] = refl
sums-across g h l (r ∷ rs) = omega (arith, row-across g h r l, sums-across g h l rs)

-- ---- the rows

-- where the loop over them stands: with those that are left the triangle's numbers are all halves between two nodes
pub record Filling (n : ℕ) (rs left : List Routed) (t : List ℕ) : Type 0 where
  pub each : Each (DemandFits n) (demands (sents left))
  pub size : length t ≡ most_places
  pub is : (x y : ℕ) → 1 ≤ x → x < y → at t x y + total (between x y) (demands (sents left)) ≡ total (between x y) (demands (sents rs))

-- the pairs behind position 66 j + i that rows can have
abbrev pub Summed : (n j i : ℕ) → ℕ → ℕ → Type 0
Summed n j i x y = (y ≤ n + 1) × (66 * j + x < 66 * y + i)

-- where the loops over lines stand: those of the pairs passed are summed up
abbrev pub Summing : (n : ℕ) (rs : List Routed) (j i : ℕ) (t : List ℕ) → Type 0
Summing n rs j i t = Holds (Summed n j i) (λ x y. total (holding x y) (demands (sents rs))) (λ x y. total (between x y) (demands (sents rs))) most_places t

pub fill_start : (n : ℕ) (rs left : List Routed) (t : List ℕ) → DemandsFit n (demands (sents rs)) → t ≡ replicate most_places 0 → left ≡ rs → Filling n rs left t
fill_start n rs left t fit e l =
    rw l record { each = fit.each; size = ap length e ∙ length-replicate {A = ℕ} most_places 0; is = λ x y a b. rw e (omega (arith, zeros-at most_places (place_of x y))) }

module _ (n : ℕ) (rs : List Routed) (fit : DemandsFit n (demands (sents rs))) where
  -- no sum comes near the type's end
  few : (p : Demand → Bool) → total p (demands (sents rs)) ≤ 2 * desk.amount * desk.rows
  few p = omega (arith, total-few n p (demands (sents rs)) fit.each, fit.few)

  module _ (left rest : List Routed) (r : Routed) (t : List ℕ) (next : left ≡ r ∷ rest) (before : Filling n rs left t) where
    abbrev d : Demand
    d = r.sent.demand

    f : Filling n rs (r ∷ rest) t
    f = rw next at before

    pub fill-fits : DemandFits n d
    fill-fits = first-of f.each

    pub fill_turn : (new : List ℕ) → PutAt d.first d.second (raised (at t d.first d.second) (2 * d.amount)) t new → Filling n rs rest new
    fill_turn new p = record { each = rest-of f.each; size = p.size ∙ f.size; is = is }
      where
        its-own : halves (between d.first d.second) d ≡ 2 * d.amount
        its-own = grind (arith, nat_tests)

        others : (x y : ℕ) → ((x ≡ d.first) × (y ≡ d.second) → ⊥) → halves (between x y) d ≡ 0
        others x y o = grind (arith, nat_tests)

        is : (x y : ℕ) → 1 ≤ x → x < y → at new x y + total (between x y) (demands (sents rest)) ≡ total (between x y) (demands (sents rs))
        is x y a b =
            elim (ℕ_discrete x d.first) [
              | no q ↦ omega (arith, p.others x y a b (λ o. q o.0), others x y (λ o. q o.0), f.is x y a b)
              | yes q ↦ elim (ℕ_discrete y d.second) [
                | no u ↦ omega (arith, p.others x y a b (λ o. u o.1), others x y (λ o. u o.1), f.is x y a b)
                | yes u ↦ rw (q, u) (omega (arith, p.here, its-own, f.is d.first d.second fill-fits.on.low fill-fits.on.order, few (between d.first d.second)))
              ]
            ]

  -- ---- the lines

  nothing : (p : Demand → Bool) → ((r : Demand) → DemandFits n r → halves p r ≡ 0) → total p (demands (sents rs)) ≡ 0
  nothing p z = omega (arith, total-adds n p p p (λ r f. omega (arith, z r f)) (demands (sents rs)) fit.each)

  pub sum_start : (left : List Routed) (t : List ℕ) → left ≡ [] → Filling n rs left t → Summing n rs (n + 1) (n + 1) t
  sum_start left t e before =
      let f = rw e at before in
      record {
        size = f.size;
        within = λ x y a b c q.
            let top : y ≡ n + 1 = omega (arith, q.0, q.1) in
            rw top (omega (arith, rw top at (f.is x y a b), nothing (between x (n + 1)) (λ r g. between-none x n r g.on.high), nothing (holding x (n + 1)) (λ r g. holds-none x n r g.on.high)));
        outside = λ x y a b c q. omega (arith, f.is x y a b);
      }

  module _ (t : List ℕ) (j i : ℕ) (high : j ≤ n) where
    pub sum-enter : Summing n rs (j + 1) (j + 1) t → Summing n rs j 1 t
    sum-enter s = seen-so s (λ x y a b c q. (q.0, omega (arith, q.1, fit.links))) (λ x y a b c q. (q.0, omega (arith, q.1, fit.links)))

    pub no-sum : 0 ≡ total (ending 0 j) (demands (sents rs))
    no-sum = sym (nothing (ending 0 j) (λ r g. ends-none j r g.on.low))

    module _ (s : Summing n rs j i t) (sum : ℕ) (e : sum ≡ total (ending (i - 1) j) (demands (sents rs))) (low : 1 ≤ i) (order : i < j) (x : ℕ) (ex : x ≡ at t i j) where
      pub sum-next : raised sum x ≡ total (ending ((i + 1) - 1) j) (demands (sents rs))
      sum-next =
          let back : (i + 1) - 1 ≡ i = omega arith in
          let was = s.outside i j low order (omega (arith, fit.links)) (λ q. omega (arith, q.1)) in
          let more = total-adds n (ending i j) (ending (i - 1) j) (between i j) (λ r g. ends-more i j r low) (demands (sents rs)) fit.each in
          rw back (omega (arith, was, more, few (ending i j)))

      pub sum-turn : (y : ℕ) (new : List ℕ) → y ≡ at t i (j + 1) → PutAt i j (raised (raised sum x) y) t new → Summing n rs j (i + 1) new
      sum-turn y new ey p =
          let back : (i + 1) - 1 ≡ i = omega arith in
          let so = rw back at sum-next in
          let next = s.within i (j + 1) low (omega arith) (omega (arith, fit.links)) (omega arith, omega arith) in
          let more = total-adds n (holding i j) (ending i j) (holding i (j + 1)) (λ r g. holds-more i j r) (demands (sents rs)) fit.each in
          one-more s i j _ new order (omega (arith, fit.links)) p (omega (arith, so, next, more, few (holding i j)))
          (λ v w a b c q. (q.0.0, omega (arith, q.0.1, q.1))) (λ v w a b c q. (q.0, omega (arith, q.1))) (omega arith, omega arith)

  pub fill_done : (t new : List ℕ) (j : ℕ) → j ≤ 2 → Summing n rs j j t → FromMeans n t new → TriangleOf n (demands (sents rs)) new
  fill_done t new j l s m =
      record {
        size = m.size ∙ s.size;
        is = λ g h a b c.
            let sum : (x y : ℕ) → 1 ≤ x → x < y → y ≤ n + 1 → at t x y ≡ total (holding x y) (demands (sents rs)) = λ x y d k o. s.within x y d k (omega (arith, fit.links)) (o, omega arith) in
            omega (
              arith,
              m.pairs g h a b c,
              sums-across g h b (demands (sents rs)),
              sum g (g + 1) a (omega arith) (omega arith),
              sum h (h + 1) (omega arith) (omega arith) (omega arith),
              sum g (h + 1) a (omega arith) (omega arith),
              few (holding g (g + 1)),
              few (holding h (h + 1)),
            );
      }

pub ruleset fill_laws = (fill_start, fill_turn, sum_start, sum-next, sum-turn)
