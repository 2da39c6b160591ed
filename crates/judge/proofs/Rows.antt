-- Row by row: what is given of the rows that are left is given of all; and nothing is found against rows exactly where each is fine and none falls.
use Rattle.std.proofs.Common.{ℕ, ◌+◌, ◌<◌, ◌≤◌, List, [], ◌∷◌, Option, Some, None, Result, Err, ◌⊎◌, inl, inr, ◌≡◌, max, refl, ap, ◌∙◌, length, drop, slice_get, arith}
use Rattle.std.proofs.lemmas.List.{drop_more}
use Rattle.std.proofs.lemmas.Option.{get_or_from_slice_get, slice_get_within}
use native.Mathlib.Decide.{ℕ_discrete, dec_lt}
use Rattle.ring.specs.declared.types.Demand.{Demand}
use Rattle.ring.specs.declared.types.Routed.{Routed}
use Rattle.ring.specs.declared.types.Way.{Way}
use Rattle.ring.specs.declared.types.Way.TheVariants.{Front, Back}
use Rattle.ring.specs.Limits.{Limits, desk}
use Rattle.ring.specs.Lists.{Each, none, more, Steps, no_member, one_member, step}
use Rattle.ring.specs.Demand.{OnRing}
use Rattle.ring.specs.TableRows.{PairBefore, InTableOrder}
use Rattle.ring.specs.Sheet.{sents, demands}
use Rattle.ring.specs.True.{SumsTo2d, GoesByRuleD}
use Rattle.reasons.specs.Findings.{then, First}
use Rattle.reasons.specs.RowFindings.{NoNode, Falls, demand_findings}
use Rattle.reasons.specs.Faults.{row_found, found_at}
use Rattle.reasons.specs.declared.fault.Fault.{Fault}
use Rattle.reasons.proofs.Faults.{row_given}
use Rattle.reasons.specs.declared.finding.Finding.{Finding}
use Rattle.reasons.proofs.Findings.{fine, then-on, then-stop, none-of, both-of}
use Rattle.judge.specs.Findings.{sending_findings, row_findings, rows_findings}

-- ---- as the code goes through them

-- what is given of the rows from place t on is given of all
abbrev pub RowsLeft : Limits → ℕ → List Routed → Option Demand → ℕ → Type 0
RowsLeft limits n rs above t = (r : Result Unit Finding) → First (rows_findings limits n (t + 1) above (drop t rs)) r → First (rows_findings limits n 1 None rs) r

module _ (limits : Limits) (n : ℕ) (rs : List Routed) (t : ℕ) (above : Option Demand) (x : Routed) (at : slice_get rs t ≡ Some x) (left : RowsLeft limits n rs above t) where
  next : drop t rs ≡ x ∷ drop (t + 1) rs
  next = drop_more rs t x (slice_get_within rs t x at) ∙ ap (λ y. y ∷ drop (t + 1) rs) (get_or_from_slice_get rs t x x at)

  pub rows-on : First (row_findings limits n (t + 1) above x) fine → RowsLeft limits n rs (Some x.sent.demand) (t + 1)
  rows-on h r k = left r (rw next (then-on _ _ r h k))

  pub rows-stop : (f : Finding) → First (row_findings limits n (t + 1) above x) (Err f) → First (rows_findings limits n 1 None rs) (Err f)
  rows-stop f h = left (Err f) (rw next (then-stop _ _ f h))

-- one row: a table's fault of its demand is what is found; or nothing is found so far, and what is found of its halves and its way is what is found of it
module _ (n k : ℕ) (above : Option Demand) (r : Routed) (o : Result Unit Fault) (is : o ≡ row_found desk n k above r.sent.demand) (v : Result Unit Finding) (e : v ≡ found_at (k + 1) o) where
  so : First (demand_findings desk n (k + 1) above r.sent.demand) v
  so = rw e (row_given n k above r.sent.demand o is)

  pub row_stop : (f : Finding) → v ≡ Err f → First (row_findings desk n (k + 1) above r) (Err f)
  row_stop f q = then-stop _ _ f (rw q at so)

  pub row_rest : v ≡ fine → (s : Result Unit Finding) → First (sending_findings (k + 1) r) s → First (row_findings desk n (k + 1) above r) s
  row_rest q s h = then-on _ _ s (rw q at so) h

-- ---- what it means that nothing is found

pub same-number : (a b : ℕ) → ((a ≡ b → ⊥) → ⊥) → a ≡ b
same-number a b n = elim (ℕ_discrete a b) [ yes e ↦ e | no d ↦ absurd (n d) ]

pub way-of : (r : Routed) → ((GoesByRuleD r → ⊥) → ⊥) → GoesByRuleD r
way-of r n = record { front = λ e. front r.way refl e; back = λ e h. back r.way refl e h }
  where
    front : (w : Way) → r.way ≡ w → r.sent.back ≡ 0 → r.way ≡ Front
    front Front q e = q
    front Back q e = absurd (n (λ k. absurd (cc (k.front e))))

    back : (w : Way) → r.way ≡ w → r.sent.front ≡ 0 → 0 < r.sent.back → r.way ≡ Back
    back Front q e h = absurd (n (λ k. absurd (cc (k.back e h))))
    back Back q e h = q

-- of one row, whichever place it has
pub record Fine (limits : Limits) (n : ℕ) (r : Routed) : Type 0 where
  pub on : OnRing n r.sent.demand
  pub amount : r.sent.demand.amount ≤ limits.amount
  pub sums : SumsTo2d r.sent
  pub way : GoesByRuleD r

-- at its place, behind the row above it
pub record FineAt (limits : Limits) (n place : ℕ) (above : Option Demand) (r : Routed) : Type 0 where
  pub fine : Fine limits n r
  pub order : Falls above r.sent.demand → ⊥
  pub count : place ≤ limits.rows

up-to : (q r : Demand) → (PairBefore r.first r.second q.first q.second → ⊥) → InTableOrder q r
up-to q r n =
    elim (dec_lt q.first r.first) [
      | yes l ↦ inl l
      | no l ↦
          let k : r.first < q.first → ⊥ = λ m. n (inl m) in
          let e : r.first ≡ q.first = omega arith in
          let m : r.second < q.second → ⊥ = λ m. n (inr (e, m)) in
          inr (omega arith, omega arith)
    ]

not-below : (q r : Demand) → InTableOrder q r → PairBefore r.first r.second q.first q.second → ⊥
not-below q r (inl l) (inl m) = omega arith
not-below q r (inl l) (inr m) = omega (arith, m.0)
not-below q r (inr l) (inl m) = omega (arith, l.0)
not-below q r (inr l) (inr m) = omega (arith, l.1, m.1)

-- rows do not fall behind the row above
abbrev pub From : Option Demand → List Routed → Type 0
From None rs = Steps InTableOrder (demands (sents rs))
From (Some q) rs = Steps InTableOrder (q ∷ demands (sents rs))

nothing-behind : (above : Option Demand) → From above []
nothing-behind None = no_member
nothing-behind (Some q) = one_member

start-with : (above : Option Demand) (r : Routed) (rs : List Routed) → (Falls above r.sent.demand → ⊥) → From (Some r.sent.demand) rs → From above (r ∷ rs)
start-with None r rs n s = s
start-with (Some q) r rs n s = step (up-to q r.sent.demand n) s

pub behind : (above : Option Demand) (r : Routed) (rs : List Routed) → From above (r ∷ rs) → (Falls above r.sent.demand → ⊥) × From (Some r.sent.demand) rs
behind None r rs s = (λ f. f, s)
behind (Some q) r rs (step u s) = (not-below q r.sent.demand u, s)

-- a row on the ring has both its nodes
pub has-nodes : (n : ℕ) (r : Demand) → OnRing n r → NoNode n r.first ⊎ NoNode n r.second → ⊥
has-nodes n r on (inl (inl l)) = omega (arith, on.low)
has-nodes n r on (inl (inr l)) = omega (arith, on.order, on.high)
has-nodes n r on (inr (inl l)) = omega (arith, on.low, on.order)
has-nodes n r on (inr (inr l)) = omega (arith, on.high)

module _ (limits : Limits) (n : ℕ) where
  pub row-fine : (place : ℕ) (above : Option Demand) (r : Routed) → First (row_findings limits n place above r) fine → FineAt limits n place above r
  unfolding then
  row-fine place above r h =
      let a = none-of h in
      let b = none-of a.1 in
      let c = none-of b.1 in
      let d = none-of c.1 in
      let e = none-of d.1 in
      let f = none-of e.1 in
      let g = none-of f.1 in
      let low : r.sent.demand.first < 1 → ⊥ = λ l. a.0 (inl (inl l)) in
      let high : n < r.sent.demand.second → ⊥ = λ l. a.0 (inr (inr l)) in
      let order : r.sent.demand.second ≤ r.sent.demand.first → ⊥ = b.0 in
      let count : limits.rows < place → ⊥ = d.0 in
      let amount : limits.amount < r.sent.demand.amount → ⊥ = e.0 in
      record {
        fine = record { on = record { low = omega arith; order = omega arith; high = omega arith }; amount = omega arith; sums = same-number _ _ f.0; way = way-of r g.0 };
        order = c.0;
        count = omega arith;
      }

  fine-row : (place : ℕ) (above : Option Demand) (r : Routed) → FineAt limits n place above r → First (row_findings limits n place above r) fine
  unfolding then
  fine-row place above r ok =
      let f = ok.fine in
      inr
      (has-nodes n r.sent.demand f.on, inr (λ l. omega (arith, f.on.order), inr (ok.order, inr (λ l. omega (arith, ok.count), inr (λ l. omega (arith, f.amount), inr (λ d. d f.sums, inr (λ d. d f.way, refl)))))))

  pub record FineRows (place : ℕ) (above : Option Demand) (rs : List Routed) : Type 0 where
    pub each : Each (Fine limits n) rs
    pub order : From above rs
    pub count : place + length rs ≤ max place (limits.rows + 1)

  pub rows-fine : (place : ℕ) (above : Option Demand) (rs : List Routed) → First (rows_findings limits n place above rs) fine → FineRows place above rs
  rows-fine place above [] h = record { each = none; order = nothing-behind above; count = omega arith }
  rows-fine place above (r ∷ rs) h =
      let p = both-of (row_findings limits n place above r) (rows_findings limits n (place + 1) (Some r.sent.demand) rs) h in
      let ok = row-fine place above r p.0 in
      let later = rows-fine (place + 1) (Some r.sent.demand) rs p.1 in
      record { each = more ok.fine later.each; order = start-with above r rs ok.order later.order; count = omega (arith, ok.count, later.count) }

  pub fine-rows : (place : ℕ) (above : Option Demand) (rs : List Routed) → Each (Fine limits n) rs → From above rs → place + length rs ≤ limits.rows + 1
      → First (rows_findings limits n place above rs) fine
  fine-rows place above [] none s count = refl
  fine-rows place above (r ∷ rs) (more f e) s count =
      let t = behind above r rs s in
      then-on (row_findings limits n place above r) (rows_findings limits n (place + 1) (Some r.sent.demand) rs) fine
      (fine-row place above r (record { fine = f; order = t.0; count = omega arith }))
      (fine-rows (place + 1) (Some r.sent.demand) rs e t.1 (omega arith))
