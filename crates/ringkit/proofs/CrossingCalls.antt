-- Whether all rows cross: what the call answers by what its text is read to keeps its promise; and where it answers a bound, the plans by the best choice keep to it.
use Prim.Native.Nat.{ℕ, ◌≤◌}
use mathlib.Core.List.{List}
use mathlib.Core.Logic.{◌↔◌}
use mathlib.Core.Path.{◌≡◌, refl, ap, subst}
use native.Mathlib.Omega.{arith}
use Rattle.std.specs.Prelude.{Result, Ok, Err}
use Rattle.ring.specs.Limits.{desk}
use Rattle.ring.specs.declared.types.Ring.{Ring}
use Rattle.ring.specs.declared.types.Demand.{Demand}
use Rattle.table.specs.ReadInto.{with_rows}
use Rattle.table.specs.ReadTable.{Table, table_of}
use Rattle.table.specs.Says.{Given}
use Rattle.table.proofs.Told.{read-table, read-refusal}
use Rattle.table.proofs.ReasonsGiven.{one-given, given}
use Rattle.reasons.specs.Refusals.{refuse}
use Rattle.reasons.specs.declared.reason.Reason.{Reason}
use Rattle.reasons.specs.declared.reason.Refusal.{Refusal}
use Rattle.best.specs.Best.{most_split}
use Rattle.engines.specs.declared.Engine.{Engine}
use Rattle.crossing.specs.AllCross.{AllCross, with_amount, crossed_bound}
use Rattle.crossing.specs.Crossing.{CrossingIs, all, parallel, many}
use Rattle.crossing.specs.declared.crossing.Crossing.{Crossing}
use Rattle.crossing.specs.declared.crossing.Crossing.TheVariants.{All, Parallel, Many}
use Rattle.crossing.proofs.Crossed.{splits-with-amount, best-within-bound}
use Rattle.crossing.proofs.OneAnswer.{one-answer}
use Rattle.ringkit.specs.Crossing.{CrossingAnswer, all_cross, CrossingOf, CrossingSays, answered, refused, CrossingPromise, WithinBound}
use Rattle.ringkit.specs.CrossingCalls.{CrossingAsked}
use Rattle.ringkit.proofs.Calls.{same-err}
use Rattle.ringkit.proofs.TableCalls.{read_is, same-values, no-reason}

-- ---- where all rows with amounts cross and are few

record Crosses (ring : Ring) (rs : List Demand) (bound : ℕ) : Type 0 where
  cross : AllCross rs
  few : with_amount rs ≤ most_split
  is : bound ≡ crossed_bound ring.nodes rs

crosses : (ring : Ring) (rs : List Demand) {crossing : Crossing} (bound : ℕ) → CrossingIs ring.nodes rs crossing → crossing ≡ All bound → Crosses ring rs bound
crosses ring rs bound (all cross few) e = let is : bound ≡ crossed_bound ring.nodes rs = cc in record { cross = cross; few = few; is = is }
crosses ring rs bound (parallel f) e = absurd (cc)
crosses ring rs bound (many c l) e = absurd (cc)

pub bounded : (t : List ℕ) (engine : Engine) (bound : ℕ) → CrossingOf t (All bound) → WithinBound engine bound t
bounded t engine bound x =
    let c = crosses x.ring x.rs bound x.is refl in
    let two = x.of.range.within.few in
    let table = x.of.range.within.rows in
    record {
      few = record { ring = x.ring; rs = x.rs; of = x.of; few = omega (arith, splits-with-amount engine x.ring.nodes x.rs two table c.cross, c.few) };
      peak = λ sheet due.
          let e = same-values due.of x.of in
          let er = e.0 in
          let es = e.1 in
          let l = best-within-bound engine x.ring x.rs two table c.cross due.x (rw (er, es) at due.plan) in
          omega (arith, l, c.is);
    }

module _ (t : List ℕ) where
  -- ---- what comes of reading

  module _ (rs : List Demand) (answer : Result Ring Refusal) (e : with_rows rs answer ≡ table_of desk t) where
    pub ask_refused : (x : Refusal) → answer ≡ Err x → CrossingAsked (table_of desk t) (Err x)
    ask_refused x a = let read = read-refusal t rs answer e x a in rw read refl

    pub ask_answers : (ring : Ring) → answer ≡ Ok ring → (crossing : Crossing) → CrossingIs ring.nodes rs crossing → CrossingAsked (table_of desk t) (Ok crossing)
    ask_answers ring a crossing is = let read = read-table t rs answer e ring a in rw read is

  -- ---- the promise

  says : {r : CrossingAnswer} (x : Result Table Refusal) → table_of desk t ≡ x → CrossingAsked x r → CrossingSays t r
  says {r = Ok crossing} (Ok x) e is = answered (record { ring = x.0; rs = x.1; of = (read_is t x.0 x.1).0 e; is = is })
  says {r = Err r} (Ok x) e is = elim is [ ]
  says (Err x) e is = rw is (refused ((given desk t x).0 e))

  -- a table's rows have one answer
  one-crossing : {a b : Crossing} → CrossingOf t a → CrossingOf t b → a ≡ b
  one-crossing {a} {b} x y =
      let e = same-values x.of y.of in
      let er = e.0 in
      let es = e.1 in
      one-answer y.ring.nodes y.rs a b (rw (er, es) at x.is) y.is

  answers : {r : CrossingAnswer} → CrossingSays t r → (crossing : Crossing) → (r ≡ Ok crossing) ↔ CrossingOf t crossing
  answers (answered {crossing = c} x) crossing =
      (λ e. let same : c ≡ crossing = cc in subst (CrossingOf t) same x, λ y. ap (λ c. Ok c) (one-crossing x y))
  answers (refused g) crossing = (λ e. absurd (cc), λ y. absurd (no-reason y.of g))

  refusals : {r : CrossingAnswer} → CrossingSays t r → (reason : Reason) (line byte : ℕ) → (r ≡ refuse reason line byte) ↔ Given desk t reason line byte
  refusals (answered x) reason line byte = (λ e. absurd (cc), λ g. absurd (no-reason x.of g))
  refusals (refused g) reason line byte = (
    λ e. subst (λ (x : Refusal). Given desk t x.reason x.line x.byte) (same-err e) g,
    λ h. let o = one-given g h in rw (o.0, o.1, o.2),
  )

  module _ (r : CrossingAnswer) (asked : CrossingAsked (table_of desk t) r) where
    pub crossing-promise : CrossingPromise t r
    crossing-promise =
        let s = says (table_of desk t) refl asked in
        record {
          cases = s;
          all_cross = λ bound. answers s (All bound);
          parallel = λ p q. answers s (Parallel p q);
          many = answers s Many;
          refuses = refusals s;
        }

    -- no other answer keeps it
    pub crossing-only : (other : CrossingAnswer) → CrossingPromise t other → other ≡ r
    crossing-only other p = go crossing-promise.cases
      where
        go : {r : CrossingAnswer} → CrossingSays t r → other ≡ r
        go (answered {crossing = All bound} x) = (p.all_cross bound).1 x
        go (answered {crossing = Parallel a b} x) = (p.parallel a b).1 x
        go (answered {crossing = Many} x) = p.many.1 x
        go (refused {reason} {line} {byte} g) = (p.refuses reason line byte).1 g

    pub within-bound : (engine : Engine) (bound : ℕ) → r ≡ all_cross bound → WithinBound engine bound t
    within-bound engine bound e = bounded t engine bound ((crossing-promise.all_cross bound).0 e)
