-- The least of five rules: what the call says keeps its promise, and what its figures prove: the floor is half of M, below which no ways come.
use Rattle.std.proofs.Common.{◌≡◌, ℕ, ◌*◌, ◌-◌, ◌^◌, ◌≤◌, List, ◌++◌, take, drop, length, refl, sym, ap, subst, ◌∙◌, arith, Ok, Err, Result}
use Rattle.std.specs.Prelude.{IsOk, IfOk}
use lib.Seq.{take-append_seam}
use Rattle.ring.specs.Limits.{desk}
use Rattle.ring.specs.RuleA.{rule_a}
use Rattle.ring.specs.declared.types.Ring.{Ring}
use Rattle.ring.specs.declared.types.Demand.{Demand}
use Rattle.ring.specs.declared.types.Routed.{Routed}
use Rattle.ring.specs.Sheet.{sheet_of}
use Rattle.std.proofs.lemmas.List.{length-map}
use Rattle.ring.specs.Routing.{way_number}
use Rattle.engines.specs.declared.Engine.{Engine}
use Rattle.engines.specs.declared.Engine.TheVariants.{Level}
use Rattle.engines.specs.Engine.{split_routing_by, unsplit_routing_by}
use Rattle.engines.proofs.Engines.{split-peak, bound-by}
use Rattle.reasons.specs.declared.reason.Reason.{Reason}
use Rattle.reasons.specs.declared.reason.Refusal.{Refusal}
use Rattle.table.specs.ReadInto.{with_rows}
use Rattle.table.specs.ReadTable.{table_of}
use Rattle.table.specs.Says.{Given, Accepted}
use Rattle.table.proofs.Told.{read-refusal}
use Rattle.table.proofs.ReasonsGiven.{one-given, given}
use Rattle.best.specs.Best.{splits}
use Rattle.best.specs.Choices.{choose, tried_of, best_over}
use Rattle.best.proofs.BestWays.{is-best, best-leads}
use Rattle.router.specs.Plans.{best_choice, GoBy, by_rule_D, by_best_choice}
use Rattle.sheet.specs.WriteSheet.{write_sheet}
use Rattle.turns.specs.Turns.{peak_of}
use Rattle.least.specs.declared.rule.LeastRule.TheVariants.{BestChoice, RuleD}
use Rattle.least.specs.declared.Least.{Least}
use Rattle.least.specs.Least.{LeastIs, goes_best, goes_rule_D}
use Rattle.least.proofs.Seeking.{one-least, ways-demands, no-peak-below}
use Rattle.ringkit.specs.Says.{Only, Refused}
use Rattle.ringkit.specs.Texts.{PlanDue}
use Rattle.ringkit.specs.Crossing.{WithinBound}
use Rattle.ringkit.specs.Turning.{ways_of}
use Rattle.ringkit.specs.LeastPeak.{LeastAnswer, least_table, LeastDue, LeastAnswered, LeastSays, is_given, is_not, LeastPromise, SentWhole, NoneBelow, NoneLowerBy, WithinRuleD, WithinCrossed}
use Rattle.ringkit.specs.declared.least_peak.LeastTable.{LeastTable}
use Rattle.ringkit.proofs.Calls.{same-err, same_start}
use Rattle.ringkit.proofs.PlanCalls.{read-table-of}
use Rattle.ringkit.proofs.CrossingCalls.{bounded}
use Rattle.ringkit.proofs.TableCalls.{same-values, no-reason}

module _ (t : List ℕ) where
  -- ---- one answer is due, or one refusal given

  same-due : {x y : Least} {a b : List ℕ} → LeastDue t x a → LeastDue t y b → (x ≡ y) × (a ≡ b)
  same-due d e =
      let v = same-values d.of e.of in
      let er = v.0 in
      let es = v.1 in
      let one = one-least (rw (er, es) at d.least) e.least in
      (one.0, d.is ∙ ap ways_of one.1 ∙ sym e.is)

  -- no ways of its rows come below the floor
  none-below : {x : Least} {bytes : List ℕ} → LeastDue t x bytes → NoneBelow t x.floor
  none-below d other peak s =
      let v = same-values s.of d.of in
      let er = v.0 in
      let es = v.1 in
      let low = no-peak-below d.ring.nodes d.rs d.of.range.within.few s.ways (s.demands ∙ es) in
      omega (arith, low, d.least.floor, rw er at s.comes_to)

  module _ {old new : List ℕ} {r : LeastAnswer} where
    same-given : {x y : Least} {a b : List ℕ} → LeastAnswered x a old new r → LeastAnswered y b old new r → (x ≡ y) × (a ≡ b)
    same-given {x} {y} {a} {b} g h =
        let e = sym g.answer ∙ h.answer in
        let tables : ◌≡◌ {A = LeastTable} (record { least = x; rows = length a }) (record { least = y; rows = length b }) = cc in
        (ap (λ (t : LeastTable). t.least) tables, same_start a b (drop (length a) old) (drop (length b) old) (ap (λ (t : LeastTable). t.rows) tables) (sym g.ways ∙ h.ways))

    no-refusal : {x : Least} {a : List ℕ} {reason : Reason} {line byte : ℕ} → LeastAnswered x a old new r → Refused reason line byte old new r → ⊥
    no-refusal g n = let w = sym g.answer ∙ n.answer in absurd (let z : ◌≡◌ {A = ℕ} 0 1 = cc in omega arith)

    -- ---- the promise

    pub least-promise : LeastSays t old new r → LeastPromise t old new r
    least-promise s = record { cases = s; gives = λ x bytes. (λ g. is-due s g, λ d. gives s d); refuses = λ reason line byte. (λ n. is-reason s n, λ g. refuses s g) }
      where
        is-due : {x : Least} {bytes : List ℕ} → LeastSays t old new r → LeastAnswered x bytes old new r → LeastDue t x bytes
        is-due (is_given d g) h = let e = same-given g h in rw (e.0, e.1) at d
        is-due (is_not g n) h = absurd (no-refusal h n)

        gives : {x : Least} {bytes : List ℕ} → LeastSays t old new r → LeastDue t x bytes → LeastAnswered x bytes old new r
        gives (is_given d g) e = let one = same-due d e in rw (one.0, one.1) at g
        gives (is_not g n) d = absurd (no-reason d.of g)

        is-reason : {reason : Reason} {line byte : ℕ} → LeastSays t old new r → Refused reason line byte old new r → Given desk t reason line byte
        is-reason (is_given d g) n = absurd (no-refusal g n)
        is-reason (is_not g f) n = subst (λ (x : Refusal). Given desk t x.reason x.line x.byte) (same-err (sym f.answer ∙ n.answer)) g

        refuses : {reason : Reason} {line byte : ℕ} → LeastSays t old new r → Given desk t reason line byte → Refused reason line byte old new r
        refuses (is_given d f) g = absurd (no-reason d.of g)
        refuses (is_not h f) g = let e = one-given g h in rw (e.0, e.1, e.2) f

    -- no other bytes and no other answer keep it
    pub least-only : LeastSays t old new r → Only (LeastPromise t old) new r
    least-only s = record { buffer = λ other q p. (go p s).0; answer = λ other q p. (go p s).1 }
      where
        go : {other : List ℕ} {q : LeastAnswer} → LeastPromise t old other q → LeastSays t old new r → (other ≡ new) × (q ≡ r)
        go p (is_given {x} {bytes} d g) = let o = (p.gives x bytes).1 d in (o.ways ∙ sym g.ways, o.answer ∙ sym g.answer)
        go p (is_not {reason} {line} {byte} g f) = let o = (p.refuses reason line byte).1 g in (o.buffer ∙ sym f.buffer, o.answer ∙ sym f.answer)

    -- an accepted table is given its answer
    pub least-accepted : LeastSays t old new r → Accepted desk t → IsOk r
    least-accepted (is_given d g) a = rw g.answer refl
    least-accepted (is_not {reason} {line} g n) a = absurd (a reason line g.holds)

    -- ---- what holds of an answer that is due

    of-due : (P : LeastTable → Type 0) → ((x : Least) (bytes : List ℕ) → LeastDue t x bytes → LeastAnswered x bytes old new r → P (record { least = x; rows = length bytes })) → LeastSays t old new r → IfOk r P
    of-due P f (is_given {x} {bytes} d g) = rw g.answer (f x bytes d g)
    of-due P f (is_not g n) = rw n.answer tt

    pub least-sent : LeastSays t old new r → IfOk r (λ x. SentWhole t (take x.rows new) x.least.peak)
    least-sent = of-due (λ x. SentWhole t (take x.rows new) x.least.peak) go
      where
        go : (x : Least) (bytes : List ℕ) → LeastDue t x bytes → LeastAnswered x bytes old new r → SentWhole t (take (length bytes) new) x.peak
        go x bytes d g =
            record {
              ring = d.ring;
              rs = d.rs;
              of = d.of;
              ways = d.ways;
              demands = ways-demands d.of.range.within.few d.of.range.within.rows.nodes d.least.sent.by;
              sent = ap (take (length bytes)) g.ways ∙ take-append_seam bytes (drop (length bytes) old) ∙ d.is;
              comes_to = d.least.peak;
            }

    pub least-floor : LeastSays t old new r → IfOk r (λ x. NoneBelow t x.least.floor)
    least-floor = of-due (λ x. NoneBelow t x.least.floor) (λ x bytes d g. none-below d)

    pub least-proved : LeastSays t old new r → IfOk r (λ x. x.least.peak ≡ x.least.floor → NoneBelow t x.least.peak)
    least-proved = of-due (λ x. x.least.peak ≡ x.least.floor → NoneBelow t x.least.peak) (λ x bytes d g e. rw e (none-below d))

    pub least-within : LeastSays t old new r → IfOk r (λ x. NoneLowerBy t x.least.peak (x.least.peak - x.least.floor))
    least-within = of-due (λ x. NoneLowerBy t x.least.peak (x.least.peak - x.least.floor)) (λ x bytes d g other peak s. omega (arith, none-below d other peak s))

    pub least-bound : LeastSays t old new r → IfOk r (λ x. WithinRuleD t x.least.peak)
    unfolding sheet_of peak_of
    least-bound = of-due (λ x. WithinRuleD t x.least.peak) (λ x bytes d g. go d)
      where
        go : {x : Least} {bytes : List ℕ} → LeastDue t x bytes → WithinRuleD t x.peak
        go {x} d =
            let n = d.ring.nodes in
            let low = λ (engine : Engine). d.least.sent.least (RuleD engine) (unsplit_routing_by engine n d.rs) (goes_rule_D by_rule_D) in
            record {
              ring = d.ring;
              rs = d.rs;
              of = d.of;
              plan = λ engine. omega (arith, d.least.peak, low engine);
              bound = λ engine. omega (arith, d.least.peak, low engine, bound-by engine n d.rs d.of.range.within.few d.of.range.within.rows, split-peak engine n d.rs d.of.range.within.few d.of.range.within.rows.nodes);
            }

    -- the best choice by level rooms is among the rules where all rows with amounts cross, and keeps to their bound
    pub least-crossed : LeastSays t old new r → IfOk r (λ x. WithinCrossed t x.least.peak)
    unfolding sheet_of peak_of
    least-crossed = of-due (λ x. WithinCrossed t x.least.peak) (λ x bytes d g bound c. go d (bounded t Level bound c))
      where
        go : {x : Least} {bytes : List ℕ} {bound : ℕ} → LeastDue t x bytes → WithinBound Level bound t → 2 * x.peak ≤ bound
        go d w =
            let n = d.ring.nodes in
            let ss = split_routing_by Level n d.rs in
            let choice = best_over (tried_of n ss) 0 (2 ^ splits ss) (tried_of n ss 0) in
            let ways = choose choice.choice ss in
            let v = same-values w.few.of d.of in
            let er = v.0 in
            let es = v.1 in
            let few = rw (er, es) at w.few.few in
            let goes : GoBy n ss best_choice ways = by_best_choice few (is-best n ss choice (best-leads n ss)) in
            let y = sheet_of d.ring (rule_a n d.rs) ways in
            let due : PlanDue Level best_choice t (write_sheet y) = record { ring = d.ring; rs = d.rs; of = d.of; x = y; plan = record { ways = ways; go = goes; is = refl }; is = refl } in
            omega (arith, w.peak (write_sheet y) due, d.least.peak, d.least.sent.least (BestChoice Level) ways (goes_best goes))

  -- ---- a text that was read

  module _ (rs : List Demand) (answer : Result Ring Refusal) (e : with_rows rs answer ≡ table_of desk t) where
    pub least-refused : (old : List ℕ) (x : Refusal) → answer ≡ Err x → LeastSays t old old (Err x)
    least-refused old x a = is_not ((given desk t x).0 (read-refusal t rs answer e x a)) (record { answer = refl; buffer = refl })

    pub least-given : (ring : Ring) → answer ≡ Ok ring → (ways : List Routed) (x : Least) (count : ℕ) (old new : List ℕ) → LeastIs ring.nodes rs x ways →
        count ≡ length ways → new ≡ ways_of ways ++ drop (length ways) old → LeastSays t old new (least_table x count)
    least-given ring a ways x count old new is c w =
        let many : length (ways_of ways) ≡ length ways = length-map ways (λ (r : Routed). way_number r.way) in
        is_given (record { ring = ring; rs = rs; of = read-table-of t rs answer e ring a; ways = ways; least = is; is = refl })
        (record { answer = rw (c, many) refl; ways = rw many w })
