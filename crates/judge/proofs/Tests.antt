-- Each test is of its finding's fact, and a table's faults are its findings, so what is judged is the first finding.
use Rattle.std.proofs.Common.{ℕ, ◌+◌, ◌*◌, ◌<◌, ◌≤◌, Bool, List, [], ◌∷◌, ◌++◌, Option, Some, None, Result, Ok, Err, ◌⊎◌, inl, inr, ◌≡◌, refl, ap, length, arith}
use Rattle.ring.specs.declared.types.Demand.{Demand}
use Rattle.ring.specs.declared.types.Routed.{Routed}
use Rattle.ring.specs.declared.types.Way.{Way}
use Rattle.ring.specs.declared.types.Way.TheVariants.{Front, Back}
use Rattle.ring.specs.declared.types.Cut.{Cut}
use Rattle.ring.specs.declared.types.Link.{Link}
use Rattle.ring.specs.declared.types.Figures.{Figures}
use Rattle.ring.specs.Limits.{Limits, desk}
use Rattle.ring.specs.LineSize.{line_size_of}
use Rattle.ring.specs.Cut.{IsCut, across}
use Rattle.ring.specs.Sheet.{Sheet, figures_of, sents, demands, true_link, split_peak, unsplit_peak, largest_split_of}
use Rattle.ring.specs.True.{GoesByRuleD}
use Rattle.reasons.specs.AndThen.{and_then}
use Rattle.reasons.specs.Findings.{Findings, nothing, finding, then, found, First}
use Rattle.reasons.specs.RowFindings.{ring_findings, demand_findings}
use Rattle.reasons.specs.declared.finding.Finding.{Finding}
use Rattle.reasons.specs.declared.reason.Reason.{Reason}
use Rattle.reasons.proofs.Findings.{then-on, then-stop, one-answer}
use Rattle.reasons.proofs.Faults.{ring-first, row-first}
use Rattle.reasons.proofs.Tested.{Tested, is_so, not_so, test_of, test-or, test-and, test-less, test-most, test-same, test-other}
use Rattle.judge.specs.Findings.{row_findings, rows_findings, cut_findings, links_findings, loads_findings, last_findings, findings}
use Rattle.judge.proofs.Rows.{same-number}
use Rattle.judge.specs.Tests.{Test, first_of, strays, row_tests, row_judged, rows_judged, cut_tests, differs, links_tests, loads_tests, last_tests, figures_tests, sheet_judged}

-- ---- test by test

data AllTested : Findings → List Test → Type 1 where
  no_test : AllTested nothing []
  test : {A : Type 0} {b : Bool} {reason : Reason} {place : ℕ} {fs : Findings} {ts : List Test} → Tested A b → AllTested fs ts → AllTested (finding A reason place fs) ((b, found reason place) ∷ ts)

first-tested : {fs : Findings} {ts : List Test} → AllTested fs ts → First fs (first_of ts)
unfolding first_of
first-tested no_test = refl
first-tested (test (is_so a) t) = inl (a, refl)
first-tested (test (not_so n) t) = inr (n, first-tested t)

tested-then : {fs gs : Findings} {ts us : List Test} → AllTested fs ts → AllTested gs us → AllTested (then fs gs) (ts ++ us)
unfolding then
tested-then no_test u = u
tested-then (test a t) u = test a (tested-then t u)

-- so of tests behind an answer that is the first
first-or : (fs gs : Findings) (r s : Result Unit Finding) → First fs r → First gs s → First (then fs gs) (and_then r λ u. s)
first-or fs gs (Ok tt) s h k = then-on fs gs s h k
first-or fs gs (Err f) s h k = then-stop fs gs f h

-- ---- a row

strays-tested : (r : Routed) (w : Way) → r.way ≡ w → Tested (GoesByRuleD r → ⊥) (strays w r.sent)
unfolding strays
strays-tested r Front e =
    test_of (λ p k. absurd (cc (e, k.back p.0 p.1))) (λ n m. m (record { front = λ z. e; back = λ z l. absurd (n (z, l)) }))
    (test-and (test-same r.sent.front 0) (test-less 0 r.sent.back))
strays-tested r Back e =
    test_of (λ z k. absurd (cc (e, k.front z))) (λ n m. m (record { front = λ z. absurd (n z); back = λ z l. e })) (test-same r.sent.back 0)

row-tested : (limits : Limits) (n k : ℕ) (above : Option Demand) (r : Routed) → First (row_findings limits n (k + 1) above r) (row_judged limits n k above r)
unfolding row_judged row_tests
row-tested limits n k above r =
    first-or (demand_findings limits n (k + 1) above r.sent.demand) _ _ _ (row-first limits n k above r.sent.demand)
    (first-tested (test (test-other (r.sent.front + r.sent.back) (2 * r.sent.demand.amount)) (test (strays-tested r r.way refl) no_test)))

rows-tested : (limits : Limits) (n k : ℕ) (above : Option Demand) (rs : List Routed) → First (rows_findings limits n (k + 1) above rs) (rows_judged limits n k above rs)
unfolding rows_judged
rows-tested limits n k above [] = refl
rows-tested limits n k above (r ∷ rs) =
    first-or (row_findings limits n (k + 1) above r) (rows_findings limits n (k + 1 + 1) (Some r.sent.demand) rs) _ _ (row-tested limits n k above r) (rows-tested limits n (k + 1) (Some r.sent.demand) rs)

-- ---- the figures

module _ (n : ℕ) (rs : List Routed) (c : Cut) where
  abbrev Number : Type 0
  Number = c.across ≡ across (demands (sents rs)) c.g c.h → ⊥

  abbrev Any : Type 0
  Any = (((c.g < 1) ⊎ (c.h ≤ c.g)) ⊎ (n < c.h)) ⊎ Number

  cut_there : Any → (IsCut n c → ⊥) ⊎ Number
  cut_there (inl (inl (inl l))) = inl (λ k. omega (arith, k.low))
  cut_there (inl (inl (inr l))) = inl (λ k. omega (arith, k.order))
  cut_there (inl (inr l)) = inl (λ k. omega (arith, k.high))
  cut_there (inr d) = inr d

  cut_back : (Any → ⊥) → (IsCut n c → ⊥) ⊎ Number → ⊥
  cut_back none (inr d) = none (inr d)
  cut_back none (inl wrong) =
      let low : c.g < 1 → ⊥ = λ l. none (inl (inl (inl l))) in
      let order : c.h ≤ c.g → ⊥ = λ l. none (inl (inl (inr l))) in
      let high : n < c.h → ⊥ = λ l. none (inl (inr l)) in
      wrong (record { low = omega arith; order = omega arith; high = omega arith })

  cut-tested : AllTested (cut_findings n rs c) (cut_tests n rs c)
  unfolding cut_tests
  cut-tested =
      let number = across (demands (sents rs)) c.g c.h in
      test (test_of cut_there cut_back (test-or (test-or (test-or (test-less c.g 1) (test-most c.h c.g)) (test-less n c.h)) (test-other c.across number))) no_test

link-tested : (a b : Link) → Tested (a ≡ b → ⊥) (differs a b)
unfolding differs
link-tested a b = test_of there back (test-or (test-or (test-other a.link b.link) (test-other a.split b.split)) (test-other a.unsplit b.unsplit))
  where
    there : ((a.link ≡ b.link → ⊥) ⊎ (a.split ≡ b.split → ⊥)) ⊎ (a.unsplit ≡ b.unsplit → ⊥) → a ≡ b → ⊥
    there (inl (inl d)) e = d (ap (λ (l : Link). l.link) e)
    there (inl (inr d)) e = d (ap (λ (l : Link). l.split) e)
    there (inr d) e = d (ap (λ (l : Link). l.unsplit) e)

    back : (((a.link ≡ b.link → ⊥) ⊎ (a.split ≡ b.split → ⊥)) ⊎ (a.unsplit ≡ b.unsplit → ⊥) → ⊥) → (a ≡ b → ⊥) → ⊥
    back none wrong =
        let x = same-number a.link b.link (λ d. none (inl (inl d))) in
        let y = same-number a.split b.split (λ d. none (inl (inr d))) in
        let z = same-number a.unsplit b.unsplit (λ d. none (inr d)) in
        wrong (λ i. record { link = x i; split = y i; unsplit = z i })

links-tested : (due : ℕ → Link) (place : ℕ) (ls : List Link) → AllTested (links_findings due place ls) (links_tests due place ls)
unfolding links_tests
links-tested due place [] = no_test
links-tested due place (l ∷ ls) = test (link-tested l (due place)) (links-tested due (place + 1) ls)

loads-tested : (n : ℕ) (due : ℕ → Link) (ls : List Link) → AllTested (loads_findings n due ls) (loads_tests n due ls)
unfolding loads_tests
loads-tested n due ls = test (test-other (length ls) n) (links-tested due 1 ls)

last-tested : (x : Figures) (split unsplit largest : ℕ) → AllTested (last_findings x split unsplit largest) (last_tests x split unsplit largest)
unfolding last_tests
last-tested x split unsplit largest =
    test (test-or (test-other x.unsplit_peak unsplit) (test-other x.size (line_size_of x.ring unsplit)))
    (test (test-other split x.cut.across)
    (test (test-less (split + 3 * largest) (2 * unsplit))
    no_test))

-- ---- all of them

pub first-judged : (limits : Limits) (x : Sheet) → First (findings limits x) (sheet_judged limits x)
unfolding sheet_judged figures_tests
first-judged limits x =
    first-or (ring_findings limits x.ring) _ _ _ (ring-first limits x.ring)
    (first-or (rows_findings limits x.ring.nodes 1 None x.rows) _ _ _ (rows-tested limits x.ring.nodes 0 None x.rows)
    (first-tested
    (tested-then (cut-tested x.ring.nodes x.rows x.cut)
    (tested-then (loads-tested x.ring.nodes (true_link x.rows) x.links)
    (last-tested (figures_of x) (split_peak x) (unsplit_peak x) (largest_split_of x))))))

-- so an answer that is the first is that of the tests
pub first-is-judged : (limits : Limits) (x : Sheet) (r : Result Unit Finding) → First (findings limits x) r → r ≡ sheet_judged limits x
first-is-judged limits x r h = one-answer (findings limits x) r (sheet_judged limits x) h (first-judged limits x)

-- ---- of the desk's limits

pub judged-first : (x : Sheet) → First (findings desk x) (sheet_judged desk x)
judged-first = first-judged desk

pub judged-is : (x : Sheet) (r : Result Unit Finding) → First (findings desk x) r → r ≡ sheet_judged desk x
judged-is = first-is-judged desk
