-- What is found against a sheet whose values are in range: 8 to 14 alone.
use Prim.Native.Nat.{ℕ, ◌+◌, ◌≤◌}
use mathlib.Core.List.{List, [], ◌∷◌}
use lib.ListN.{length}
use mathlib.Core.Logic.{inl, inr, ⊎_elim}
use mathlib.Core.Path.{◌≡◌}
use native.Mathlib.Omega.{arith}
use Rattle.std.specs.Prelude.{Option, Some, None, Err}
use Rattle.ring.specs.declared.types.Demand.{Demand}
use Rattle.ring.specs.declared.types.Routed.{Routed}
use Rattle.ring.specs.declared.types.Link.{Link}
use Rattle.ring.specs.Limits.{Limits}
use Rattle.ring.specs.Lists.{Each, none, more}
use Rattle.ring.specs.Demand.{OnRing}
use Rattle.ring.specs.Sheet.{Sheet, true_link}
use Rattle.ring.proofs.Small.{demands-length, each-of-demands}
use Rattle.reasons.specs.Findings.{Findings, nothing, finding, then, found, First}
use Rattle.reasons.specs.RowFindings.{ring_findings, demand_findings}
use Rattle.reasons.specs.declared.finding.Finding.{Finding}
use Rattle.reasons.specs.declared.reason.Reason.{Reason}
use Rattle.reasons.specs.declared.reason.Reason.TheVariants.{WrongSum, WrongWay, WrongCut, WrongLink, WrongLast, NotTight, OverBound}
use Rattle.judge.specs.Findings.{sending_findings, row_findings, rows_findings, cut_findings, links_findings, loads_findings, findings}
use Rattle.judge.proofs.Rows.{From, behind, has-nodes}
use Rattle.sheet.specs.Range.{InRange}

-- ---- what holds of each finding whose fact holds, holds of the first

abbrev pub All : (Reason → Type 0) → Findings → Type 0
All P nothing = Unit {0}
All P (finding A reason place fs) = (A → P reason) × All P fs

pub first-is : (P : Reason → Type 0) (fs : Findings) (f : Finding) → All P fs → First fs (Err f) → P f.reason
first-is P nothing f all h = absurd (cc)
first-is P (finding A reason place fs) f all (inl h) = let e : f ≡ found reason place = cc in rw e (all.0 h.0)
first-is P (finding A reason place fs) f all (inr h) = first-is P fs f all.1 h.1

all-then : (P : Reason → Type 0) (fs gs : Findings) → All P fs → All P gs → All P (then fs gs)
unfolding then
all-then P nothing gs a b = b
all-then P (finding A reason place fs) gs a b = (a.0, all-then P fs gs a.1 b)

-- ---- 8 to 14

pub data OfFigures : Reason → Type 0 where
  a_sum : OfFigures WrongSum
  a_way : OfFigures WrongWay
  a_cut : OfFigures WrongCut
  a_link : OfFigures WrongLink
  a_last : OfFigures WrongLast
  a_peak : OfFigures NotTight
  a_bound : OfFigures OverBound

module _ (limits : Limits) (n : ℕ) where
  all-rows : (place : ℕ) (above : Option Demand) (rs : List Routed) → Each (λ (r : Routed). OnRing n r.sent.demand) rs → Each (λ (r : Routed). r.sent.demand.amount ≤ limits.amount) rs
      → From above rs → place + length rs ≤ limits.rows + 1 → All OfFigures (rows_findings limits n place above rs)
  all-rows place above [] none none s count = tt
  all-rows place above (r ∷ rs) (more on ons) (more amount amounts) s count =
      let t = behind above r rs s in
      all-then OfFigures (row_findings limits n place above r) (rows_findings limits n (place + 1) (Some r.sent.demand) rs)
      (all-then OfFigures (demand_findings limits n place above r.sent.demand) (sending_findings place r)
      (λ h. absurd (has-nodes n r.sent.demand on h), (λ l. absurd (omega (arith, on.order)), (λ f. absurd (t.0 f), (λ l. absurd (omega arith), (λ l. absurd (omega (arith, amount)), tt)))))
      (λ _. a_sum, (λ _. a_way, tt)))
      (all-rows (place + 1) (Some r.sent.demand) rs ons amounts t.1 (omega arith))

all-links : (due : ℕ → Link) (k : ℕ) (ls : List Link) → All OfFigures (links_findings due k ls)
all-links due k [] = tt
all-links due k (x ∷ ls) = (λ _. a_link, all-links due (k + 1) ls)

pub all-figures : (limits : Limits) (x : Sheet) → InRange limits x → All OfFigures (findings limits x)
all-figures limits x range =
    let on = each-of-demands x.rows range.within.rows.nodes in
    let amounts = each-of-demands x.rows range.within.amounts in
    all-then _ (ring_findings limits x.ring) _
    (⊎_elim (λ l. absurd (omega (arith, range.within.few))) (λ l. absurd (omega (arith, range.within.many))), (λ d. absurd (d range.within.fibres), tt))
    (all-then _ (rows_findings limits x.ring.nodes 1 None x.rows) _ (all-rows limits x.ring.nodes 1 None x.rows on amounts range.within.rows.order (omega (arith, range.within.count, demands-length x.rows)))
    (all-then _ (cut_findings x.ring.nodes x.rows x.cut) _ (λ _. a_cut, tt)
    (all-then _ (loads_findings x.ring.nodes (true_link x.rows) x.links) _ (λ _. a_link, all-links (true_link x.rows) 1 x.links)
    (λ _. a_last, (λ _. a_peak, (λ _. a_bound, tt))))))
