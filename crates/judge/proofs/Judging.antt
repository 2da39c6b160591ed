-- All findings, part by part: what is given of a part is given of all, where nothing is found before it.
use Rattle.std.proofs.Common.{ℕ, ◌*◌, ◌^◌, ◌<◌, ◌≤◌, List, None, Result, Ok, Err, MatchResult, IsErrAnd, inl, inr, ◌≡◌, ap, ◌∙◌, arith}
use Rattle.std.proofs.lemmas.Result.{err_from_is_err_and}
use Rattle.ring.specs.declared.types.Ring.{Ring}
use Rattle.ring.specs.declared.types.Routed.{Routed}
use Rattle.ring.specs.Limits.{Limits, desk}
use Rattle.ring.specs.LineSize.{IsFibres}
use Rattle.ring.specs.Sheet.{Sheet, figures_of, true_link, largest_split_of}
use Rattle.ring.proofs.Lists.{each}
use Rattle.reasons.specs.Faults.{ring_found, found_at}
use Rattle.reasons.specs.Findings.{First, found}
use Rattle.reasons.specs.RowFindings.{ring_findings}
use Rattle.reasons.specs.declared.fault.Fault.{Fault}
use Rattle.reasons.proofs.Faults.{ring_given}
use Rattle.reasons.specs.declared.finding.Finding.{Finding}
use Rattle.reasons.proofs.Findings.{fine, then-on, then-stop, none-of, fibres-of}
use Rattle.weight.specs.Rows.{Fit}
use Rattle.weight.specs.Weighed.{weight_in, weighed_link}
use Rattle.weight.specs.declared.Weight.{Weight}
use Rattle.weight.proofs.Weighing.{small-amounts, peak-fits, link_is}
use Rattle.judge.specs.Findings.{rows_findings, cut_findings, loads_findings, last_findings, findings}
use Rattle.judge.proofs.Rows.{rows-fine}
use Rattle.judge.proofs.Links.{loads-same}

-- ---- the ring

pub record FineRing (limits : Limits) (ring : Ring) : Type 0 where
  pub few : limits.fewest ≤ ring.nodes
  pub many : ring.nodes ≤ limits.nodes
  pub fibres : IsFibres ring.fibres

pub ring-fine : (limits : Limits) (ring : Ring) → First (ring_findings limits ring) fine → FineRing limits ring
ring-fine limits ring h =
    let a = none-of h in
    let b = none-of a.1 in
    let low : ring.nodes < limits.fewest → ⊥ = λ l. a.0 (inl l) in
    let high : limits.nodes < ring.nodes → ⊥ = λ l. a.0 (inr l) in
    record { few = omega arith; many = omega arith; fibres = fibres-of ring.fibres b.0 }

-- a table's fault of a ring is what is found against it
pub ring_first : (ring : Ring) (o : Result Unit Fault) → o ≡ ring_found desk ring → (v : Result Unit Finding) {Maps : Fault → Finding → Type 0} → ((f : Fault) (g : Finding) → Maps f g → g ≡ found f.reason 0) →
    MatchResult o (λ x. v ≡ Ok x) (λ f. IsErrAnd v (Maps f)) → First (ring_findings desk ring) v
ring_first ring o is v {Maps} at cases = rw (same o cases) (ring_given ring o is)
  where
    same : (o : Result Unit Fault) → MatchResult o (λ x. v ≡ Ok x) (λ f. IsErrAnd v (Maps f)) → v ≡ found_at 0 o
    same (Ok tt) e = e
    same (Err f) e = let p = err_from_is_err_and v e in p.1 ∙ ap Err (at f p.0 p.2)

-- ---- so the rows can be weighed

pub rows-fit : (ring : Ring) (rs : List Routed) → First (ring_findings desk ring) fine → First (rows_findings desk ring.nodes 1 None rs) fine → Fit ring.nodes rs
rows-fit ring rs a b =
    let ok = rows-fine desk ring.nodes 1 None rs b in
    record {
      links = (ring-fine desk ring a).many;
      few = omega (arith, ok.count);
      each = each (λ r f. record { on = f.on; amount = f.amount; halves = omega (arith, f.sums, f.amount) }) ok.each;
    }

-- ---- part by part

module _ (x : Sheet) where
  pub at-ring : (f : Finding) → First (ring_findings desk x.ring) (Err f) → First (findings desk x) (Err f)
  at-ring = then-stop _ _

  module _ (a : First (ring_findings desk x.ring) fine) where
    pub at-rows : (f : Finding) → First (rows_findings desk x.ring.nodes 1 None x.rows) (Err f) → First (findings desk x) (Err f)
    at-rows f h = then-on _ _ _ a (then-stop _ _ f h)

    module _ (b : First (rows_findings desk x.ring.nodes 1 None x.rows) fine) where
      pub at-cut : (f : Finding) → First (cut_findings x.ring.nodes x.rows x.cut) (Err f) → First (findings desk x) (Err f)
      at-cut f h = then-on _ _ _ a (then-on _ _ _ b (then-stop _ _ f h))

      -- the links that are due by a weight, and its figures, are those of the rows
      module _ (c : First (cut_findings x.ring.nodes x.rows x.cut) fine) (w : Weight) (weighs : w ≡ weight_in x.ring.nodes x.rows) where
        links-of-rows : (r : Result Unit Finding) → First (loads_findings x.ring.nodes (weighed_link w) x.links) r → First (loads_findings x.ring.nodes (true_link x.rows) x.links) r
        links-of-rows =
            loads-same (weighed_link w) (true_link x.rows) x.ring.nodes x.links
            (λ k l h. ap (λ w. weighed_link w k) weighs ∙ link_is x.ring.nodes x.rows k l h)

        pub at-links : (f : Finding) → First (loads_findings x.ring.nodes (weighed_link w) x.links) (Err f) → First (findings desk x) (Err f)
        at-links f h = then-on _ _ _ a (then-on _ _ _ b (then-on _ _ _ c (then-stop _ _ f (links-of-rows (Err f) h))))

        pub carries : 2 * w.unsplit_peak < 2 ^ 32
        carries =
            let fit = rows-fit x.ring x.rows a b in
            omega (arith, peak-fits x.ring.nodes x.rows fit.few (small-amounts fit) w weighs)

        pub at-last : First (loads_findings x.ring.nodes (weighed_link w) x.links) fine → (largest : ℕ) → largest ≡ largest_split_of x → (r : Result Unit Finding) →
            First (last_findings (figures_of x) w.split_peak w.unsplit_peak largest) r → First (findings desk x) r
        unfolding weight_in
        at-last d largest is r h = then-on _ _ _ a (then-on _ _ _ b (then-on _ _ _ c (then-on _ _ _ (links-of-rows fine d) (rw (weighs, is) at h))))
