-- Nothing is found exactly where a sheet keeps to the limits and is true.
use Rattle.std.proofs.Common.{ℕ, ◌+◌, ◌*◌, ◌<◌, ◌≤◌, List, [], ◌∷◌, None, Result, Ok, Err, IsOk, ◌↔◌, inl, inr, ◌≡◌, refl, ap, sym, ◌∙◌, length, arith}
use Rattle.std.proofs.lemmas.List.{length-map}
use mathlib.Core.Logic.{⊎_elim}
use native.Mathlib.Decide.{dec_lt, dec_le}
use Rattle.family.specs.Sizes.{Known}
use Rattle.family.proofs.Sizes.{known-always}
use Rattle.ring.specs.declared.types.Routed.{Routed}
use Rattle.ring.specs.declared.types.Cut.{Cut}
use Rattle.ring.specs.declared.types.Link.{Link}
use Rattle.ring.specs.Limits.{Limits, desk}
use Rattle.ring.specs.Lists.{Each, none, more}
use Rattle.ring.specs.Demand.{OnRing}
use Rattle.ring.specs.Cut.{IsCut}
use Rattle.ring.specs.Sheet.{Sheet, figures_of, numbers_from, sents, demands, true_link, split_peak, unsplit_peak, largest_split_of}
use Rattle.ring.specs.True.{SumsTo2d, GoesByRuleD, TrueSheet}
use Rattle.ring.proofs.Lists.{each, each-map, each-of-map}
use Rattle.ring.proofs.Small.{demands-length, each-of-demands, each-demands}
use Rattle.reasons.specs.Findings.{Findings, then, First}
use Rattle.reasons.specs.RowFindings.{ring_findings}
use Rattle.reasons.specs.declared.finding.Finding.{Finding}
use Rattle.reasons.proofs.Findings.{fine, then-on, none-of, both-of, one-answer}
use Rattle.judge.specs.Findings.{sending_findings, rows_findings, cut_findings, loads_findings, last_findings, findings, Fits}
use Rattle.judge.proofs.Rows.{same-number, way-of, Fine, rows-fine, fine-rows}
use Rattle.judge.proofs.Links.{links-true, true-links, length-numbers}
use Rattle.judge.proofs.Judging.{ring-fine}

is-cut : (n : ℕ) (c : Cut) → ((IsCut n c → ⊥) → ⊥) → IsCut n c
is-cut n c is = record {
  low = elim (dec_le 1 c.g) [ yes l ↦ l | no l ↦ absurd (is (λ k. l k.low)) ];
  order = elim (dec_lt c.g c.h) [ yes l ↦ l | no l ↦ absurd (is (λ k. l k.order)) ];
  high = elim (dec_le c.h n) [ yes l ↦ l | no l ↦ absurd (is (λ k. l k.high)) ];
}

module _ (limits : Limits) (x : Sheet) where
  abbrev tail-of : Findings
  tail-of =
      then (loads_findings x.ring.nodes (true_link x.rows) x.links)
      (last_findings (figures_of x) (split_peak x) (unsplit_peak x) (largest_split_of x))

  pub fine-fits : Known limits.marks x.ring.family → First (ring_findings limits x.ring) fine → First (rows_findings limits x.ring.nodes 1 None x.rows) fine → Fits limits x
  fine-fits known a b =
      let ring = ring-fine limits x.ring a in
      let rows = rows-fine limits x.ring.nodes 1 None x.rows b in
      let rs = demands (sents x.rows) in
      let nodes = each-demands {P = OnRing x.ring.nodes} x.rows (each (λ r f. f.on) rows.each) in
      let amounts = each-demands {P = λ r. r.amount ≤ limits.amount} x.rows (each (λ r f. f.amount) rows.each) in
      let count : length rs ≤ limits.rows = omega (arith, rows.count, demands-length x.rows) in
      record {
        few = ring.few;
        many = ring.many;
        fibres = ring.fibres;
        family = known;
        rows = record { nodes = nodes; order = rows.order };
        count = count;
        amounts = amounts;
      }

  pub fine-true : First (findings limits x) fine → TrueSheet x
  fine-true h =
      let p = both-of (ring_findings limits x.ring) _ h in
      let q = both-of (rows_findings limits x.ring.nodes 1 None x.rows) _ p.1 in
      let r = both-of (cut_findings x.ring.nodes x.rows x.cut) tail-of q.1 in
      let s = both-of (loads_findings x.ring.nodes (true_link x.rows) x.links) _ r.1 in
      let rows = rows-fine limits x.ring.nodes 1 None x.rows q.0 in
      let cut = none-of r.0 in
      let count = none-of s.0 in
      let links = links-true x 1 x.links count.1 in
      let last = none-of s.1 in
      let tight = none-of last.1 in
      let bound = none-of tight.1 in
      let many = same-number (length x.links) x.ring.nodes count.0 in
      let over : split_peak x + 3 * largest_split_of x < 2 * unsplit_peak x → ⊥ = bound.0 in
      record {
        sums = each-map (λ (r : Routed). r.sent) x.rows (each (λ r f. f.sums) rows.each);
        cut = is-cut x.ring.nodes x.cut (λ d. cut.0 (inl d));
        across = same-number _ _ (λ d. cut.0 (inr d));
        links = links.numbers ∙ ap (numbers_from 1) many;
        loads = links.loads;
        peak = same-number _ _ (λ d. last.0 (inl d));
        size = same-number _ _ (λ d. last.0 (inr d));
        tight = same-number _ _ tight.0;
        ways = each (λ r f. f.way) rows.each;
        bound = omega arith;
      }

  pub fine-accepted-by : Known limits.marks x.ring.family → First (findings limits x) fine → Fits limits x × TrueSheet x
  fine-accepted-by known h =
      let p = both-of (ring_findings limits x.ring) _ h in
      let q = both-of (rows_findings limits x.ring.nodes 1 None x.rows) _ p.1 in
      (fine-fits known p.0 q.0, fine-true h)

  many-of : TrueSheet x → length x.links ≡ x.ring.nodes
  many-of t = sym (length-map x.links (λ (l : Link). l.link)) ∙ ap length t.links ∙ length-numbers 1 x.ring.nodes

  each-fine : (rs : List Routed) → Each (λ (r : Routed). OnRing x.ring.nodes r.sent.demand) rs → Each (λ (r : Routed). r.sent.demand.amount ≤ limits.amount) rs →
      Each (λ (r : Routed). SumsTo2d r.sent) rs → Each GoesByRuleD rs → Each (Fine limits x.ring.nodes) rs
  each-fine [] none none none none = none
  each-fine (r ∷ rs) (more a e) (more b bs) (more c cs) (more d ds) = more (record { on = a; amount = b; sums = c; way = d }) (each-fine rs e bs cs ds)

  pub true-fine-by : Fits limits x → TrueSheet x → First (findings limits x) fine
  true-fine-by f t =
      let many = many-of t in
      let sums = each-of-map (λ (r : Routed). r.sent) x.rows t.sums in
      let rows = each-fine x.rows (each-of-demands x.rows f.rows.nodes) (each-of-demands x.rows f.amounts) sums t.ways in
      then-on _ _ _ (inr (⊎_elim (λ l. omega (arith, f.few)) (λ l. omega (arith, f.many)), inr (λ d. d f.fibres, refl)))
      (then-on _ _ _ (fine-rows limits x.ring.nodes 1 None x.rows rows f.rows.order (omega (arith, f.count, demands-length x.rows)))
      (then-on _ _ _ (inr (⊎_elim (λ d. d t.cut) (λ d. d t.across), refl))
      (then-on _ _ _ (inr (λ d. d many, true-links x 1 x.links (record { numbers = t.links ∙ ap (numbers_from 1) (sym many); loads = t.loads })))
      (inr (⊎_elim (λ d. d t.peak) (λ d. d t.size), inr (λ d. d t.tight, inr (λ l. omega (arith, t.bound), refl)))))))

-- ---- 8 to 14 alone, of any sheet with as many links as its ring: whatever else its ring and its rows are

module _ (x : Sheet) (many : length x.links ≡ x.ring.nodes) where
  -- none of them holds
  pub record FiguresFine : Type 0 where
    pub rows : Each (λ (r : Routed). First (sending_findings 0 r) fine) x.rows
    pub cut : First (cut_findings x.ring.nodes x.rows x.cut) fine
    pub links : First (loads_findings x.ring.nodes (true_link x.rows) x.links) fine
    pub last : First (last_findings (figures_of x) (split_peak x) (unsplit_peak x) (largest_split_of x)) fine

  sums-fine : (r : Routed) → First (sending_findings 0 r) fine → SumsTo2d r.sent
  sums-fine r h = same-number _ _ (none-of h).0

  way-fine : (r : Routed) → First (sending_findings 0 r) fine → GoesByRuleD r
  way-fine r h = way-of r (none-of (none-of h).1).0

  sending-fine : (rs : List Routed) → Each (λ (r : Routed). SumsTo2d r.sent) rs → Each GoesByRuleD rs → Each (λ (r : Routed). First (sending_findings 0 r) fine) rs
  sending-fine [] none none = none
  sending-fine (r ∷ rs) (more a c) (more b e) = more (inr (λ d. d a, inr (λ d. d b, refl))) (sending-fine rs c e)

  pub judged-true : FiguresFine ↔ TrueSheet x
  judged-true = (there, back)
    where
      there : FiguresFine → TrueSheet x
      there f =
          let cut = none-of f.cut in
          let count = none-of f.links in
          let links = links-true x 1 x.links count.1 in
          let last = none-of f.last in
          let tight = none-of last.1 in
          let bound = none-of tight.1 in
          let over : split_peak x + 3 * largest_split_of x < 2 * unsplit_peak x → ⊥ = bound.0 in
          record {
            sums = each-map (λ (r : Routed). r.sent) x.rows (each sums-fine f.rows);
            cut = is-cut x.ring.nodes x.cut (λ d. cut.0 (inl d));
            across = same-number _ _ (λ d. cut.0 (inr d));
            links = links.numbers ∙ ap (numbers_from 1) many;
            loads = links.loads;
            peak = same-number _ _ (λ d. last.0 (inl d));
            size = same-number _ _ (λ d. last.0 (inr d));
            tight = same-number _ _ tight.0;
            ways = each way-fine f.rows;
            bound = omega arith;
          }

      back : TrueSheet x → FiguresFine
      back t =
          record {
            rows = sending-fine x.rows (each-of-map (λ (r : Routed). r.sent) x.rows t.sums) t.ways;
            cut = inr (⊎_elim (λ d. d t.cut) (λ d. d t.across), refl);
            links = inr (λ d. d many, true-links x 1 x.links (record { numbers = t.links ∙ ap (numbers_from 1) (sym many); loads = t.loads }));
            last = inr (⊎_elim (λ d. d t.peak) (λ d. d t.size), inr (λ d. d t.tight, inr (λ l. omega (arith, t.bound), refl)));
          }

-- ---- of the desk's limits

pub fine-accepted : (x : Sheet) → First (findings desk x) fine → Fits desk x × TrueSheet x
fine-accepted x h = fine-accepted-by desk x (known-always x.ring.family) h

pub true-fine : (x : Sheet) → Fits desk x → TrueSheet x → First (findings desk x) fine
true-fine x f t = true-fine-by desk x f t

-- ---- so of an answer that is the first

pub accepts : (x : Sheet) (r : Result Unit Finding) → First (findings desk x) r → IsOk r ↔ (Fits desk x × TrueSheet x)
accepts x (Ok tt) h = (λ _. fine-accepted x h, λ _. refl)
accepts x (Err f) h = (λ e. absurd (cc), λ p. absurd (clash (one-answer (findings desk x) fine (Err f) (true-fine x p.0 p.1) h)))
  where
    clash : fine ≡ Err f → ⊥
    clash e = absurd (cc)
