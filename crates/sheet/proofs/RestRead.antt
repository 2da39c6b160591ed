-- The rest of a text that leads to a sheet is that sheet's own text from there on, and what was read of it is in range: by recursion over the rest.
use Prim.Native.Nat.{ℕ, ◌+◌, ◌≤◌, ◌<◌}
use mathlib.Core.List.{List, [], ◌∷◌, ◌++◌, append_assoc, append-nil}
use mathlib.Core.Path.{◌≡◌, refl, ap, ◌∙◌, sym, subst}
use native.Mathlib.Omega.{arith}
use lib.ListN.{length, length-append}
use Rattle.ring.specs.declared.types.Cut.{Cut}
use Rattle.ring.specs.Limits.{Limits}
use Rattle.ring.specs.declared.types.Ring.{Ring}
use Rattle.ring.specs.LineSize.{IsFibres}
use Rattle.ring.specs.Lists.{Each, none, more}
use Rattle.ring.specs.Demand.{demand}
use Rattle.ring.specs.declared.types.Routed.{Routed}
use Rattle.ring.specs.Sheet.{Sheet, sents, demands, figures_of}
use Rattle.ring.specs.declared.types.Link.{Link}
use Rattle.text.specs.Number.{limit}
use Rattle.family.specs.Sizes.{Known}
use Rattle.text.specs.RingLine.{ring_line}
use Rattle.text.specs.Shapes.{sheet_row_line, cut_line, link_line, last_line}
use Rattle.std.specs.Prelude.{Ok, Some, None}
use Rattle.std.specs.List.{flat_map}
use Rattle.reasons.proofs.Judged.{RingJudged, right_ring, ring-judged, RowJudged, row_fine, row-judged}
use Rattle.reasons.proofs.FineRows.{FineRows, no_row, fine_row}
use Rattle.sheet.specs.WriteSheet.{routed_line, load_line, end_text, write_sheet}
use Rattle.sheet.specs.Range.{RowSpelled, LinkSpelled, Spelled}
use Rattle.sheet.specs.Read.{last_demand_of}
use Rattle.sheet.specs.Says.{start, rows, links, end}
use Rattle.sheet.proofs.SheetLines.{way-spelled, SentSpelled}
use Rattle.sheet.proofs.Last.{judge_next, last_more}
use Rattle.sheet.proofs.Rest.{routed_of, cut_of, link_of, Rest, rest_end, rest_last, rest_link, rest_cut, rest_row, rest_ring}

-- ---- behind the cut

module _ (x : Sheet) where
  record AtEnd (y : Sheet) (text : List ℕ) : Type 0 where
    same : y ≡ x
    nothing : text ≡ []

  at-end : {limits : Limits} {y : Sheet} {text : List ℕ} → Rest limits x (end y) text → AtEnd y text
  at-end rest_end = record { same = refl; nothing = refl }

  -- the links ks are read, and those of `later` follow
  record FromLinks (limits : Limits) (ring : Ring) (rs : List Routed) (c : Cut) (ks : List Link) (text : List ℕ) : Type 0 where
    later : List Link
    same : x ≡ record { ring = ring; rows = rs; cut = c; links = ks ++ later; unsplit_peak = x.unsplit_peak; size = x.size }
    is_text : text ≡ flat_map load_line later ++ last_line x.unsplit_peak x.size
    many : length ks + length later ≡ ring.nodes
    spelled : Each (LinkSpelled limits) later
    last : (x.unsplit_peak < limit limits.digits) × (x.size < limit limits.digits)

  last-from : {limits : Limits} {ring : Ring} {rs : List Routed} {c : Cut} {ks : List Link} {p z : ℕ} {text : List ℕ} → length ks ≤ ring.nodes → ring.nodes ≤ length ks → p < limit limits.digits → z < limit limits.digits
      → AtEnd (record { ring = ring; rows = rs; cut = c; links = ks; unsplit_peak = p; size = z }) text → FromLinks limits ring rs c ks (last_line p z ++ text)
  last-from {ks = ks} {p = p} {z = z} within all a b e =
      let ep : p ≡ x.unsplit_peak = ap (λ (y : Sheet). y.unsplit_peak) e.same in
      let ez : z ≡ x.size = ap (λ (y : Sheet). y.size) e.same in
      let q = e.nothing in
      record {
        later = [];
        same = sym e.same ∙ rw (append-nil ks, ep, ez);
        is_text = rw (q, append-nil (last_line p z), ep, ez);
        many = omega arith;
        spelled = none;
        last = (rw (← ep) a, rw (← ez) b);
      }

  link-from : {limits : Limits} {ring : Ring} {rs : List Routed} {c : Cut} {ks : List Link} {k s u : ℕ} {text : List ℕ} → k < limit limits.digits → s < limit limits.digits → u < limit limits.digits
      → FromLinks limits ring rs c (ks ++ link_of k s u ∷ []) text → FromLinks limits ring rs c ks (link_line k s u ++ text)
  link-from {ks = ks} {k = k} {s = s} {u = u} a b d f =
      record {
        later = link_of k s u ∷ f.later;
        same = rw (append_assoc ks (link_of k s u ∷ []) f.later) at f.same;
        is_text = ap (λ (t : List ℕ). link_line k s u ++ t) f.is_text ∙ sym (append_assoc (link_line k s u) (flat_map load_line f.later) (last_line x.unsplit_peak x.size));
        many = omega (arith, f.many, length-append ks (link_of k s u ∷ []));
        spelled = more (record { link = a; split = b; unsplit = d }) f.spelled;
        last = f.last;
      }

  from-links : {limits : Limits} {ring : Ring} {rs : List Routed} {c : Cut} {ks : List Link} {text : List ℕ} → length ks ≤ ring.nodes → Rest limits x (links ring rs c ks) text
      → FromLinks limits ring rs c ks text
  from-links within (rest_last all a b rest) = last-from within all a b (at-end rest)
  from-links {ks = ks} within (rest_link {k = k} {s = s} {u = u} few a b d rest) =
      link-from a b d (from-links (omega (arith, length-append ks (link_of k s u ∷ []))) rest)

  -- ---- behind the R line

  -- the rows rs are read, and those of `later` follow
  record FromRows (limits : Limits) (ring : Ring) (rs : List Routed) (text : List ℕ) : Type 0 where
    later : List Routed
    same : x.rows ≡ rs ++ later
    is_text : text ≡ flat_map routed_line later ++ end_text (figures_of x) x.links
    fine : FineRows limits ring.nodes (length rs) (last_demand_of rs) (demands (sents later))
    halves : Each (RowSpelled limits) later
    cut : (x.cut.g < limit limits.digits) × ((x.cut.h < limit limits.digits) × (x.cut.across < limit limits.digits))
    behind : FromLinks limits ring x.rows x.cut [] (flat_map load_line x.links ++ last_line x.unsplit_peak x.size)

  cut-from : {limits : Limits} {ring : Ring} {rs : List Routed} {g h m : ℕ} {text : List ℕ} → g < limit limits.digits → h < limit limits.digits → m < limit limits.digits
      → FromLinks limits ring rs (cut_of g h m) [] text → FromRows limits ring rs (cut_line g h m ++ text)
  unfolding end_text
  cut-from {limits = limits} {ring = ring} {rs = rs} {g = g} {h = h} {m = m} {text = text} p q r f =
      let er : x.rows ≡ rs = ap (λ (y : Sheet). y.rows) f.same in
      let ec : x.cut ≡ cut_of g h m = ap (λ (y : Sheet). y.cut) f.same in
      let el : x.links ≡ f.later = ap (λ (y : Sheet). y.links) f.same in
      let et : text ≡ flat_map load_line x.links ++ last_line x.unsplit_peak x.size = rw el f.is_text in
      record {
        later = [];
        same = er ∙ sym (append-nil rs);
        is_text = rw (ec, et);
        fine = no_row;
        halves = none;
        cut = rw ec (p, (q, r));
        behind =
            subst (λ t. FromLinks limits ring x.rows x.cut [] t) et
            (subst (λ c. FromLinks limits ring x.rows c [] text) (sym ec) (subst (λ l. FromLinks limits ring l (cut_of g h m) [] text) (sym er) f));
      }

  -- what holds of a row that nothing is found against
  row_from : {limits : Limits} {ring : Ring} {rs : List Routed} {i j d f k w : ℕ} {text : List ℕ} → SentSpelled limits i j d f k w → judge_next limits ring.nodes rs (demand i j d) ≡ Ok tt
      → FromRows limits ring (rs ++ routed_of i j d f k w ∷ []) text → FromRows limits ring rs (sheet_row_line i j d f k w ++ text)
  row_from {limits} {ring} {rs} {i} {j} {d} {f} {k} {w} {text} spelled v from =
      record {
        later = r ∷ from.later;
        same = from.same ∙ append_assoc rs (r ∷ []) from.later;
        is_text =
            ap (λ (t : List ℕ). sheet_row_line i j d f k w ++ t) from.is_text ∙ ap (λ (t : List ℕ). t ++ (flat_map routed_line from.later ++ end_text (figures_of x) x.links)) (sym (way-spelled i j d f k w))
            ∙ sym (append_assoc (routed_line r) (flat_map routed_line from.later) (end_text (figures_of x) x.links));
        fine = fine (rw v at (row-judged limits ring.nodes (length rs) (last_demand_of rs) (demand i j d)));
        halves = more (record { front = spelled.front; back = spelled.back }) from.halves;
        cut = from.cut;
        behind = from.behind;
      }
    where
      r : Routed
      r = routed_of i j d f k w

      fine : RowJudged limits ring.nodes (length rs) (last_demand_of rs) (demand i j d) (Ok tt) → FineRows limits ring.nodes (length rs) (last_demand_of rs) (demands (sents (r ∷ from.later)))
      fine (row_fine on up room most) =
          fine_row on up room most (subst (λ m. FineRows limits ring.nodes m (Some (demand i j d)) (demands (sents from.later))) (length-append rs (r ∷ [])) (rw (last_more rs r) at from.fine))

  from-rows : {limits : Limits} {ring : Ring} {rs : List Routed} {text : List ℕ} → Rest limits x (rows ring rs) text → FromRows limits ring rs text
  from-rows (rest_cut p q r rest) = cut-from p q r (from-links (omega arith) rest)
  from-rows (rest_row spelled v rest) = row_from spelled v (from-rows rest)

-- ---- the whole sheet

-- it is written as t, and in range
pub record IsSheet (limits : Limits) (t : List ℕ) (x : Sheet) : Type 0 where
  pub text : t ≡ write_sheet x
  pub few : limits.fewest ≤ x.ring.nodes
  pub many : x.ring.nodes ≤ limits.nodes
  pub fibres : IsFibres x.ring.fibres
  pub family : Known limits.marks x.ring.family
  pub fine : FineRows limits x.ring.nodes 0 None (demands (sents x.rows))
  pub spelled : Spelled limits x
  pub links : length x.links ≡ x.ring.nodes

sheet-from : (limits : Limits) (t : List ℕ) (x : Sheet) (ring : Ring) → Known limits.marks ring.family → RingJudged limits ring (Ok tt) → FromRows x limits ring [] t
    → IsSheet limits (ring_line ring ++ t) x
unfolding write_sheet
sheet-from limits t x ring known (right_ring few many fibres) f =
    let b = f.behind in
    let en : x.ring ≡ ring = ap (λ (y : Sheet). y.ring) b.same in
    let el : x.links ≡ b.later = ap (λ (y : Sheet). y.links) b.same in
    let er : x.rows ≡ f.later = f.same in
    record {
      text = rw (en, er) (ap (λ (s : List ℕ). ring_line ring ++ s) f.is_text);
      few = rw en few;
      many = rw en many;
      fibres = rw en fibres;
      family = rw en known;
      fine = rw (en, er) f.fine;
      spelled = record { halves = rw er f.halves; cut = f.cut; loads = rw el b.spelled; last = b.last };
      links = omega (arith, b.many, ap length el, ap (λ (r : Ring). r.nodes) en);
    }

pub from_start : (limits : Limits) (t : List ℕ) (x : Sheet) → Rest limits x start t → IsSheet limits t x
from_start limits t x (rest_ring {ring} {text} w v rest) = sheet-from limits text x ring w.known (rw v at (ring-judged limits ring)) (from-rows x rest)
