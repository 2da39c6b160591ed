-- A text is read to a sheet exactly when it is that sheet written and the sheet is in range: the rest of a text (`Rest`) is taken apart one way (`RestRead`)
-- and built from the sheet's rows and links the other.
use Prim.Native.Nat.{ℕ, ◌+◌, ◌≤◌, ◌<◌}
use mathlib.Core.List.{List, [], ◌∷◌, ◌++◌, append_assoc, append-nil}
use mathlib.Core.Logic.{◌↔◌}
use mathlib.Core.Path.{◌≡◌, refl, ap, ◌∙◌, sym, subst}
use native.Mathlib.Omega.{arith}
use lib.ListN.{length, length-append}
use Rattle.std.specs.Prelude.{Option, None, Result, Ok}
use Rattle.std.specs.List.{flat_map}
use borrow.Author.Tests.{le-ltb, ltb-false}
use Rattle.ring.proofs.Side.{cond-elim}
use Rattle.ring.specs.Routing.{way_number, way_of}
use Rattle.ring.specs.declared.types.Routed.{Routed}
use Rattle.ring.specs.Limits.{Limits}
use Rattle.ring.specs.declared.types.Demand.{Demand}
use Rattle.family.specs.Sizes.{Known}
use Rattle.ring.specs.LineSize.{IsFibres}
use Rattle.ring.specs.Lists.{Each, none, more}
use Rattle.ring.specs.Sheet.{Sheet, sents, demands, figures_of}
use Rattle.ring.specs.declared.types.Link.{Link}
use Rattle.text.specs.Shapes.{last_line}
use Rattle.text.proofs.Apart.{clash}
use Rattle.lines.specs.Lines.{lines}
use Rattle.reasons.specs.declared.reason.Refusal.{Refusal}
use Rattle.reasons.proofs.Against.{fine-ring-judged, fine-row-judged}
use Rattle.reasons.proofs.FineRows.{FineRows, no_row, fine_row, fine-rows, table-rows, amounts-fine, count-fine}
use Rattle.lines.proofs.LinesOf.{join-lines}
use Rattle.table.proofs.TableText.{ring-spelled}
use Rattle.table.specs.Spelled.{LimitsSpelled}
use Rattle.sheet.specs.WriteSheet.{routed_line, load_line, end_text, write_sheet}
use Rattle.sheet.specs.Range.{RowSpelled, LinkSpelled, Spelled, InRange}
use Rattle.sheet.specs.Read.{last_demand_of, read_sheet}
use Rattle.sheet.specs.Says.{start, rows, links}
use Rattle.sheet.proofs.SheetLines.{way_back, way_small, SentSpelled}
use Rattle.sheet.proofs.Last.{last_more}
use Rattle.sheet.proofs.Rest.{Rest, rest_end, rest_last, rest_link, rest_cut, rest_row, rest_ring, read-rest, rest_read}
use Rattle.sheet.proofs.RestRead.{IsSheet, from_start}

-- ---- a sheet's text is a rest

module _ (limits : Limits) (x : Sheet) (spelled : Spelled limits x) (count : length x.links ≡ x.ring.nodes) where
  -- the links ks are written, and those of `later` follow
  to-links : (later ks : List Link) → x.links ≡ ks ++ later → Each (LinkSpelled limits) later → Rest limits x (links x.ring x.rows x.cut ks) (flat_map load_line later ++ last_line x.unsplit_peak x.size)
  to-links [] ks e none =
      let k : x.links ≡ ks = e ∙ append-nil ks in
      let nothing_behind = append-nil (last_line x.unsplit_peak x.size) in
      subst (λ l. Rest limits x (links x.ring x.rows x.cut l) (last_line x.unsplit_peak x.size)) k
      (subst (λ t. Rest limits x (links x.ring x.rows x.cut x.links) t) nothing_behind (rest_last (omega arith) spelled.last.0 spelled.last.1 rest_end))
  to-links (l ∷ later) ks e (more s ss) =
      let f : x.links ≡ (ks ++ l ∷ []) ++ later = e ∙ sym (append_assoc ks (l ∷ []) later) in
      let few : length ks < x.ring.nodes = omega (arith, ap length e, length-append ks (l ∷ later)) in
      subst (λ t. Rest limits x (links x.ring x.rows x.cut ks) t) (sym (append_assoc (load_line l) (flat_map load_line later) (last_line x.unsplit_peak x.size)))
      (rest_link few s.link s.split s.unsplit (to-links later (ks ++ l ∷ []) f ss))

  module _ (limited : LimitsSpelled limits) (many : x.ring.nodes ≤ limits.nodes) where
    to-rows : (later rs : List Routed) → x.rows ≡ rs ++ later → FineRows limits x.ring.nodes (length rs) (last_demand_of rs) (demands (sents later)) → Each (RowSpelled limits) later
        → Rest limits x (rows x.ring rs) (flat_map routed_line later ++ end_text (figures_of x) x.links)
    unfolding end_text
    to-rows [] rs e no_row none =
        let k : x.rows ≡ rs = e ∙ append-nil rs in
        subst (λ l. Rest limits x (rows x.ring l) (end_text (figures_of x) x.links)) k
        (rest_cut spelled.cut.0 spelled.cut.1.0 spelled.cut.1.1 (to-links x.links [] refl spelled.loads))
    to-rows (r ∷ later) rs e (fine_row on up room most fine) (more h hs) =
        let f : x.rows ≡ (rs ++ r ∷ []) ++ later = e ∙ sym (append_assoc rs (r ∷ []) later) in
        let one : length (rs ++ r ∷ []) ≡ length rs + 1 = length-append rs (r ∷ []) in
        let behind = subst (λ (q : Option Demand). FineRows limits x.ring.nodes (length (rs ++ r ∷ [])) q (demands (sents later))) (sym (last_more rs r)) (rw one fine) in
        let same : way_of (way_number r.way) ≡ r.way = way_back r.way in
        let s : SentSpelled limits r.sent.demand.first r.sent.demand.second r.sent.demand.amount r.sent.front r.sent.back (way_number r.way) =
        record {
          first = omega (arith, on.order, on.high, limited.nodes);
          second = omega (arith, on.high, limited.nodes);
          amount = omega (arith, most, limited.amount);
          front = h.front;
          back = h.back;
          way = way_small r.way;
        } in
        subst (λ t. Rest limits x (rows x.ring rs) t) (sym (append_assoc (routed_line r) (flat_map routed_line later) (end_text (figures_of x) x.links)))
        (rest_row s (fine-row-judged limits x.ring.nodes (length rs) (last_demand_of rs) r.sent.demand on up room most) (rw same (to-rows later (rs ++ r ∷ []) f behind hs)))

    to_start : limits.fewest ≤ x.ring.nodes → IsFibres x.ring.fibres → Known limits.marks x.ring.family → FineRows limits x.ring.nodes 0 None (demands (sents x.rows)) → Rest limits x start (write_sheet x)
    unfolding write_sheet
    to_start few fibres known fine =
        rest_ring {ring = x.ring} (ring-spelled limits limited x.ring many fibres known) (fine-ring-judged limits x.ring few many fibres) (to-rows x.rows [] refl fine spelled.halves)

-- that of a sheet in range
pub sheet-rest : (limits : Limits) → LimitsSpelled limits → (x : Sheet) → InRange limits x → Rest limits x start (write_sheet x)
sheet-rest limits limited x r =
    to_start limits x r.spelled r.links limited r.within.many r.within.few r.within.fibres r.within.family
    (fine-rows {limits = limits} r.within.rows (omega (arith, r.within.count)) r.within.amounts)

-- ---- both

module _ (limits : Limits) (limited : LimitsSpelled limits) (t : List ℕ) (x : Sheet) where
  read-written : read_sheet limits t ≡ Ok x → (t ≡ write_sheet x) × InRange limits x
  unfolding read_sheet
  read-written =
      cond-elim (λ (r : Result Sheet Refusal). r ≡ Ok x → (t ≡ write_sheet x) × InRange limits x) _ _ _
      (λ long e. clash (cc))
      (λ short e. whole (ltb-false limits.bytes (length t) short) (from_start limits t x (subst (Rest limits x start) (join-lines t) (read-rest limits x (lines t) start 1 e))))
    where
      whole : length t ≤ limits.bytes → IsSheet limits t x → (t ≡ write_sheet x) × InRange limits x
      whole short s = (
        s.text,
        record {
          within =
              record {
                few = s.few;
                many = s.many;
                fibres = s.fibres;
                family = s.family;
                rows = table-rows s.fine;
                count = omega (arith, count-fine s.fine (omega arith));
                amounts = amounts-fine s.fine;
              };
          spelled = s.spelled;
          links = s.links;
          short = omega (arith, ap length s.text);
        },
      )

  written_read : (t ≡ write_sheet x) × InRange limits x → read_sheet limits t ≡ Ok x
  unfolding read_sheet
  written_read h =
      let e = h.0 in
      let r = h.1 in
      let short : length t ≤ limits.bytes = omega (arith, ap length e, r.short) in
      rw (le-ltb limits.bytes (length t) short)
      (rest_read limits x (subst (Rest limits x start) (sym e) (sheet-rest limits limited x r)) 1)

  -- a text is read to this sheet exactly when it is the sheet written and the sheet is in range
  pub sheet-text : (read_sheet limits t ≡ Ok x) ↔ ((t ≡ write_sheet x) × InRange limits x)
  sheet-text = (read-written, written_read)
