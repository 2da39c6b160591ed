-- On each line of a sheet the reader's step is right: it stops with the first reason that holds there, and goes on to the next place where none does;
-- what is said of the line is said of its values, since the line has one reading.
use Prim.Native.Nat.{ℕ, ◌+◌, ◌≤◌, ◌<◌}
use mathlib.Core.List.{List, [], ◌∷◌, ◌++◌}
use mathlib.Core.Logic.{inl, inr}
use mathlib.Core.Path.{refl, ◌∙◌, sym, subst}
use lib.ListN.{length}
use borrow.Author.Tests.{ltb-true, ltb-false}
use Rattle.ring.specs.declared.types.Cut.{Cut}
use Rattle.ring.specs.Limits.{Limits}
use Rattle.ring.specs.Demand.{demand}
use Rattle.ring.specs.declared.types.Ring.{Ring}
use Rattle.ring.specs.declared.types.Routed.{Routed}
use Rattle.ring.specs.declared.types.Link.{Link}
use Rattle.ring.proofs.Side.{cond-elim}
use Rattle.text.specs.FieldByte.{field_byte}
use Rattle.text.specs.FirstFault.{FirstFault}
use Rattle.text.specs.ReadLine.{Reading}
use Rattle.text.specs.WriteLine.{write_line}
use Rattle.text.specs.Shapes.{ring_shape, sheet_row_shape}
use Rattle.text.specs.declared.field.Field.{Field}
use Rattle.lines.specs.Lines.{lines, LineIs}
use Rattle.reasons.specs.Fields.{field_of, node_field}
use Rattle.reasons.specs.Faults.{verdict_found, ring_found, row_found}
use Rattle.table.specs.RowReasons.{RingIs, at_fault}
use Rattle.lines.specs.DueBytes.{line_faulty}
use Rattle.reasons.specs.declared.reason.Reason.{Reason}
use Rattle.reasons.specs.declared.reason.Reason.TheVariants.{Misshapen}
use Rattle.reasons.specs.declared.reason.Refusal.{Refusal}
use Rattle.reasons.specs.AndThen.{and_then}
use Rattle.lines.specs.OnLine.{values_on, passed}
use Rattle.table.specs.ReadTable.{ring_on}
use Rattle.reasons.specs.Refusals.{refuse}
use Rattle.reasons.specs.Verdict.{Verdict}
use Rattle.std.specs.Prelude.{Result, Ok, Err}
use Rattle.reasons.proofs.Judged.{ring-judged, row-judged}
use Rattle.text.proofs.RingLaws.{RingRead, is_ring, no_ring}
use Rattle.table.proofs.LineRead.{as-ring}
use Rattle.table.proofs.TableLines.{ring-said, ring-is}
use Rattle.table.proofs.BytesGiven.{ring-byte, row-byte}
use Rattle.table.proofs.FirstOnLine.{HoldsAs, First, wrong-first, ring-judged-first, row-judged-first}
use Rattle.lines.proofs.LineNumbers.{line-one}
use Rattle.sheet.specs.Read.{last_demand_of, routed_in, cut_in, link_in, row_by, cut_by, row_step, link_step, last_step, step}
use Rattle.sheet.specs.Says.{State, start, rows, links, end, RoutedIs, CutIs, LinkIs, LastIs, At, at_start, behind_ring, behind_row, behind_cut, behind_link, behind_last, RowIs, row_is, Says, LineByte, ring_due, row_or_cut_due, link_due, last_due, none_due, ByteIs}
use Rattle.sheet.proofs.SheetLines.{way-spelled, ring_by, SentRead, is_sent, no_sent, sent-read, CutRead, is_cut, no_cut, cut-read, LinkRead, is_link, no_link, link-read, LastRead, is_last, no_last, last-read}
use Rattle.sheet.proofs.Places.{sent-spelled, ring-above, rows-above}
use Rattle.sheet.proofs.SheetSaid.{Unfit, unfit-wrong, wrong-unfit, row-laws, row-above, none-of-cut, none-of-link, none-of-last}
use Rattle.sheet.proofs.SheetBytes.{neither}

-- ---- a step that is right

pub data Stepped (limits : Limits) (t : List ℕ) (line : ℕ) : Result State Refusal → Type 0 where
  goes_on : {next : State} → ((s : Reason) → Says limits t s line → ⊥) → At limits t (line + 1) next → Stepped limits t line (Ok next)
  stops : {r : Reason} {byte : ℕ} → First (λ s. Says limits t s line) (Err r) → ByteIs limits t r line byte → Stepped limits t line (refuse r line byte)

module _ (limits : Limits) {t : List ℕ} {line : ℕ} where
  passed-stepped : {A : Type 0} (shape : List Field) (vs : List ℕ) (field : Reason → ℕ) (a : A) (then : A → State) {v : Verdict} → First (λ s. Says limits t s line) v
      → HoldsAs (λ s. ByteIs limits t s line (field_byte shape vs (field s))) v → At limits t (line + 1) (then a)
      → Stepped limits t line (and_then (passed line shape vs (verdict_found v field) a) λ a. Ok (then a))
  unfolding passed verdict_found
  passed-stepped shape vs field a then {v = Ok tt} f b at = goes_on f.least at
  passed-stepped shape vs field a then {v = Err r} f b at = stops f b

  -- a line of the wrong shape
  pub unfit-first : {state : State} → At limits t line state → Unfit limits t line state → First (λ s. Says limits t s line) (Err Misshapen)
  unfit-first at none = wrong-first row-laws (unfit-wrong at none)

-- ---- the step of each line

module _ (limits : Limits) {t l : List ℕ} where
  -- R n fibres
  ring-stepped : {x : Result Ring ℕ} {line : ℕ} → At limits t line start → LineIs (lines t) line l → RingRead limits.digits limits.countable limits.marks l x → Stepped limits t line (ring_by limits x)
  unfolding values_on ring_found
  ring-stepped at_start here (is_ring {ring} h) =
      let is : RingIs limits t ring = ring-is here h in
      passed-stepped limits ring_shape (0 ∷ ring.nodes ∷ ring.fibres ∷ []) (λ reason. field_of reason 0) ring (λ ring. rows ring [])
      (ring-judged-first row-laws is (λ w. wrong-unfit at_start w ring is) (ring-judged limits ring))
      (ring-byte (RowIs limits t) (LineByte limits t) is (ring-judged limits ring))
      (behind_ring is)
  ring-stepped at_start here (no_ring none fault) =
      stops (unfit-first limits at_start (λ ring r. none ring (ring-said r here))) (at_fault (ring_due at_start (line_faulty here fault)))

  module _ {line : ℕ} (here : LineIs (lines t) line l) where
    -- C g h across, where the line is no D line
    cut-stepped : {ring : Ring} {rs : List Routed} {x : Reading} {o : ℕ} → At limits t line (rows ring rs) → ((r : Routed) → RoutedIs limits t line r → ⊥) → FirstFault limits.digits sheet_row_shape l o → CutRead limits l x
        → Stepped limits t line (and_then (cut_by line o x) λ c. Ok (links ring rs c []))
    unfolding cut_by
    cut-stepped at none fault (is_cut {g} {h} {m} e u v w) =
        let is : CutIs limits t line (cut_in (0 ∷ g ∷ h ∷ m ∷ [])) = record { text = subst (LineIs (lines t) line) e here; pair = (u, v); number = w } in
        goes_on (λ s h. none-of-cut at is h) (behind_cut at is)
    cut-stepped at none fault (no_cut none' fault') =
        stops (unfit-first limits at (none, λ c k. none' c.g c.h c.across (line-one here k.text refl) k.pair.0 k.pair.1 k.number))
        (at_fault (row_or_cut_due at (line_faulty here (neither fault fault'))))

    -- D i j amount front back F-or-B, else C
    row-stepped : {ring : Ring} {rs : List Routed} {x y : Reading} → At limits t line (rows ring rs) → SentRead limits l x → CutRead limits l y → Stepped limits t line (row_step limits ring rs line x y)
    unfolding row_step row_by row_found field_byte write_line
    row-stepped {ring} {rs} at (is_sent {i} {j} {d} {f} {b = k} {w} e h) c =
        let is : RoutedIs limits t line (routed_in (0 ∷ i ∷ j ∷ d ∷ f ∷ k ∷ w ∷ [])) =
        record {
          text = subst (LineIs (lines t) line) (e ∙ sym (way-spelled i j d f k w)) here;
          nodes = (h.first, h.second);
          amount = h.amount;
          halves = (h.front, h.back);
        } in
        let judged = row-judged limits ring.nodes (length rs) (last_demand_of rs) (demand i j d) in
        passed-stepped limits sheet_row_shape (0 ∷ i ∷ j ∷ d ∷ f ∷ k ∷ w ∷ []) (λ reason. field_of reason (node_field ring.nodes i)) (routed_in (0 ∷ i ∷ j ∷ d ∷ f ∷ k ∷ w ∷ [])) (λ r. rows ring (rs ++ r ∷ []))
        (row-judged-first row-laws (ring-above at) (row_is at is) (λ u. (wrong-unfit at u).0 _ is) (rows-above at) (row-above at) judged)
        (row-byte (RowIs limits t) (LineByte limits t) (demand i j d) (ring-above at) (row_is at is) (field_byte sheet_row_shape (0 ∷ i ∷ j ∷ d ∷ f ∷ k ∷ w ∷ [])) refl refl refl refl judged)
        (behind_row at is)
    row-stepped at (no_sent none fault) c =
        cut-stepped at (λ r s. none _ _ _ _ _ _ (line-one here s.text refl) (sent-spelled s)) fault c

    module _ {ring : Ring} {rs : List Routed} {c : Cut} {ks : List Link} (at : At limits t line (links ring rs c ks)) where
      -- L link split-load unsplit-load
      link-stepped : {x : Reading} → length ks < ring.nodes → LinkRead limits l x → Stepped limits t line (link_step ring rs c ks line x)
      unfolding link_step values_on
      link-stepped few (is_link {k} {s} {u} e p q o) =
          let is : LinkIs limits t line (link_in (0 ∷ k ∷ s ∷ u ∷ [])) = record { text = subst (LineIs (lines t) line) e here; link = p; loads = (q, o) } in
          goes_on (λ s h. none-of-link at few is h) (behind_link at few is)
      link-stepped few (no_link none fault) =
          stops (unfit-first limits at (inl (few, λ k m. none k.link k.split k.unsplit (line-one here m.text refl) m.link m.loads.0 m.loads.1)))
          (at_fault (link_due at few (line_faulty here fault)))

      -- Z unsplit-peak size
      last-stepped : {x : Reading} → ring.nodes ≤ length ks → LastRead limits l x → Stepped limits t line (last_step ring rs c ks line x)
      unfolding last_step values_on
      last-stepped all (is_last {p} {z} e v w) =
          let is : LastIs limits t line p z = record { text = subst (LineIs (lines t) line) e here; spelled = (v, w) } in
          goes_on (λ s h. none-of-last at all is h) (behind_last at all is)
      last-stepped all (no_last none fault) =
          stops (unfit-first limits at (inr (all, λ p z m. none p z (line-one here m.text refl) m.spelled.0 m.spelled.1)))
          (at_fault (last_due at all (line_faulty here fault)))

  -- by what is due
  pub state-stepped : {state : State} {line : ℕ} → At limits t line state → LineIs (lines t) line l → Stepped limits t line (step limits state line l)
  unfolding step ring_on
  state-stepped {state = start} at here = ring-stepped at here (as-ring limits l)
  state-stepped {state = rows ring rs} at here = row-stepped here at (sent-read limits l) (cut-read limits l)
  state-stepped {state = links ring rs c ks} {line} at here =
      cond-elim (Stepped limits t line) _ _ _
      (λ e. link-stepped here at (ltb-true (length ks) ring.nodes e) (link-read limits l))
      (λ e. last-stepped here at (ltb-false (length ks) ring.nodes e) (last-read limits l))
  state-stepped {state = end x} at here = stops (unfit-first limits at (l, here)) (at_fault (none_due at refl))
