-- How the rest of a text leads from a state of the reader to a sheet, by the writer alone: the reader accepts exactly where there is
-- such a rest; read line by line one way, rebuilt line by line the other.
use Prim.Native.Nat.{ℕ, ◌+◌, ◌≤◌, ◌<◌}
use mathlib.Core.List.{List, [], ◌∷◌, ◌++◌, flatten}
use mathlib.Core.Path.{◌≡◌, refl, ap, sym, subst}
use native.Mathlib.Omega.{arith}
use native.Mathlib.Decide.{dec_lt}
use lib.ListN.{length, get_or}
use borrow.Author.Tests.{lt-ltb, le-ltb}
use Rattle.ring.specs.declared.types.Cut.{Cut}
use Rattle.ring.specs.Limits.{Limits}
use Rattle.ring.specs.declared.types.Ring.{Ring}
use Rattle.ring.specs.Demand.{demand}
use Rattle.ring.specs.Lists.{Each, none, more}
use Rattle.ring.specs.declared.types.Routed.{Routed}
use Rattle.ring.specs.Sheet.{Sheet}
use Rattle.ring.specs.declared.types.Link.{Link}
use Rattle.text.specs.Number.{limit}
use Rattle.text.specs.Bytes.{letter_c, letter_d, letter_l}
use Rattle.text.specs.Field.{spell}
use Rattle.text.specs.WriteLine.{write_line}
use Rattle.text.specs.Shapes.{ring_shape, sheet_row_shape, cut_shape, link_shape, last_shape, sheet_row_line, cut_line, link_line, last_line}
use Rattle.text.specs.RingLine.{ring_line}
use Rattle.text.proofs.RingLaws.{RingRead, is_ring, no_ring}
use Rattle.text.specs.ReadLine.{Reading, read_line}
use Rattle.text.specs.declared.field.Field.{Field}
use Rattle.text.specs.declared.field.Field.TheVariants.{Letter, Number}
use Rattle.text.proofs.Apart.{clash}
use Rattle.lines.specs.Lines.{lines}
use Rattle.reasons.specs.AndThen.{and_then}
use Rattle.reasons.specs.Judge.{ring_verdict}
use Rattle.lines.specs.OnLine.{values_on, passed}
use Rattle.table.specs.ReadTable.{ring_on}
use Rattle.reasons.specs.Faults.{verdict_found, ring_found, row_found}
use Rattle.reasons.specs.declared.fault.Fault.{Fault}
use Rattle.reasons.specs.declared.reason.Refusal.{Refusal}
use Rattle.std.specs.Prelude.{Result, Ok, Err}
use Rattle.reasons.proofs.Faults.{found-none}
use Rattle.table.proofs.LineRead.{RingSpelled, ring-values, as-ring}
use Rattle.table.proofs.TableLines.{ring-first}
use Rattle.lines.proofs.LinesOf.{FirstLine, NoLf, written-first}
use Rattle.sheet.specs.Read.{last_demand_of, routed_in, cut_in, link_in, row_by, cut_by, row_step, link_step, last_step, step, at_end, read_from}
use Rattle.sheet.specs.Says.{State, start, rows, links, end}
use Rattle.sheet.proofs.Last.{judge_next}
use Rattle.sheet.proofs.SheetLines.{ring_by, SentSpelled, SentRead, is_sent, no_sent, sent-read, CutRead, is_cut, no_cut, cut-read, LinkRead, is_link, no_link, link-read, LastRead, is_last, no_last, last-read, line-back, sent-in-range, cut-in-range, link-in-range, last-in-range}

-- the values of a line
abbrev pub routed_of : ℕ → ℕ → ℕ → ℕ → ℕ → ℕ → Routed
routed_of i j d f k w = routed_in (0 ∷ i ∷ j ∷ d ∷ f ∷ k ∷ w ∷ [])

abbrev pub cut_of : ℕ → ℕ → ℕ → Cut
cut_of g h m = cut_in (0 ∷ g ∷ h ∷ m ∷ [])

abbrev pub link_of : ℕ → ℕ → ℕ → Link
link_of k s u = link_in (0 ∷ k ∷ s ∷ u ∷ [])

-- the rest `text` leads from a state to the sheet x
pub data Rest (limits : Limits) (x : Sheet) : State → List ℕ → Type 0 where
  rest_end : Rest limits x (end x) []
  rest_last : {ring : Ring} {rs : List Routed} {c : Cut} {ks : List Link} {p z : ℕ} {text : List ℕ} → ring.nodes ≤ length ks → p < limit limits.digits → z < limit limits.digits
      → Rest limits x (end (record { ring = ring; rows = rs; cut = c; links = ks; unsplit_peak = p; size = z })) text → Rest limits x (links ring rs c ks) (last_line p z ++ text)
  rest_link : {ring : Ring} {rs : List Routed} {c : Cut} {ks : List Link} {k s u : ℕ} {text : List ℕ} → length ks < ring.nodes → k < limit limits.digits → s < limit limits.digits → u < limit limits.digits
      → Rest limits x (links ring rs c (ks ++ link_of k s u ∷ [])) text → Rest limits x (links ring rs c ks) (link_line k s u ++ text)
  rest_cut : {ring : Ring} {rs : List Routed} {g h m : ℕ} {text : List ℕ} → g < limit limits.digits → h < limit limits.digits → m < limit limits.digits
      → Rest limits x (links ring rs (cut_of g h m) []) text → Rest limits x (rows ring rs) (cut_line g h m ++ text)
  rest_row : {ring : Ring} {rs : List Routed} {i j d f k w : ℕ} {text : List ℕ} → SentSpelled limits i j d f k w → judge_next limits ring.nodes rs (demand i j d) ≡ Ok tt
      → Rest limits x (rows ring (rs ++ routed_of i j d f k w ∷ [])) text → Rest limits x (rows ring rs) (sheet_row_line i j d f k w ++ text)
  rest_ring : {ring : Ring} {text : List ℕ} → RingSpelled limits ring → ring_verdict limits ring ≡ Ok tt → Rest limits x (rows ring []) text → Rest limits x start (ring_line ring ++ text)

-- ---- a line that leads on

passed-on : {A : Type 0} (line : ℕ) (shape : List Field) (vs : List ℕ) (o : Result Unit Fault) (a : A) (then : A → State) (next : State)
    → and_then (passed line shape vs o a) (λ a. Ok (then a)) ≡ Ok next → (o ≡ Ok tt) × (then a ≡ next)
unfolding passed
passed-on line shape vs (Ok tt) a then next e = (refl, cc)
passed-on line shape vs (Err f) a then next e = clash (cc)

on-same : (next state : State) → ◌≡◌ {A = Result State Refusal} (Ok next) (Ok state) → next ≡ state
on-same next state e = cc

module _ (limits : Limits) (x : Sheet) where
  -- the line l, in front of a rest
  abbrev Leads : State → List ℕ → Result State Refusal → Type 0
  Leads state l t = (next : State) → t ≡ Ok next → (text : List ℕ) → Rest limits x next text → Rest limits x state (l ++ text)

  ring-leads : (l : List ℕ) {y : Result Ring ℕ} → RingRead limits.digits limits.countable limits.marks l y → Leads start l (ring_by limits y)
  unfolding values_on ring_found
  ring-leads l (is_ring {ring} h) next q text rest =
      let u = passed-on 1 ring_shape (0 ∷ ring.nodes ∷ ring.fibres ∷ []) (ring_found limits ring) ring (λ ring. rows ring []) next q in
      let e = h.text in
      rw e (rest_ring {ring = ring} (record { known = h.known; text = refl; nodes = h.nodes; fibres = h.fibres }) (found-none _ _ u.0) (subst (λ s. Rest limits x s text) (sym u.1) rest))
  ring-leads l (no_ring misread fault) next q text rest = clash (cc)

  module _ (ring : Ring) (rs : List Routed) (line : ℕ) where
    cut-leads : (l : List ℕ) (o : ℕ) {y : Reading} → CutRead limits l y → Leads (rows ring rs) l (and_then (cut_by line o y) λ c. Ok (links ring rs c []))
    unfolding cut_by
    cut-leads l o (is_cut {g} {h} {m} e p q r) next t text rest =
        rw e (rest_cut p q r (subst (λ s. Rest limits x s text) (sym (on-same (links ring rs (cut_of g h m) []) next t)) rest))
    cut-leads l o (no_cut misread fault) next t text rest = clash (cc)

    row-leads : (l : List ℕ) {y z : Reading} → SentRead limits l y → CutRead limits l z → Leads (rows ring rs) l (row_step limits ring rs line y z)
    unfolding row_step row_by row_found
    row-leads l (is_sent {i} {j} {d} {f} {b = k} {w} e spelled) other next t text rest =
        let u = passed-on line sheet_row_shape (0 ∷ i ∷ j ∷ d ∷ f ∷ k ∷ w ∷ []) (row_found limits ring.nodes (length rs) (last_demand_of rs) (demand i j d)) (routed_of i j d f k w) (λ r. rows ring (rs ++ r ∷ [])) next t in
        rw e (rest_row spelled (found-none _ _ u.0) (subst (λ s. Rest limits x s text) (sym u.1) rest))
    row-leads l (no_sent {p} misread fault) other next t text rest = cut-leads l p other next t text rest

    module _ (c : Cut) (ks : List Link) where
      link-leads : (l : List ℕ) {y : Reading} → length ks < ring.nodes → LinkRead limits l y → Leads (links ring rs c ks) l (link_step ring rs c ks line y)
      unfolding link_step values_on
      link-leads l few (is_link {k} {s} {u} e p q r) next t text rest =
          rw e (rest_link few p q r (subst (λ s. Rest limits x s text) (sym (on-same (links ring rs c (ks ++ link_of k s u ∷ [])) next t)) rest))
      link-leads l few (no_link misread fault) next t text rest = clash (cc)

      last-leads : (l : List ℕ) {y : Reading} → ring.nodes ≤ length ks → LastRead limits l y → Leads (links ring rs c ks) l (last_step ring rs c ks line y)
      unfolding last_step values_on
      last-leads l all (is_last {p} {z} e a b) next t text rest =
          let same = on-same (end (record { ring = ring; rows = rs; cut = c; links = ks; unsplit_peak = p; size = z })) next t in
          rw e (rest_last all a b (subst (λ s. Rest limits x s text) (sym same) rest))
      last-leads l all (no_last misread fault) next t text rest = clash (cc)

  step-leads : (state : State) (line : ℕ) (l : List ℕ) → Leads state l (step limits state line l)
  unfolding step ring_on
  step-leads start line l = ring-leads l (as-ring limits l)
  step-leads (rows ring rs) line l = row-leads ring rs line l (sent-read limits l) (cut-read limits l)
  step-leads (links ring rs c ks) line l =
      elim (dec_lt (length ks) ring.nodes) [
        | yes h ↦ rw (lt-ltb (length ks) ring.nodes h) (link-leads ring rs line c ks l h (link-read limits l))
        | no h ↦ let k : ring.nodes ≤ length ks = omega arith in rw (le-ltb (length ks) ring.nodes k) (last-leads ring rs line c ks l k (last-read limits l))
      ]
  step-leads (end y) line l = λ next t text rest. clash (cc)

  -- ---- accepted, so there is a rest

  ended : (state : State) (line : ℕ) → at_end state line ≡ Ok x → Rest limits x state []
  unfolding at_end
  ended start line e = clash (cc)
  ended (rows ring rs) line e = clash (cc)
  ended (links ring rs c ks) line e = clash (cc)
  ended (end y) line e = let same : x ≡ y = cc in subst (λ s. Rest limits x (end s) []) same rest_end

  pub read-rest : (ls : List (List ℕ)) (state : State) (line : ℕ) → read_from limits state line ls ≡ Ok x → Rest limits x state (flatten ls)
  unfolding read_from flatten
  read-rest [] state line e = ended state line e
  read-rest (l ∷ ls) state line e = go (λ next f. read-rest ls next (line + 1) f) (step limits state line l) refl e
    where
      go : ((next : State) → read_from limits next (line + 1) ls ≡ Ok x → Rest limits x next (flatten ls)) → (t : Result State Refusal)
          → step limits state line l ≡ t → and_then t (λ next. read_from limits next (line + 1) ls) ≡ Ok x
          → Rest limits x state (l ++ flatten ls)
      go later (Ok next) q f = step-leads state line l next q (flatten ls) (later next f)
      go later (Err r) q f = clash (cc)

-- ---- there is a rest, so accepted

-- a C line is no D line: they differ in their letter
cut-no-row : (g h m i j d f b w : ℕ) → cut_line g h m ≡ sheet_row_line i j d f b w → ⊥
unfolding write_line spell
cut-no-row g h m i j d f b w e = let q : letter_c ≡ letter_d = ap (λ l. get_or l 0 0) e in omega arith

pub cut-not-sent : (limits : Limits) (g h m : ℕ) {y : Reading} → SentRead limits (cut_line g h m) y → (ring : Ring) (rs : List Routed) (line : ℕ) (z : Reading)
    → (o : ℕ) × (row_step limits ring rs line y z ≡ (and_then (cut_by line o z) λ c. Ok (links ring rs c [])))
unfolding row_step
cut-not-sent limits g h m (is_sent e s) ring rs line z = absurd (cut-no-row g h m _ _ _ _ _ _ e)
cut-not-sent limits g h m (no_sent {p} misread fault) ring rs line z = (p, refl)

-- each line is the first of what it begins
pub sent-first : (limits : Limits) (i j d f b w : ℕ) → SentSpelled limits i j d f b w → FirstLine (sheet_row_line i j d f b w)
sent-first limits i j d f b w h =
    written-first limits.digits limits.countable _ _ _
    (more (λ e. omega arith) (more tt (more tt (more tt (more tt (more tt (more tt none)))))))
    (sent-in-range limits i j d f b w h)

three-numbers : (f : Field) → NoLf f → Each NoLf (f ∷ Number ∷ Number ∷ Number ∷ [])
three-numbers f h = more h (more tt (more tt (more tt none)))

pub cut-first : (limits : Limits) (g h m : ℕ) → g < limit limits.digits → h < limit limits.digits → m < limit limits.digits → FirstLine (cut_line g h m)
cut-first limits g h m a b c = written-first limits.digits limits.countable _ _ _ (three-numbers (Letter letter_c) (λ e. omega arith)) (cut-in-range limits g h m a b c)

pub link-first : (limits : Limits) (k s u : ℕ) → k < limit limits.digits → s < limit limits.digits → u < limit limits.digits → FirstLine (link_line k s u)
link-first limits k s u a b c = written-first limits.digits limits.countable _ _ _ (three-numbers (Letter letter_l) (λ e. omega arith)) (link-in-range limits k s u a b c)

pub last-first : (limits : Limits) (p z : ℕ) → p < limit limits.digits → z < limit limits.digits → FirstLine (last_line p z)
last-first limits p z a b = written-first limits.digits limits.countable _ _ _ (more (λ e. omega arith) (more tt (more tt none))) (last-in-range limits p z a b)

module _ (limits : Limits) (x : Sheet) where
  pub rest_read : {state : State} {text : List ℕ} → Rest limits x state text → (line : ℕ) → read_from limits state line (lines text) ≡ Ok x
  unfolding read_from step at_end lines ring_on row_step row_by cut_by link_step last_step values_on passed ring_found row_found verdict_found
  rest_read rest_end line = refl
  rest_read (rest_last {ring} {rs} {c} {ks} {p} {z} {text} all a b rest) line =
      rw (last-first limits p z a b text, le-ltb (length ks) ring.nodes all, line-back limits last_shape _ (last-in-range limits p z a b)) (rest_read rest (line + 1))
  rest_read (rest_link {ring} {rs} {c} {ks} {k} {s} {u} {text} few a b d rest) line =
      rw (link-first limits k s u a b d text, lt-ltb (length ks) ring.nodes few, line-back limits link_shape _ (link-in-range limits k s u a b d)) (rest_read rest (line + 1))
  rest_read (rest_cut {ring} {rs} {g} {h} {m} {text} p q r rest) line =
      rw (cut-first limits g h m p q r text, (cut-not-sent limits g h m (sent-read limits (cut_line g h m)) ring rs line (read_line limits.digits cut_shape (cut_line g h m))).1, line-back limits cut_shape _ (cut-in-range limits g h m p q r))
      (rest_read rest (line + 1))
  rest_read (rest_row {ring} {rs} {i} {j} {d} {f} {k} {w} {text} spelled v rest) line =
      rw (sent-first limits i j d f k w spelled text, line-back limits sheet_row_shape _ (sent-in-range limits i j d f k w spelled), v) (rest_read rest (line + 1))
  rest_read (rest_ring {ring} {text} w v rest) line = rw (ring-first limits ring w text, ring-values limits ring w, v) (rest_read rest (line + 1))
