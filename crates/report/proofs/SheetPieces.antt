-- An accepted sheet is one piece that starts with R and ends with LF; so a text of accepted sheets has these for its pieces, and its report counts them all accepted.
use Prim.Native.Nat.{ℕ}
use mathlib.Core.Bool.{Bool, true, false, ◌&&◌}
use mathlib.Core.List.{List, [], ◌∷◌, ◌++◌, append-nil, map, flatten}
use mathlib.Core.Logic.{◌⊎◌, inl, inr}
use mathlib.Core.Path.{◌≡◌, refl, ap, sym, ◌∙◌}
use native.Mathlib.Omega.{arith}
use lib.Dec.{eqb}
use lib.ListN.{length}
use Rattle.family.specs.declared.family.Family.{Family}
use Rattle.family.specs.declared.family.Family.TheVariants.{Sonet, Sdh}
use Rattle.ring.specs.Limits.{desk}
use Rattle.ring.specs.Ring.{ring_of}
use Rattle.ring.specs.declared.types.Ring.{Ring}
use Rattle.ring.specs.Lists.{Each, none, more, Steps, no_member, one_member, step}
use Rattle.ring.specs.Sheet.{Sheet}
use Rattle.text.specs.Bytes.{lf, letter_r}
use Rattle.text.specs.Field.{spell}
use Rattle.text.specs.WriteLine.{end_of, write_line}
use Rattle.text.specs.RingLine.{ring_line}
use Rattle.text.specs.declared.field.Field.{Field}
use Rattle.lines.specs.Lines.{with_byte, lines}
use Rattle.lines.proofs.LinesOf.{FirstLine, join-lines}
use Rattle.sheet.specs.Says.{State, start, rows, links, end}
use Rattle.sheet.proofs.Rest.{Rest, rest_end, rest_last, rest_link, rest_cut, rest_row, rest_ring, sent-first, cut-first, link-first, last-first}
use Rattle.sheet.proofs.SheetText.{sheet-rest}
use Rattle.table.proofs.TableLines.{ring-first}
use Rattle.table.proofs.TableText.{desk-spelled}
use Rattle.checker.specs.Says.{Accepted}
use Rattle.report.specs.Pieces.{starts_r, ends_piece, pieces}
use Rattle.report.specs.PiecesAre.{EndsLine, IsEmpty, OnePiece, Parted}
use Rattle.report.specs.Totals.{refuses, total, totals, report_of}
use Rattle.report.specs.Report.{outcomes, report}
use Rattle.report.specs.Checked.{gives_plan, AllAccepted}
use Rattle.report.specs.ByCheck.{checked}
use Rattle.report.proofs.PieceLaws.{Uncut, uncut-none, only-pieces, ends-append}
use Rattle.report.proofs.CheckedLaws.{only-checked, report-as, each-once}

-- ---- lines that do not start with R

abbrev NoR : List (List ℕ) → Type 0
NoR = Each (λ l. starts_r l ≡ false)

-- a text starts as its first line does
starts-line : (t : List ℕ) → NoR (lines t) → starts_r t ≡ false
unfolding lines with_byte starts_r
starts-line [] h = refl
starts-line (b ∷ t) h = go (eqb b lf) (lines t) h
  where
    go : (v : Bool) (ls : List (List ℕ)) → NoR (with_byte v b ls) → eqb b letter_r ≡ false
    go true ls (more e h) = e
    go false [] (more e h) = e
    go false (l ∷ ls) (more e h) = e

-- where no line behind the first starts with R, none does
lines-uncut : (t l : List ℕ) (ls : List (List ℕ)) → lines t ≡ l ∷ ls → NoR ls → Uncut t
unfolding lines with_byte flatten starts_r Uncut ends_piece
lines-uncut [] l ls e h = tt
lines-uncut (b ∷ t) l ls e h = go (λ m ms f n. lines-uncut t m ms f n) (eqb b lf) (lines t) refl e
  where
    go : ((m : List ℕ) (ms : List (List ℕ)) → lines t ≡ m ∷ ms → NoR ms → Uncut t) → (v : Bool) (ms : List (List ℕ)) → lines t ≡ ms
        → with_byte v b ms ≡ l ∷ ls → ((v && starts_r t) ≡ false) × Uncut t
    go on true [] f q = let i : t ≡ [] = sym (join-lines t) ∙ ap flatten f in rw i (refl, tt)
    go on true (m ∷ ms) f q =
        let same : m ∷ ms ≡ ls = cc in
        let n : NoR (m ∷ ms) = rw same h in
        (starts-line t (rw f n), on m ms f (behind-first n))
      where
        behind-first : {k : List ℕ} {ks : List (List ℕ)} → NoR (k ∷ ks) → NoR ks
        behind-first (more i j) = j
    go on false [] f q = let i : t ≡ [] = sym (join-lines t) ∙ ap flatten f in rw i (refl, tt)
    go on false (m ∷ ms) f q = let same : ms ≡ ls = cc in (refl, on m ms f (rw same h))

no-r-more : (l t : List ℕ) → FirstLine l → starts_r l ≡ false → NoR (lines t) → NoR (lines (l ++ t))
no-r-more l t first e h = rw (first t) (more e h)

-- ---- the lines of a sheet behind its first

Later : State → Type 0
Later start = ⊥
Later (rows ring rs) = Unit {0}
Later (links ring rs c ks) = Unit {0}
Later (end x) = Unit {0}

behind : {x : Sheet} {state : State} {text : List ℕ} → Rest desk x state text → Later state → NoR (lines text)
unfolding lines write_line spell starts_r Later
behind rest_end h = none
behind (rest_last {p} {z} {text} all a b rest) h = no-r-more _ text (last-first desk p z a b) refl (behind rest tt)
behind (rest_link {k} {s} {u} {text} few a b d rest) h = no-r-more _ text (link-first desk k s u a b d) refl (behind rest tt)
behind (rest_cut {g} {h = c} {m} {text} p q r rest) h = no-r-more _ text (cut-first desk g c m p q r) refl (behind rest tt)
behind (rest_row {i} {j} {d} {f} {k} {w} {text} spelled v rest) h = no-r-more _ text (sent-first desk i j d f k w spelled) refl (behind rest tt)
behind (rest_ring w v rest) h = absurd h

-- ---- it ends with LF

ends-line : (f : Field) (v : ℕ) (fs : List Field) (vs : List ℕ) → length vs ≡ length fs → EndsLine (write_line (f ∷ fs) (v ∷ vs))
unfolding EndsLine write_line end_of
ends-line f v [] [] e = (spell f v, refl)
ends-line f v [] (w ∷ vs) e = absurd (omega arith)
ends-line f v (g ∷ fs) [] e = absurd (omega arith)
ends-line f v (g ∷ fs) (w ∷ vs) e =
    let n = ends-line g w fs vs (omega arith) in
    let b = end_of (length (g ∷ fs)) in
    ends-append (spell f v) (b ∷ write_line (g ∷ fs) (w ∷ vs)) (ends-append (b ∷ []) (write_line (g ∷ fs) (w ∷ vs)) n)

ends-more : (l t : List ℕ) → EndsLine l → IsEmpty t ⊎ EndsLine t → EndsLine (l ++ t)
unfolding IsEmpty
ends-more l t e (inl i) = rw (i, append-nil l) e
ends-more l t e (inr n) = ends-append l t n

-- the R line of either family does
ring-ends : (ring : Ring) → EndsLine (ring_line ring)
ring-ends ring = go ring.family
  where
    go : (family : Family) → EndsLine (ring_line (ring_of ring.nodes ring.fibres family))
    go Sonet = ends-line _ _ _ _ refl
    go Sdh = ends-line _ _ _ _ refl

rest-ends : {x : Sheet} {state : State} {text : List ℕ} → Rest desk x state text → IsEmpty text ⊎ EndsLine text
unfolding IsEmpty
rest-ends rest_end = inl refl
rest-ends (rest_last {text} all a b rest) = inr (ends-more _ text (ends-line _ _ _ _ refl) (rest-ends rest))
rest-ends (rest_link {text} few a b d rest) = inr (ends-more _ text (ends-line _ _ _ _ refl) (rest-ends rest))
rest-ends (rest_cut {text} p q r rest) = inr (ends-more _ text (ends-line _ _ _ _ refl) (rest-ends rest))
rest-ends (rest_row {text} spelled v rest) = inr (ends-more _ text (ends-line _ _ _ _ refl) (rest-ends rest))
rest-ends (rest_ring {ring} {text} w v rest) = inr (ends-more _ text (ring-ends ring) (rest-ends rest))

-- ---- so it is one piece

record SheetPiece (t : List ℕ) : Type 0 where
  one : OnePiece t
  starts : starts_r t ≡ true
  ends : EndsLine t

ended : (t : List ℕ) → (IsEmpty t → ⊥) → IsEmpty t ⊎ EndsLine t → EndsLine t
ended t h (inl e) = absurd (h e)
ended t h (inr n) = n

started : (t : List ℕ) → starts_r t ≡ true → IsEmpty t → ⊥
unfolding starts_r IsEmpty
started [] e i = absurd (cc)
started (b ∷ t) e i = cc

-- the R line of either family starts with R
ring-starts : (ring : Ring) (text : List ℕ) → starts_r (ring_line ring ++ text) ≡ true
unfolding write_line spell starts_r
ring-starts ring text = go ring.family
  where
    go : (family : Family) → starts_r (ring_line (ring_of ring.nodes ring.fibres family) ++ text) ≡ true
    go Sonet = refl
    go Sdh = refl

sheet-piece : {x : Sheet} {t : List ℕ} → Rest desk x start t → SheetPiece t
unfolding Later
sheet-piece (rest_ring {ring} {text} w v rest) =
    let s = ring-starts ring text in
    let r = rest_ring w v rest in
    let l = ring-first desk ring w text in
    record {
      one = record { filled = started _ s; none_behind = uncut-none _ (lines-uncut _ _ (lines text) l (behind rest tt)) };
      starts = s;
      ends = ended _ (started _ s) (rest-ends r);
    }

accepted-piece : (t : List ℕ) → Accepted desk t → SheetPiece t
accepted-piece t a = rw a.is.text (sheet-piece (sheet-rest desk desk-spelled a.x a.is.range))

-- ---- many of them

are-pieces : (ts : List (List ℕ)) → Each (Accepted desk) ts → Each OnePiece ts × Steps Parted ts
are-pieces [] none = (none, no_member)
are-pieces (t ∷ []) (more a none) = (more (accepted-piece t a).one none, one_member)
are-pieces (t ∷ s ∷ ts) (more a (more b each)) =
    let r = are-pieces (s ∷ ts) (more b each) in
    let p = accepted-piece t a in
    (more p.one r.0, step (record { ends = p.ends; starts = (accepted-piece s b).starts }) r.1)

none-refused : (ts : List (List ℕ)) → Each (Accepted desk) ts → total refuses (map checked ts) ≡ 0
unfolding total refuses
none-refused [] none = refl
none-refused (t ∷ ts) (more a each) =
    let e = only-checked t _ (gives_plan a) in
    rw (← e) (omega (arith, none-refused ts each))

pub all-accepted : AllAccepted
unfolding report outcomes report_of totals
all-accepted ts each =
    let p = are-pieces ts each in
    let e : ts ≡ pieces (flatten ts) = only-pieces (flatten ts) ts (record { together = refl; each = p.0; parted = p.1 }) in (
      sym e,
      λ r h.
          let none : r.refused ≡ 0 = rw ((report-as (flatten ts) r).1 h, ← e) (none-refused ts each) in
          (omega (arith, none, each-once (flatten ts) r h, ap length e), none),
    )
