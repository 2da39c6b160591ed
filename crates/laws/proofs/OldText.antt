-- What the writer writes of a ring and its rows, and of a sheet, is a text of their lines where
-- their numbers can be spelled, and no other text is: line by line, and in a line number by number
-- (`spelling-is`).
use Prim.Native.Nat.{ℕ, ◌≤◌, ◌<◌}
use mathlib.Core.List.{List, [], ◌∷◌, ◌++◌, map, append_assoc}
use mathlib.Core.Path.{◌≡◌, refl, sym, ◌∙◌, ap₂, subst, subst₂}
use native.Mathlib.Omega.{arith}
use Rattle.std.proofs.Common.{append-nil}
use Rattle.std.specs.List.{flat_map}
use Rattle.family.specs.declared.family.Family.TheVariants.{Sonet}
use Rattle.ring.specs.Limits.{Limits, Countable}
use Rattle.ring.specs.Lists.{Each, none, more}
use Rattle.ring.specs.Demand.{OnRing}
use Rattle.ring.specs.WithinLimits.{WithinLimits}
use Rattle.ring.specs.declared.types.Ring.{Ring}
use Rattle.ring.specs.declared.types.Demand.{Demand}
use Rattle.ring.specs.declared.types.Routed.{Routed}
use Rattle.ring.specs.declared.types.Way.{Way}
use Rattle.ring.specs.declared.types.Way.TheVariants.{Front, Back}
use Rattle.ring.specs.Routing.{routed}
use Rattle.ring.specs.Sheet.{Sheet, sents, demands}
use Rattle.ring.proofs.Lists.{each, each_both}
use Rattle.ring.proofs.Small.{each-of-demands}
use Rattle.text.specs.Bytes.{tab}
use Rattle.text.specs.Field.{spell}
use Rattle.text.specs.Number.{limit, digits}
use Rattle.text.specs.RingLine.{ring_line}
use Rattle.text.specs.Shapes.{row_line, cut_line, last_line}
use Rattle.text.specs.WriteLine.{end_of, write_line}
use Rattle.text.proofs.Spellings.{spelling-is}
use Rattle.table.specs.Spelled.{LimitsSpelled}
use Rattle.table.specs.Table.{write_rows, write_table}
use Rattle.table.proofs.TableText.{fibres-spelled}
use Rattle.sheet.specs.Range.{InRange, RowSpelled}
use Rattle.sheet.specs.WriteSheet.{routed_line, load_line, end_text, write_sheet}
use Rattle.laws.specs.OldText.{Line, ring_said, row_said, routed_said, cut_said, link_said, last_said, table_lines, sheet_lines}
use Rattle.laws.specs.OldText.{NumbersSpelled, no_number, number_then, LinesSpelled, no_line, line_then}

-- a line by the digits of its numbers
abbrev numbers_text : List ℕ → List ℕ → List ℕ
numbers_text end [] = end
numbers_text end (v ∷ vs) = tab ∷ (digits v ++ numbers_text end vs)

abbrev line_text : Line → List ℕ
line_text l = l.letter ∷ numbers_text l.end l.numbers

module _ (most : ℕ) (fit : Countable most) where
  -- ---- some lines are one text

  one-numbers : {end vs a b : List ℕ} → NumbersSpelled most end vs a → NumbersSpelled most end vs b
      → a ≡ b
  one-numbers no_number no_number = refl
  one-numbers (number_then {number = v} {bytes = a} s rest) (number_then {bytes = b} s' rest') =
      ap₂ (λ a b. tab ∷ (a ++ b))
      (((spelling-is most fit v a).0 s).1 ∙ sym ((spelling-is most fit v b).0 s').1)
      (one-numbers rest rest')

  pub one-text : {ls : List Line} {a b : List ℕ} → LinesSpelled most ls a → LinesSpelled most ls b
      → a ≡ b
  one-text no_line no_line = refl
  one-text (line_then {l = l} s rest) (line_then s' rest') =
      ap₂ (λ a b. l.letter ∷ (a ++ b)) (one-numbers s s') (one-text rest rest')

  -- ---- as they are written

  -- no number of the line has more digits
  abbrev Short : Line → Type 0
  Short l = Each (λ v. v < limit most) l.numbers

  numbers-spelled : (end : List ℕ) {vs : List ℕ} → Each (λ v. v < limit most) vs
      → NumbersSpelled most end vs (numbers_text end vs)
  numbers-spelled end none = no_number
  numbers-spelled end (more {a = v} h hs) =
      number_then ((spelling-is most fit v (digits v)).1 (h, refl)) (numbers-spelled end hs)

  one_line : (l : Line) (written : List ℕ) → line_text l ≡ written → Short l
      → {ls : List Line} {t : List ℕ} → LinesSpelled most ls t
      → LinesSpelled most (l ∷ ls) (written ++ t)
  one_line l written same short {ls} {t} rest =
      subst (λ w. LinesSpelled most (l ∷ ls) (w ++ t)) same
      (line_then (numbers-spelled l.end short) rest)

  many_lines : {A : Type 0} (said : A → Line) (written : A → List ℕ)
      → ((a : A) → line_text (said a) ≡ written a) → {l : List A} → Each (λ a. Short (said a)) l
      → {ls : List Line} {t : List ℕ} → LinesSpelled most ls t
      → LinesSpelled most (map said l ++ ls) (flat_map written l ++ t)
  many_lines said written same none rest = rest
  many_lines said written same (more {a = a} {l = l} h hs) {ls} {t} rest =
      subst (LinesSpelled most (said a ∷ (map said l ++ ls)))
      (sym (append_assoc (written a) (flat_map written l) t))
      (one_line (said a) (written a) (same a) h (many_lines said written same hs rest))

-- ---- the lines of a table and of a sheet

ring-text : (ring : Ring) → ring.family ≡ Sonet → line_text (ring_said ring) ≡ ring_line ring
unfolding write_line spell end_of
ring-text ring sonet = rw sonet refl

abbrev row_text : Demand → List ℕ
row_text r = row_line r.first r.second r.amount

row-text : (r : Demand) → line_text (row_said r) ≡ row_text r
unfolding write_line spell end_of
row-text r = refl

routed-text : (r : Routed) → line_text (routed_said r) ≡ routed_line r
unfolding write_line spell end_of
routed-text r = go r.way
  where
    go : (way : Way) → line_text (routed_said (routed r.sent way)) ≡ routed_line (routed r.sent way)
    go Front = refl
    go Back = refl

module _ (limits : Limits) (spelled : LimitsSpelled limits) where
  abbrev most : ℕ
  most = limits.digits

  abbrev fit : Countable most
  fit = limits.countable

  module _ (ring : Ring) (rs : List Demand) (w : WithinLimits limits ring rs) where
    ring-short : Short most fit (ring_said ring)
    ring-short =
        more (omega (arith, w.many, spelled.nodes))
        (more (fibres-spelled limits ring.fibres w.fibres) none)

    row-short : (r : Demand) → OnRing ring.nodes r → r.amount ≤ limits.amount
        → Short most fit (row_said r)
    row-short r on small =
        more (omega (arith, on.order, on.high, w.many, spelled.nodes))
        (more (omega (arith, on.high, w.many, spelled.nodes))
        (more (omega (arith, small, spelled.amount)) none))

    pub table-spelled : ring.family ≡ Sonet
        → LinesSpelled most (table_lines ring rs) (write_table ring rs)
    unfolding write_table write_rows
    table-spelled sonet =
        one_line most fit (ring_said ring) (ring_line ring) (ring-text ring sonet) ring-short
        (subst₂ (LinesSpelled most) (append-nil (map row_said rs))
        (append-nil (flat_map row_text rs))
        (many_lines most fit row_said row_text row-text (each_both row-short w.rows.nodes w.amounts)
        no_line))

  module _ (x : Sheet) (range : InRange limits x) where
    demands-short : Each (λ (r : Routed). Short most fit (row_said r.sent.demand)) x.rows
    demands-short =
        let w = range.within in
        each-of-demands {P = λ r. Short most fit (row_said r)} x.rows
        (each_both (row-short x.ring (demands (sents x.rows)) w) w.rows.nodes w.amounts)

    routed-short : (r : Routed) → Short most fit (row_said r.sent.demand) → RowSpelled limits r
        → Short most fit (routed_said r)
    routed-short r (more i (more j (more d none))) h =
        more i (more j (more d (more h.front (more h.back none))))

    pub sheet-spelled : x.ring.family ≡ Sonet → LinesSpelled most (sheet_lines x) (write_sheet x)
    unfolding write_sheet end_text write_line spell end_of
    sheet-spelled sonet =
        let s = range.spelled in
        let end = append-nil (last_line x.unsplit_peak x.size) in
        one_line most fit (ring_said x.ring) (ring_line x.ring) (ring-text x.ring sonet)
        (ring-short x.ring (demands (sents x.rows)) range.within)
        (many_lines most fit routed_said routed_line routed-text
        (each_both routed-short demands-short s.halves)
        (one_line most fit (cut_said x.cut) (cut_line x.cut.g x.cut.h x.cut.across) refl
        (more s.cut.0 (more s.cut.1.0 (more s.cut.1.1 none)))
        (many_lines most fit link_said load_line (λ l. refl)
        (each (λ l h. more h.link (more h.split (more h.unsplit none))) s.loads)
        (subst (LinesSpelled most (last_said x ∷ [])) end
        (one_line most fit (last_said x) (last_line x.unsplit_peak x.size) refl
        (more s.last.0 (more s.last.1 none)) no_line)))))
