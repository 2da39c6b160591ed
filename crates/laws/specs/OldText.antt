-- To believe: a table and a sheet of a SONET ring as text, without the writer: their lines, what
-- each says, and how its numbers are spelled.
use Rattle.std.specs.Prelude.{ℕ, List, [], ◌∷◌, ◌++◌, map}
use Rattle.ring.specs.declared.types.Ring.{Ring}
use Rattle.ring.specs.declared.types.Demand.{Demand}
use Rattle.ring.specs.declared.types.Cut.{Cut}
use Rattle.ring.specs.declared.types.Link.{Link}
use Rattle.ring.specs.declared.types.Routed.{Routed}
use Rattle.ring.specs.Routing.{by_way}
use Rattle.ring.specs.Sheet.{Sheet}
use Rattle.text.specs.Bytes.{tab, lf, letter_r, letter_d, letter_c, letter_l, letter_z, letter_f, letter_b}
use Rattle.text.specs.Number.{Spelling}

-- ---- the lines

-- a letter, numbers, and the bytes that end the line
pub record Line : Type 0 where
  pub letter : ℕ
  pub numbers : List ℕ
  pub end : List ℕ

-- a letter and numbers, which LF ends
abbrev pub line : ℕ → List ℕ → Line
line letter numbers = record { letter = letter; numbers = numbers; end = lf ∷ [] }

-- R n fibres
abbrev pub ring_said : Ring → Line
ring_said ring = line letter_r (ring.nodes ∷ ring.fibres ∷ [])

-- D i j amount
abbrev pub row_said : Demand → Line
row_said r = line letter_d (r.first ∷ r.second ∷ r.amount ∷ [])

-- D i j amount front back F-or-B
abbrev pub routed_said : Routed → Line
routed_said r =
    record {
      letter = letter_d;
      numbers = r.sent.demand.first ∷ r.sent.demand.second ∷ r.sent.demand.amount ∷ r.sent.front
          ∷ r.sent.back ∷ [];
      end = tab ∷ by_way r.way letter_f letter_b ∷ lf ∷ [];
    }

-- C g h across
abbrev pub cut_said : Cut → Line
cut_said c = line letter_c (c.g ∷ c.h ∷ c.across ∷ [])

-- L link split-load unsplit-load
abbrev pub link_said : Link → Line
link_said l = line letter_l (l.link ∷ l.split ∷ l.unsplit ∷ [])

-- Z unsplit-peak size
abbrev pub last_said : Sheet → Line
last_said x = line letter_z (x.unsplit_peak ∷ x.size ∷ [])

-- the R line, then D lines
abbrev pub table_lines : Ring → List Demand → List Line
table_lines ring rs = ring_said ring ∷ map row_said rs

-- the R line; D lines; the C line; L lines; the Z line
abbrev pub sheet_lines : Sheet → List Line
sheet_lines x =
    ring_said x.ring
    ∷ (map routed_said x.rows ++ cut_said x.cut ∷ (map link_said x.links ++ last_said x ∷ []))

-- ---- their text

-- each number has a tab before it, and is spelled by 1 to `most` digits with no 0 in front of
-- another; then comes what ends the line
pub data NumbersSpelled (most : ℕ) (end : List ℕ) : List ℕ → List ℕ → Type 0 where
  no_number : NumbersSpelled most end [] end
  number_then : {number : ℕ} {numbers bytes rest : List ℕ} → Spelling most number bytes
      → NumbersSpelled most end numbers rest
      → NumbersSpelled most end (number ∷ numbers) (tab ∷ (bytes ++ rest))

-- line after line, each with its letter before its numbers
pub data LinesSpelled (most : ℕ) : List Line → List ℕ → Type 0 where
  no_line : LinesSpelled most [] []
  line_then : {l : Line} {ls : List Line} {bytes rest : List ℕ}
      → NumbersSpelled most l.end l.numbers bytes → LinesSpelled most ls rest
      → LinesSpelled most (l ∷ ls) (l.letter ∷ (bytes ++ rest))
