-- A line number names one line; and who goes through the lines in order finds each under its number: by recursion over where
-- a line stands.
use Prim.Native.Nat.{ℕ, ◌+◌, ◌≤◌, ◌<◌}
use mathlib.Core.List.{List, [], ◌∷◌}
use mathlib.Core.Path.{◌≡◌, refl, subst}
use native.Mathlib.Omega.{arith}
use lib.ListN.{length}
use Rattle.lines.specs.Lines.{LineIs, at_first, behind}

-- ---- one line

pub line-low : {ls : List (List ℕ)} {line : ℕ} {l : List ℕ} → LineIs ls line l → 1 ≤ line
line-low at_first = omega arith
line-low (behind p) = omega arith

pub line-one : {ls : List (List ℕ)} {line other : ℕ} {l m : List ℕ} → LineIs ls line l → LineIs ls other m → line ≡ other → l ≡ m
line-one at_first at_first e = refl
line-one at_first (behind q) e = absurd (omega (arith, line-low q))
line-one (behind p) at_first e = absurd (omega (arith, line-low p))
line-one (behind p) (behind q) e = line-one p q (omega arith)

-- ---- in order

-- from the line with this number on, the lines `all` are ls
pub data LinesFrom (all : List (List ℕ)) : ℕ → List (List ℕ) → Type 0 where
  from_first : LinesFrom all 1 all
  from_next : {line : ℕ} {l : List ℕ} {ls : List (List ℕ)} → LinesFrom all line (l ∷ ls) → LinesFrom all (line + 1) ls

line-high : {ls : List (List ℕ)} {line : ℕ} {l : List ℕ} → LineIs ls line l → line ≤ length ls
line-high at_first = omega arith
line-high (behind p) = omega (arith, line-high p)

module _ {all : List (List ℕ)} where
  line-under : {line k m : ℕ} {l : List ℕ} {ls : List (List ℕ)} → LinesFrom all line ls → LineIs ls k l → m + 1 ≡ line + k → LineIs all m l
  line-under {k} {m} {l} from_first p e = let f : k ≡ m = omega arith in subst (λ x. LineIs all x l) f p
  line-under (from_next f) p e = line-under f (behind p) (omega arith)

  pub line-here : {line : ℕ} {l : List ℕ} {ls : List (List ℕ)} → LinesFrom all line (l ∷ ls) → LineIs all line l
  line-here f = line-under f at_first refl

  line_before : {line k : ℕ} {l : List ℕ} {ls : List (List ℕ)} → LinesFrom all line ls → LineIs all k l → k < line + length ls
  line_before from_first p = omega (arith, line-high p)
  line_before (from_next f) p = omega (arith, line_before f p)

  -- behind the last line
  pub no-line-left : {line k : ℕ} {l : List ℕ} → LinesFrom all line [] → LineIs all k l → k < line
  no-line-left f p = omega (arith, line_before f p)
