-- To believe: a text of many plans of which a part is damaged (Rules, a report over many plans): x stands between a and b, and y is put in its place.
use Rattle.std.specs.Prelude.{ℕ, ◌+◌, true, List, [], ◌∷◌, ◌++◌, map, ◌≡◌, ◌⊎◌}
use mathlib.Core.List.{flatten}
use Rattle.family.specs.declared.family.Family.{Family}
use Rattle.report.specs.declared.outcome.Outcome.{Outcome}
use Rattle.report.specs.declared.totals.Report.{Report}
use Rattle.report.specs.Pieces.{starts_r, pieces}
use Rattle.report.specs.PiecesAre.{EndsLine, NoneBehind, IsEmpty}
use Rattle.report.specs.Totals.{report_of, totals_in}
use Rattle.report.specs.Report.{outcomes, report}

-- a text as a piece: none where it is empty
unfoldable pub alone : List ℕ → List (List ℕ)
alone [] = []
alone (b ∷ t) = (b ∷ t) ∷ []

-- x is a piece of the text a, x, b
pub record IsPiece (a x b : List ℕ) : Type 0 where
  pub before : List (List ℕ)
  pub after : List (List ℕ)
  pub found : pieces (a ++ (x ++ b)) ≡ before ++ x ∷ after
  pub front : flatten before ≡ a
  pub back : flatten after ≡ b

-- x is nothing, and stands at the text's start, before a first R, where there is more
pub record BeforeFirst (a x b : List ℕ) : Type 0 where
  pub at_start : IsEmpty a
  pub nothing : IsEmpty x
  pub first : (IsEmpty b → ⊥) → starts_r b ≡ true

-- y may stand for x before b: it makes no line that starts with R, and breaks none
pub record MayReplace (x b y : List ℕ) : Type 0 where
  pub start : starts_r y ≡ starts_r x
  pub none_behind : NoneBehind y
  pub line_end : (IsEmpty b → ⊥) → IsEmpty y ⊎ EndsLine y

-- the pieces are those of a, then y where it is not empty, then those of b
abbrev pub Between : List ℕ → List ℕ → List ℕ → Type 0
Between a y b = pieces (a ++ (y ++ b)) ≡ pieces a ++ (alone y ++ pieces b)

-- so it is with x, and with y
pub record SameAround (a x b y : List ℕ) : Type 0 where
  pub as_it_was : Between a x b
  pub damaged : Between a y b

-- a number of the report of a text as a piece
abbrev pub share : (Report → ℕ) → (List ℕ → Outcome) → List ℕ → ℕ
share number gives x = number (report_of (map gives (alone x)))

-- a number of the whole report loses what x added and gains what y adds
abbrev pub OnlyShare : (Report → ℕ) → (List ℕ → Outcome) → List ℕ → List ℕ → List ℕ → List ℕ → Type 0
OnlyShare number gives a x b y =
    number (report gives (a ++ (y ++ b))) + share number gives x
    ≡ number (report gives (a ++ (x ++ b))) + share number gives y

-- each piece of a and of b gives what it gave, with what y gives between them ..
abbrev pub GivesBetween : (List ℕ → Outcome) → List ℕ → List ℕ → List ℕ → Type 0
GivesBetween gives a y b =
    outcomes gives (a ++ (y ++ b)) ≡ outcomes gives a ++ (map gives (alone y) ++ outcomes gives b)

-- .. and of the sums of each family, and of the count of what is refused, its share alone changes
pub record OnlyItsShare (gives : List ℕ → Outcome) (a x b y : List ℕ) : Type 0 where
  pub as_it_was : GivesBetween gives a x b
  pub damaged : GivesBetween gives a y b
  pub accepted : (family : Family) →
      OnlyShare (λ (r : Report). (totals_in family r).accepted) gives a x b y
  pub peaks : (family : Family) →
      OnlyShare (λ (r : Report). (totals_in family r).peaks) gives a x b y
  pub refused : OnlyShare (λ (r : Report). r.refused) gives a x b y

-- what may be damaged so
abbrev pub Damaged : List ℕ → List ℕ → List ℕ → List ℕ → Type 0
Damaged a x b y = (IsPiece a x b ⊎ BeforeFirst a x b) × MayReplace x b y

-- damage leaves the other pieces as they were, and what they give
abbrev pub DamageStays : Type 0
DamageStays = (a x b y : List ℕ) → Damaged a x b y →
    SameAround a x b y × ((gives : List ℕ → Outcome) → OnlyItsShare gives a x b y)

-- each piece of a text may be damaged so
abbrev pub PiecesStand : Type 0
PiecesStand = (t : List ℕ) (before : List (List ℕ)) (x : List ℕ) (after : List (List ℕ)) →
    pieces t ≡ before ++ x ∷ after →
    IsPiece (flatten before) x (flatten after) × (flatten before ++ (x ++ flatten after) ≡ t)
