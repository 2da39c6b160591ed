-- To believe: damage at any place of a text of many plans (Rules, a report over many plans): the bytes v between u and w become y, which makes no line that
-- starts with R and breaks none. What v and y both begin or end with is left to u and w; damage to several pieces is such damage, one after the other.
use Rattle.std.specs.Prelude.{ℕ, Bool, true, false, List, [], ◌∷◌, ◌++◌, map, ◌≡◌, eqb, ◌&&◌, ◌||◌}
use Rattle.text.specs.Bytes.{lf, letter_r}
use Rattle.report.specs.declared.outcome.Outcome.{Outcome}
use Rattle.report.specs.Pieces.{starts_r}
use Rattle.report.specs.Damage.{alone, SameAround}
use Rattle.report.specs.Report.{outcomes}

-- does a line begin behind some bytes, where one does or does not begin in front of them?
unfoldable pub line_behind : Bool → List ℕ → Bool
line_behind here [] = here
line_behind here (b ∷ t) = line_behind (eqb b lf) t

-- does a line that starts with R begin in them?
unfoldable pub begins_r : Bool → List ℕ → Bool
begins_r here [] = false
begins_r here (b ∷ t) = (here && eqb b letter_r) || begins_r (eqb b lf) t

-- does a line begin behind u, the start of a text?
abbrev pub line_at : List ℕ → Bool
line_at u = line_behind true u

-- no line that starts with R begins in v or in y, and one that begins right behind does so with either
pub record Harmless (u v w y : List ℕ) : Type 0 where
  pub was : begins_r (line_at u) v ≡ false
  pub is : begins_r (line_at u) y ≡ false
  pub next : starts_r w ≡ true → line_at (u ++ v) ≡ line_at (u ++ y)

-- v and y stand inside one and the same piece, and all other pieces are the same
pub record Inside (u v w y : List ℕ) : Type 0 where
  pub a : List ℕ
  pub front : List ℕ
  pub back : List ℕ
  pub b : List ℕ
  pub before : a ++ front ≡ u
  pub behind : back ++ b ≡ w
  pub same : SameAround a (front ++ (v ++ back)) b (front ++ (y ++ back))

-- each piece of a and of b gives what it gave; between them the one gives what it does with v, and with y
pub record OthersSame (gives : List ℕ → Outcome) {u v w y : List ℕ} (i : Inside u v w y) : Type 0 where
  pub was : outcomes gives (u ++ (v ++ w)) ≡ outcomes gives i.a ++ (map gives (alone (i.front ++ (v ++ i.back))) ++ outcomes gives i.b)
  pub is : outcomes gives (u ++ (y ++ w)) ≡ outcomes gives i.a ++ (map gives (alone (i.front ++ (y ++ i.back))) ++ outcomes gives i.b)

-- v and y stay in one piece, and all others give what they gave
pub record StaysInside (u v w y : List ℕ) : Type 0 where
  pub inside : Inside u v w y
  pub others : (gives : List ℕ → Outcome) → OthersSame gives inside

-- so it is with all harmless damage
abbrev pub DamageAnywhere : Type 0
DamageAnywhere = (u v w y : List ℕ) → Harmless u v w y → StaysInside u v w y
