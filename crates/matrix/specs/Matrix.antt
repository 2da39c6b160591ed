-- To believe: what a matrix is and how it is written (Rules, matrices), n lines of n numbers parted by tabs, symmetric and 0 on the diagonal.
use Rattle.std.specs.Prelude.{ℕ, ◌+◌, ◌-◌, ◌≤◌, List, [], ◌≡◌, length, get_or, take}
use Rattle.std.specs.List.{flat_map}
use Rattle.ring.specs.Lists.{Each}
use Rattle.text.specs.Shapes.{numbers_line}

-- entry i, j of the lines m, both counted from 1
abbrev pub entry : List (List ℕ) → ℕ → ℕ → ℕ
entry m i j = get_or (get_or m (i - 1) []) (j - 1) 0

-- the lines, one behind the other
unfoldable pub write_matrix : List (List ℕ) → List ℕ
write_matrix m = flat_map numbers_line m

-- where the entry behind k others starts in the line of the numbers vs, counted from 1: one more than the length of what is written before it
abbrev pub entry_byte : List ℕ → ℕ → ℕ
entry_byte vs k = length (numbers_line (take k vs)) + 1

-- n lines of n numbers
pub record IsSquare (n : ℕ) (m : List (List ℕ)) : Type 0 where
  pub tall : length m ≡ n
  pub wide : Each (λ vs. length vs ≡ n) m

-- a node of the ring
abbrev pub Node : ℕ → ℕ → Type 0
Node n i = (1 ≤ i) × (i ≤ n)
