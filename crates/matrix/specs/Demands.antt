-- To believe: a matrix's demands as a table's rows, one for each pair whose entry is above 0; and a table's rows as a matrix, where rows of one pair add up.
use Rattle.std.specs.Prelude.{ℕ, zero, suc, ◌+◌, ◌-◌, ◌≤◌, ◌<◌, Bool, cond, ◌&&◌, ◌||◌, List, [], ◌∷◌, ◌++◌, ◌≡◌, eqb, length, get_or, take}
use Rattle.ring.specs.Limits.{Limits}
use Rattle.ring.specs.Lists.{listed, Each, Pairs}
use Rattle.ring.specs.Demand.{demand}
use Rattle.ring.specs.declared.types.Demand.{Demand}
use Rattle.matrix.specs.Matrix.{entry}

-- ---- from a matrix

-- the pairs i-j with i < j, in table order, from node i on for k nodes, each with its entry
unfoldable pub pairs_from : (ℕ → ℕ → ℕ) → ℕ → ℕ → ℕ → List Demand
unfolding listed
pairs_from a n i zero = []
pairs_from a n i (suc k) = listed (λ j. demand i j (a i j)) (i + 1) (n - i) ++ pairs_from a n (i + 1) k

-- the rows whose amount is above 0
unfoldable pub above_zero : List Demand → List Demand
above_zero [] = []
above_zero (r ∷ rs) = cond (eqb r.amount 0) (above_zero rs) (r ∷ above_zero rs)

-- the rows of the entries a of a ring of n nodes
unfoldable pub rows_by : ℕ → (ℕ → ℕ → ℕ) → List Demand
unfolding pairs_from above_zero
rows_by n a = above_zero (pairs_from a n 1 n)

-- the rows of a matrix
abbrev pub rows_of_matrix : ℕ → List (List ℕ) → List Demand
rows_of_matrix n m = rows_by n (entry m)

-- ---- to a matrix

-- the pair a, b is i, j
unfoldable pub same_pair : ℕ → ℕ → ℕ → ℕ → Bool
same_pair a b i j = eqb a i && eqb b j

-- whether a row is one of the pair i, j, in either order
abbrev pub joins : Demand → ℕ → ℕ → Bool
joins r i j = same_pair r.first r.second i j || same_pair r.first r.second j i

-- the sum of the amounts of the rows of a pair
unfoldable pub sum_of : List Demand → ℕ → ℕ → ℕ
sum_of [] i j = 0
sum_of (r ∷ rs) i j = cond (joins r i j) r.amount 0 + sum_of rs i j

-- the matrix of a table's rows
abbrev pub matrix_of_rows : ℕ → List Demand → List (List ℕ)
matrix_of_rows n rs = listed (λ i. listed (sum_of rs i) 1 n) 1 n

-- 19: at the row with this number, counted from 1, the sum of its pair's rows up to there passes 9,999
pub record Passes (limits : Limits) (rs : List Demand) (k : ℕ) : Type 0 where
  pub low : 1 ≤ k
  pub high : k ≤ length rs
  pub wrong : limits.amount < sum_of (take k rs) (get_or rs (k - 1) (demand 0 0 0)).first (get_or rs (k - 1) (demand 0 0 0)).second

-- the first such row; row k stands on line k + 1
pub record PassesAt (limits : Limits) (rs : List Demand) (line : ℕ) : Type 0 where
  pub k : ℕ
  pub at : line ≡ k + 1
  pub holds : Passes limits rs k
  pub first : (other : ℕ) → other < k → Passes limits rs other → ⊥

-- ---- which tables come back from their matrix

-- at most one row for a pair, and none of amount 0
pub record OneEach (rs : List Demand) : Type 0 where
  pub one : Pairs (λ r s. (r.first ≡ s.first) × (r.second ≡ s.second) → ⊥) rs
  pub some : Each (λ r. 1 ≤ r.amount) rs
