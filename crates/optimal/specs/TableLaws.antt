-- To believe: what holds of every table, each the contract of a function that does nothing.
use Rattle.std.specs.Prelude.{ℕ, ◌^◌, ◌≤◌, ◌<◌, List, ◌≡◌, false}
use Rattle.ring.specs.declared.types.Routed.{Routed}
use Rattle.turns.specs.Turns.{peak_of}
use Rattle.optimal.specs.Search.{Next}
use Rattle.optimal.specs.Optimal.{Found}
use Rattle.optimal.specs.Table.{table_fits, FitsRight, table_optimal, OptimalRight}

-- whether circuits fit is answered rightly
abbrev pub TableFits : Type 0
TableFits =
    (n : ℕ) (next : Next) (top most : ℕ) (plan : List Routed)
    → FitsRight n next top plan (table_fits n next top most plan).answer

-- what the optimal rule answers is right
abbrev pub TableOptimal : Type 0
TableOptimal =
    (n most : ℕ) (plan : List Routed) → 2 ≤ n → peak_of n plan < 2 ^ 24
    → OptimalRight n plan (table_optimal n most plan)

-- two answers without an open question, of which none was asked once more, are the same, however
-- many rows each question might send: which ways are the answer does not depend on the search
abbrev pub OneTable : Type 0
OneTable =
    (n : ℕ) (plan : List Routed) (x y : Found) → OptimalRight n plan x → OptimalRight n plan y
    → x.left_open ≡ 0 → y.left_open ≡ 0 → x.again ≡ false → y.again ≡ false
    → (x.ways ≡ y.ways) × (x.peak ≡ y.peak)
