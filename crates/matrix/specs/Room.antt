-- To believe: how many bytes always suffice for the matrix of a table.
use Rattle.std.specs.Prelude.{ℕ, ◌*◌}
use Rattle.ring.specs.Limits.{Limits}

-- n lines of n entries, each of at most 4 digits and the byte behind them
abbrev pub matrix_room : Limits → ℕ
matrix_room limits = 5 * limits.nodes * limits.nodes
