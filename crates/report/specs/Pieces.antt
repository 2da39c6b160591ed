-- To believe: the pieces of a text of many plans (Rules, a report over many plans): one starts where the text does, and one at each line that starts with R.
use Rattle.std.specs.Prelude.{ℕ, Bool, false, List, [], ◌∷◌, eqb, ◌&&◌}
use Rattle.text.specs.Bytes.{lf, letter_r}
use Rattle.lines.specs.Lines.{with_byte}

-- does a text start with R?
unfoldable pub starts_r : List ℕ → Bool
starts_r [] = false
starts_r (b ∷ t) = eqb b letter_r

-- does a piece end with the byte b, where t is behind it?
unfoldable pub ends_piece : ℕ → List ℕ → Bool
unfolding starts_r
ends_piece b t = eqb b lf && starts_r t

-- the pieces, in order
unfoldable pub pieces : List ℕ → List (List ℕ)
unfolding ends_piece with_byte
pieces [] = []
pieces (b ∷ t) = with_byte (ends_piece b t) b (pieces t)
