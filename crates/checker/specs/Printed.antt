-- Examples: a text as it is printed for a reader: its lines, with tabs shown as |.
use Rattle.std.specs.Prelude.{ℕ, cond, List, [], ◌∷◌, ◌++◌, eqb}
use Prim.Native.Char.{Char, code}
use Prim.Native.String.{String, [] as []ᵗ, ◌∷◌ as ◌∷ᵗ◌}
use Rattle.text.specs.Bytes.{tab, lf}

-- every character there is ASCII, so its code is its byte
abbrev pub byte_of : Char → ℕ
byte_of c = cond (eqb (code c) (code "|")) tab (code c)

-- lines end with LF, the last one too
unfoldable pub line_printed : String → List ℕ
line_printed []ᵗ = lf ∷ []
line_printed (c ∷ᵗ s) = byte_of c ∷ line_printed s

unfoldable pub printed : List String → List ℕ
unfolding line_printed
printed [] = []
printed (l ∷ ls) = line_printed l ++ printed ls
