-- Internal: reading a line by its shape, from left to right; a number has at most `most` digits.
use Rattle.std.specs.Prelude.{ℕ, List, [], ◌∷◌, ◌++◌, cond, length, eqb, Result, Ok, Err}
use Rattle.text.specs.ReadMark.{mark_at}
use Rattle.text.specs.ReadNumber.{number_at}
use Rattle.text.specs.WriteLine.{end_of}
use Rattle.text.specs.declared.field.Field.{Field}
use Rattle.text.specs.declared.field.Field.TheVariants.{Letter, Number, Way}

-- what a line says: the values of its fields; or the place of its first faulty byte, counted from 0
abbrev pub Reading : Type 0
Reading = Result (List ℕ) ℕ

-- what is read as a field at the place p of the text s, with the byte `end` behind it: its value and the place behind that byte
unfoldable pub field_at : ℕ → Field → List ℕ → ℕ → ℕ → Result (ℕ × ℕ) ℕ
field_at most (Letter b) s p end = mark_at (Letter b) s p end
field_at most Number s p end = number_at most s p end
field_at most Way s p end = mark_at Way s p end

-- a field that was read, then what `next` makes of its value and the place behind it
unfoldable pub field_then : Result (ℕ × ℕ) ℕ → (ℕ → ℕ → Reading) → Reading
field_then (Ok x) next = next x.0 x.1
field_then (Err p) next = Err p

-- the fields fs from the place p on, behind fields of the values vs, and nothing behind them
unfoldable pub fields_from : ℕ → List Field → List ℕ → ℕ → List ℕ → Reading
unfolding field_then
fields_from most [] s p vs = cond (eqb p (length s)) (Ok vs) (Err p)
fields_from most (f ∷ fs) s p vs = field_then (field_at most f s p (end_of (length fs))) λ v q. fields_from most fs s q (vs ++ v ∷ [])

-- the whole text s as a line of this shape
unfoldable pub read_line : ℕ → List Field → List ℕ → Reading
read_line most shape s = fields_from most shape s 0 []
