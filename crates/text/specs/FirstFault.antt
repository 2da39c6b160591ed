-- To believe: the first faulty byte of what is no line of a shape (Rules, the byte), by the writer alone.
use Rattle.std.specs.Prelude.{ℕ, ◌+◌, ◌≡◌, List, take}
use Rattle.text.specs.WriteLine.{write_line, FitsShape}
use Rattle.text.specs.declared.field.Field.{Field}

-- some line of this shape, its numbers of at most so many digits, has the first k bytes of s (and where s has fewer, ends where s ends)
pub record Agrees (most : ℕ) (shape : List Field) (s : List ℕ) (k : ℕ) : Type 0 where
  pub vs : List ℕ
  pub range : FitsShape most shape vs
  pub text : take k (write_line shape vs) ≡ take k s

-- p is the place of the first faulty byte: a line may begin with the bytes before it, and none with it too
pub record FirstFault (most : ℕ) (shape : List Field) (s : List ℕ) (p : ℕ) : Type 0 where
  pub before : Agrees most shape s p
  pub here : Agrees most shape s (p + 1) → ⊥
