-- Internal: what a writer does to a buffer, by what a pass leaves of the buffer behind a text that begins at a place; and of how many fields a line is measured.
use Rattle.std.specs.Prelude.{ℕ, ◌+◌, ◌≡◌, List, length}
use Rattle.text.specs.Pass.{stored}

-- the buffer is left behind the text that begins at `at`, and the result is the place behind the text
pub record Passed (after : List ℕ → ℕ → List ℕ → List ℕ) (old : List ℕ) (at : ℕ) (text new : List ℕ) (result : ℕ) : Type 0 where
  pub place : result ≡ at + length text
  pub buffer : new ≡ after old at text

-- the text stands in the buffer from `at` on, and the other bytes stay as they were
abbrev pub Written : List ℕ → ℕ → List ℕ → List ℕ → ℕ → Type 0
Written = Passed stored

-- a line whose bytes are counted in a u32 has at most so many fields: far more than any shape here, far fewer than would overflow
abbrev pub most_fields : ℕ
most_fields = 1000
