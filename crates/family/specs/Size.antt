-- To believe: the smallest size for a peak, of any list of sizes (Rules, line sizes).
use Rattle.std.specs.Prelude.{ℕ, ◌≤◌, ◌<◌, Bool, true, cond, ◌&&◌, ◌⊎◌, ◌≡◌, leb, ltb}
use mathlib.Core.List.{List, [], ◌∷◌, Memᴰ}

-- the first of the sizes that is at least the peak, 0 if none is
unfoldable pub smallest_in : List ℕ → ℕ → ℕ
smallest_in [] peak = 0
smallest_in (s ∷ ss) peak = cond (leb peak s) s (smallest_in ss peak)

-- ---- what the question means of a rising list

-- each size is above the one before, the first of them above s
abbrev pub rises_above : ℕ → List ℕ → Bool
rises_above s [] = true
rises_above s (t ∷ ts) = ltb s t && rises_above t ts

-- each size is above the one before
abbrev pub rises : List ℕ → Bool
rises [] = true
rises (s ∷ ss) = rises_above s ss

-- a size of the list that is enough, where no smaller one of the list is
pub record Smallest (sizes : List ℕ) (peak size : ℕ) : Type 0 where
  pub listed : Memᴰ size sizes
  pub enough : peak ≤ size
  pub least : (s : ℕ) → Memᴰ s sizes → peak ≤ s → size ≤ s

-- no size of the list is enough, which the answer 0 says
pub record NoneFits (sizes : List ℕ) (peak size : ℕ) : Type 0 where
  pub zero : size ≡ 0
  pub short : (s : ℕ) → Memᴰ s sizes → s < peak

-- the size is the smallest that is at least the peak, or there is none and it is 0
abbrev pub Answers : List ℕ → ℕ → ℕ → Type 0
Answers sizes peak size = Smallest sizes peak size ⊎ NoneFits sizes peak size
