-- Internal: the figures by which a row is chosen without listing its loads: the largest load off its path, and a number that stands for its list.
use Rattle.std.specs.Prelude.{ℕ, zero, suc, ◌+◌, ◌*◌, Bool, cond, ◌&&◌, List, [], ◌∷◌, ltb, leb, ◌≤◌, ◌<◌, get_or, length, ◌≡◌}
use Rattle.ring.specs.declared.types.Routed.{Routed}
use Rattle.ring.specs.Routing.{peak}
use Rattle.ring.specs.Sheet.{numbers_from}
use Rattle.turns.specs.Turns.{on_path}

-- the largest load off a row's path
unfoldable pub off_top : ℕ → (ℕ → ℕ) → Routed → ℕ
off_top n load r = peak (λ k. cond (on_path r k) 0 (load k)) n

-- its turn lowers the peak: it sends something, and no link off its path rises to the peak
abbrev pub lowers_by : ℕ → ℕ → ℕ → Bool
lowers_by off amount top = ltb 0 amount && ltb (off + amount) top

-- the largest load of links g to h
unfoldable pub span_top : (ℕ → ℕ) → ℕ → ℕ → ℕ
span_top load g h = peak (λ k. cond (leb g k) (load k) 0) h

-- a load's weight: 1, doubled for each link whose load is less
unfoldable pub rank_weight_in : (ℕ → ℕ) → ℕ → List ℕ → ℕ
rank_weight_in load v [] = 1
rank_weight_in load v (k ∷ ks) = cond (ltb (load k) v) (2 * rank_weight_in load v ks) (rank_weight_in load v ks)

-- over the links of a ring of n nodes
abbrev pub rank_weight : ℕ → (ℕ → ℕ) → ℕ → ℕ
rank_weight n load v = rank_weight_in load v (numbers_from 1 n)

-- the sum of a figure over links 1 to n
unfoldable pub sum_to : (ℕ → ℕ) → ℕ → ℕ
sum_to f zero = 0
sum_to f (suc n) = sum_to f n + f (suc n)

-- what stands for a row's list: the weights of the loads on its path together
unfoldable pub path_key : ℕ → (ℕ → ℕ) → Routed → ℕ
path_key n load r = sum_to (λ k. cond (on_path r k) (rank_weight n load (load k)) 0) n

-- the weights of all loads together
abbrev pub all_weights : ℕ → (ℕ → ℕ) → ℕ
all_weights n load = sum_to (λ k. rank_weight n load (load k)) n

-- v is one of the loads
pub record LoadOf (loads : List ℕ) (v : ℕ) : Type 0 where
  pub place : ℕ
  pub within : place < length loads
  pub is : get_or loads place 0 ≡ v

-- the weights of links 1 to k together, at place k
pub record Keys (n : ℕ) (load : ℕ → ℕ) (keys : List ℕ) : Type 0 where
  pub is : (k : ℕ) → k ≤ n → get_or keys k 0 ≡ sum_to (λ h. rank_weight n load (load h)) k
