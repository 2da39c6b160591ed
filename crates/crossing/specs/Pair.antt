-- To believe: the first pair of rows that stand in a relation, in rule C's order, or that there is none; and the relation of the parallel question, of rows that are
-- split and parallel (Rules, the parallel question).
use Rattle.std.specs.Prelude.{ℕ, ◌+◌, ◌<◌, true, List, ◌∷◌, ◌≡◌}
use Rattle.ring.specs.TableRows.{PairBefore}
use Rattle.ring.specs.Routing.{Split}
use Rattle.ring.specs.declared.types.Sent.{Sent}
use Rattle.ring.specs.Crossing.{parallel}

-- of rows whose places are counted from k, the one at place p
pub data RowFrom {A : Type 0} : ℕ → List A → ℕ → A → Type 0 where
  at_first : {k : ℕ} {a : A} {l : List A} → RowFrom k (a ∷ l) k a
  behind : {k p : ℕ} {a b : A} {l : List A} → RowFrom (k + 1) l p b → RowFrom k (a ∷ l) p b

-- rows p and q stand in the relation, the first before the second
pub record PairAt {A : Type 0} (R : A → A → Type 0) (k : ℕ) (l : List A) (p q : ℕ) : Type 0 where
  pub a : A
  pub b : A
  pub first : RowFrom k l p a
  pub second : RowFrom k l q b
  pub order : p < q
  pub both : R a b

-- and no two rows that come before them do: by first, then by second
pub record FirstFrom {A : Type 0} (R : A → A → Type 0) (k : ℕ) (l : List A) (p q : ℕ) : Type 0 where
  pub are : PairAt R k l p q
  pub none_before : (m n : ℕ) → PairBefore m n p q → PairAt R k l m n → ⊥

-- no two rows do
abbrev pub NoneFrom : {A : Type 0} → (A → A → Type 0) → ℕ → List A → Type 0
NoneFrom R k l = (p q : ℕ) → PairAt R k l p q → ⊥

-- two rows are both split, and parallel
pub record ParallelSplit (a b : Sent) : Type 0 where
  pub one : Split a
  pub two : Split b
  pub parallel : parallel a.demand b.demand ≡ true

-- the first two rows, counted from 1, that are such
abbrev pub FirstPair : List Sent → ℕ → ℕ → Type 0
FirstPair ss p q = FirstFrom ParallelSplit 1 ss p q

-- no two rows are
abbrev pub NoPair : List Sent → Type 0
NoPair ss = NoneFrom ParallelSplit 1 ss
