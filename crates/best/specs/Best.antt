-- To believe: what it is to be the best choice among the split rows.
use Rattle.std.specs.Prelude.{ℕ, suc, ◌+◌, ◌≤◌, cond, List, [], ◌∷◌, ◌⊎◌, ◌≡◌}
use Rattle.ring.specs.Lists.{Each}
use Rattle.ring.specs.declared.types.Sent.{Sent}
use Rattle.ring.specs.declared.types.Routed.{Routed}
use Rattle.ring.specs.declared.types.Way.TheVariants.{Front, Back}
use Rattle.ring.specs.Routing.{routed, by_way, is_split, unsplit_load, peak}
use Rattle.ring.specs.Sheet.{sents}
use Rattle.ring.specs.True.{GoesByRuleD}

-- at most so many split rows are chosen for
abbrev pub most_split : ℕ
most_split = 16

-- how many rows are split
unfoldable pub splits : List Sent → ℕ
unfolding is_split
splits [] = 0
splits (s ∷ ss) = cond (is_split s) (suc (splits ss)) (splits ss)

-- rows turned back: the split rows that go back
unfoldable pub turned_back : List Routed → ℕ
unfolding is_split
turned_back [] = 0
turned_back (r ∷ rs) = cond (is_split r.sent) (by_way r.way 0 1) 0 + turned_back rs

-- a way for each row, of which those that are not split go as rule D says
pub record Choice (ss : List Sent) (ways : List Routed) : Type 0 where
  pub same : sents ways ≡ ss
  pub kept : Each GoesByRuleD ways

-- at the first difference the one goes front, the other back. Rows come in their order; the split rows of a table then rise by first node (`SplitRowsRise` in laws/Rules)
pub data GoesF : List Routed → List Routed → Type 0 where
  here : {s : Sent} {l m : List Routed} → GoesF (routed s Front ∷ l) (routed s Back ∷ m)
  there : {r : Routed} {l m : List Routed} → GoesF l m → GoesF (r ∷ l) (r ∷ m)

-- no choice has a lower peak; of those with the same none has fewer rows turned back; and any other with as few goes back at the first difference
pub record IsBest (n : ℕ) (ss : List Sent) (ways : List Routed) : Type 0 where
  pub choice : Choice ss ways
  pub least : (other : List Routed) → Choice ss other → peak (unsplit_load ways) n ≤ peak (unsplit_load other) n
  pub fewest : (other : List Routed) → Choice ss other → peak (unsplit_load other) n ≡ peak (unsplit_load ways) n → turned_back ways ≤ turned_back other
  pub first : (other : List Routed) → Choice ss other → peak (unsplit_load other) n ≡ peak (unsplit_load ways) n → turned_back other ≡ turned_back ways
      → (other ≡ ways) ⊎ GoesF ways other
