-- The first row at which a pair's sum passes is found exactly; where there is none, the matrix of the rows is one that is accepted: row by row, with the rows before in hand.
use Prim.Native.Nat.{ℕ, zero, suc, ◌+◌, ◌-◌, ◌≤◌, ◌<◌}
use mathlib.Core.List.{List, [], ◌∷◌, ◌++◌, append_assoc, append-nil}
use mathlib.Core.Path.{◌≡◌, ap, subst}
use native.Mathlib.Omega.{arith}
use native.Mathlib.Decide.{dec_lt, ℕ_discrete}
use lib.ListN.{length, get_or, take}
use borrow.Author.Tests.{lt-ltb, le-ltb}
use Rattle.ring.specs.Limits.{Limits}
use Rattle.ring.specs.Demand.{demand}
use Rattle.ring.specs.declared.types.Demand.{Demand}
use Rattle.matrix.specs.Demands.{sum_of, Passes, PassesAt}
use Rattle.std.specs.Prelude.{Ok}
use Rattle.matrix.specs.Read.{MatrixVerdict}
use Rattle.matrix.specs.Judged.{passes_at, sums_from, judge_sums}
use Rattle.matrix.proofs.SumLaws.{sum_more, part-other, sum-either}

-- ---- the first row that passes

-- at row k of rs, behind the rows `before`, the sum of its pair passes
record PassesIn (limits : Limits) (before rs : List Demand) (k : ℕ) : Type 0 where
  pub low : 1 ≤ k
  pub high : k ≤ length rs
  pub wrong : limits.amount < sum_of (before ++ take k rs) (get_or rs (k - 1) (demand 0 0 0)).first (get_or rs (k - 1) (demand 0 0 0)).second

data SumsRead (limits : Limits) (line : ℕ) (before rs : List Demand) : MatrixVerdict → Type 0 where
  passes : {found : ℕ} (k : ℕ) → found + 1 ≡ line + k → PassesIn limits before rs k → ((other : ℕ) → other < k → PassesIn limits before rs other → ⊥)
      → SumsRead limits line before rs (passes_at found)
  all_fit : ((k : ℕ) → PassesIn limits before rs k → ⊥) → SumsRead limits line before rs (Ok tt)

module _ (limits : Limits) (before : List Demand) (r : Demand) (rs : List Demand) where
  sum-next : (k : ℕ) (i j : ℕ) → sum_of ((before ++ r ∷ []) ++ take k rs) i j ≡ sum_of (before ++ take (suc k) (r ∷ rs)) i j
  sum-next k i j = ap (λ l. sum_of l i j) (append_assoc before (r ∷ []) (take k rs))

  passes-next : (k : ℕ) → PassesIn limits (before ++ r ∷ []) rs k → PassesIn limits before (r ∷ rs) (suc k)
  passes-next zero p = absurd (omega (arith, p.low))
  passes-next (suc k) p =
      let e : suc k - 1 ≡ k = omega arith in
      let f : suc (suc k) - 1 ≡ suc k = omega arith in
      let w = rw e at p.wrong in
      record { low = omega arith; high = omega (arith, p.high); wrong = rw f (omega (arith, sum-next (suc k) (get_or rs k (demand 0 0 0)).first (get_or rs k (demand 0 0 0)).second)) }

  passes-back : (k : ℕ) → PassesIn limits before (r ∷ rs) (suc (suc k)) → PassesIn limits (before ++ r ∷ []) rs (suc k)
  passes-back k p =
      let e : suc k - 1 ≡ k = omega arith in
      let f : suc (suc k) - 1 ≡ suc k = omega arith in
      let w = rw f at p.wrong in
      record { low = omega arith; high = omega (arith, p.high); wrong = rw e (omega (arith, sum-next (suc k) (get_or rs k (demand 0 0 0)).first (get_or rs k (demand 0 0 0)).second)) }

  not_first : (sum_of (before ++ r ∷ []) r.first r.second ≤ limits.amount) → (k : ℕ) → PassesIn limits before (r ∷ rs) k
      → ((k : ℕ) → PassesIn limits (before ++ r ∷ []) rs k → ⊥) → ⊥
  not_first fit zero p none = omega (arith, p.low)
  not_first fit (suc zero) p none = omega (arith, p.wrong)
  not_first fit (suc (suc k)) p none = none (suc k) (passes-back k p)

  -- none before row k of the rest, none before row k + 1 of all
  none_before : sum_of (before ++ r ∷ []) r.first r.second ≤ limits.amount → (k : ℕ) → ((other : ℕ) → other < k → PassesIn limits (before ++ r ∷ []) rs other → ⊥)
      → (other : ℕ) → other < suc k → PassesIn limits before (r ∷ rs) other → ⊥
  none_before fit k first zero l p = omega (arith, p.low)
  none_before fit k first (suc zero) l p = omega (arith, p.wrong)
  none_before fit k first (suc (suc other)) l p = first (suc other) (omega arith) (passes-back other p)

sums-read : (limits : Limits) (rs before : List Demand) (line : ℕ) → SumsRead limits line before rs (sums_from limits line before rs)
unfolding sums_from
sums-read limits [] before line = all_fit (λ k p. omega (arith, p.low, p.high))
sums-read limits (r ∷ rs) before line =
    elim (dec_lt limits.amount (sum_of (before ++ r ∷ []) r.first r.second)) [
      | yes l ↦ rw (lt-ltb _ _ l) (passes {found = line} 1 (omega arith) (record { low = omega arith; high = omega arith; wrong = l }) (λ other h p. omega (arith, p.low)))
      | no l ↦ let f : sum_of (before ++ r ∷ []) r.first r.second ≤ limits.amount = omega arith in rw (le-ltb _ _ f) (go f (sums-read limits rs (before ++ r ∷ []) (line + 1)))
    ]
  where
    go : {x : MatrixVerdict} → sum_of (before ++ r ∷ []) r.first r.second ≤ limits.amount → SumsRead limits (line + 1) (before ++ r ∷ []) rs x → SumsRead limits line before (r ∷ rs) x
    go f (passes {found} k e p first) = passes {found = found} (suc k) (omega arith) (passes-next limits before r rs k p) (none_before limits before r rs f k first)
    go f (all_fit none) = all_fit (λ k p. not_first limits before r rs f k p none)

-- whether each sum is an amount, or where one passes it
pub data SumsJudged (limits : Limits) (rs : List Demand) : MatrixVerdict → Type 0 where
  sums_pass : {line : ℕ} → PassesAt limits rs line → SumsJudged limits rs (passes_at line)
  sums_fit : ((k : ℕ) → Passes limits rs k → ⊥) → SumsJudged limits rs (Ok tt)

pub sums-judged : (limits : Limits) (rs : List Demand) → SumsJudged limits rs (judge_sums limits rs)
unfolding judge_sums
sums-judged limits rs = go (sums-read limits rs [] 2)
  where
    go : {x : MatrixVerdict} → SumsRead limits 2 [] rs x → SumsJudged limits rs x
    go (passes k e p first) =
        sums_pass (record {
          k = k;
          at = omega arith;
          holds = record { low = p.low; high = p.high; wrong = p.wrong };
          first = λ other l q. first other l (record { low = q.low; high = q.high; wrong = q.wrong });
        })
    go (all_fit none) = sums_fit (λ k p. none k (record { low = p.low; high = p.high; wrong = p.wrong }))

-- one row is the first that passes
pub one-passing : {limits : Limits} {rs : List Demand} {line other : ℕ} → PassesAt limits rs line → PassesAt limits rs other → line ≡ other
one-passing p q =
    let a : p.k < q.k → ⊥ = λ l. q.first p.k l p.holds in
    let b : q.k < p.k → ⊥ = λ l. p.first q.k l q.holds in
    omega (arith, p.at, q.at)

-- ---- then every sum is an amount

own-sum : (rs : List Demand) (r : Demand) (i j : ℕ) (most : ℕ) → sum_of (rs ++ r ∷ []) r.first r.second ≤ most → sum_of rs i j ≤ most → sum_of (rs ++ r ∷ []) i j ≤ most
own-sum rs r i j most own h =
    elim (ℕ_discrete r.first i) [
      | yes a ↦ elim (ℕ_discrete r.second j) [ yes b ↦ rw (← a, ← b) own | no b ↦ crossed (λ e. b e.1) ]
      | no a ↦ crossed (λ e. a e.0)
    ]
  where
    crossed : ((r.first ≡ i) × (r.second ≡ j) → ⊥) → sum_of (rs ++ r ∷ []) i j ≤ most
    crossed n =
        elim (ℕ_discrete r.first j) [
          | yes a ↦ elim (ℕ_discrete r.second i) [
            | yes b ↦ rw (sum-either (rs ++ r ∷ []) i j) (rw (← a, ← b) own)
            | no b ↦ omega (arith, sum_more rs r i j, part-other r i j n (λ e. b e.1))
          ]
          | no a ↦ omega (arith, sum_more rs r i j, part-other r i j n (λ e. a e.0))
        ]

sums-small : (limits : Limits) (rs before : List Demand) → ((i j : ℕ) → sum_of before i j ≤ limits.amount) → ((k : ℕ) → PassesIn limits before rs k → ⊥)
    → (i j : ℕ) → sum_of (before ++ rs) i j ≤ limits.amount
sums-small limits [] before small none i j = rw (append-nil before) (small i j)
sums-small limits (r ∷ rs) before small none i j =
    elim (dec_lt limits.amount (sum_of (before ++ r ∷ []) r.first r.second)) [
      | yes l ↦ absurd (none 1 (record { low = omega arith; high = omega arith; wrong = l }))
      | no l ↦
          subst (λ l. sum_of l i j ≤ limits.amount) (append_assoc before (r ∷ []) rs)
          (sums-small limits rs (before ++ r ∷ []) (λ x y. own-sum before r x y limits.amount (omega arith) (small x y)) (λ k p. none (suc k) (passes-next limits before r rs k p)) i j)
    ]

pub fit_small : (limits : Limits) (rs : List Demand) → ((k : ℕ) → Passes limits rs k → ⊥) → (i j : ℕ) → sum_of rs i j ≤ limits.amount
unfolding sum_of
fit_small limits rs fit i j = sums-small limits rs [] (λ x y. omega arith) (λ k p. fit k (record { low = p.low; high = p.high; wrong = p.wrong })) i j
