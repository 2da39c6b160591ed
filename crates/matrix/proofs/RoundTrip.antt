-- Matrix to table to matrix gives the same lines, and table to matrix to table the same rows where they are one for a pair and none of amount 0: the sums of the rows
-- are the entries, and rows that rise are told by their sums.
use Prim.Native.Nat.{ℕ, zero, suc, ◌+◌, ◌-◌, ◌≤◌, ◌<◌}
use mathlib.Core.List.{List, [], ◌∷◌}
use mathlib.Core.Logic.{◌⊎◌, inl, inr}
use mathlib.Core.Path.{◌≡◌, refl, ap, ◌∙◌, sym, subst}
use native.Mathlib.Omega.{arith}
use native.Mathlib.Decide.{dec_lt, ℕ_discrete}
use lib.ListN.{length, get_or}
use Rattle.ring.specs.LineSize.{IsFibres}
use Rattle.family.specs.declared.family.Family.{Family}
use Rattle.family.proofs.Sizes.{known-always}
use Rattle.ring.specs.Ring.{ring_of}
use Rattle.ring.specs.Limits.{Limits, desk}
use Rattle.ring.specs.Lists.{listed, Each, none, more, Steps, no_member, one_member, step, Pairs, no_pair, and_pairs}
use Rattle.ring.specs.Demand.{OnRing}
use Rattle.ring.specs.TableRows.{PairBefore, PairUpTo, InTableOrder, TableRows}
use Rattle.ring.specs.declared.types.Demand.{Demand}
use Rattle.ring.proofs.Listed.{listed_same, listed-shift}
use Rattle.table.specs.Table.{write_table, table_room, InRange as TableInRange}
use Rattle.table.proofs.Short.{desk-narrow, table-short}
use Rattle.matrix.specs.Matrix.{entry, IsSquare, Node}
use Rattle.matrix.specs.Range.{InRange}
use Rattle.matrix.specs.Laws.{RowsOfMatrixIs}
use Rattle.matrix.specs.Demands.{rows_of_matrix, sum_of, matrix_of_rows, OneEach}
use Rattle.matrix.proofs.LinesText.{each_at}
use Rattle.matrix.proofs.SumLaws.{part-other, sum-either, sum-diagonal, Rising, no_row, next_row, same-sums}
use Rattle.matrix.proofs.RowLaws.{rows-rising, rows-each, rows_on, rows-some, rows-sum}

-- ---- lists by place

listed_at : {A : Type 0} (f : ℕ → A) (d : A) (k m x : ℕ) → x < m → get_or (listed f k m) x d ≡ f (k + x)
unfolding listed
listed_at f d k zero x l = absurd (omega arith)
listed_at f d k (suc m) zero l = let e : k + 0 ≡ k = omega arith in rw e
listed_at f d k (suc m) (suc x) l = let e : k + suc x ≡ suc k + x = omega arith in rw e (listed_at f d (suc k) m x (omega arith))

pub listed-members : {A : Type 0} (d : A) (l : List A) → listed (λ k. get_or l k d) 0 (length l) ≡ l
unfolding listed
listed-members d [] = refl
listed-members d (x ∷ l) = ap (λ m. x ∷ m) (listed-shift (λ k. get_or (x ∷ l) k d) 0 (length l) ∙ listed-members d l)

pub from_one : {A : Type 0} (d : A) (l : List A) → listed (λ k. get_or l (k - 1) d) 1 (length l) ≡ l
from_one d l =
    listed-shift (λ k. get_or l (k - 1) d) 0 (length l) ∙
    listed_same (λ x. get_or l (suc x - 1) d) (λ x. get_or l x d) 0 (length l) (λ x p q. ap (λ k. get_or l k d) (let e : suc x - 1 ≡ x = omega arith in e)) ∙ listed-members d l

-- n lines are told by each
pub same-lines : (n : ℕ) (m o : List (List ℕ)) → length m ≡ n → length o ≡ n → ((i : ℕ) → Node n i → get_or m (i - 1) [] ≡ get_or o (i - 1) []) → m ≡ o
same-lines n m o tall high same =
    sym (subst (λ k. listed (λ i. get_or m (i - 1) []) 1 k ≡ m) tall (from_one [] m))
    ∙ listed_same (λ i. get_or m (i - 1) []) (λ i. get_or o (i - 1) []) 1 n (λ i p q. same i (p, omega arith))
    ∙ subst (λ k. listed (λ i. get_or o (i - 1) []) 1 k ≡ o) high (from_one [] o)

-- ---- the entries of a matrix made from rows are their sums

pub entry-sum : (n : ℕ) (rs : List Demand) (i j : ℕ) → Node n i → Node n j → entry (matrix_of_rows n rs) i j ≡ sum_of rs i j
entry-sum n rs i j p q =
    let e : 1 + (i - 1) ≡ i = omega (arith, p.0) in
    let f : 1 + (j - 1) ≡ j = omega (arith, q.0) in
    ap (λ l. get_or l (j - 1) 0) (listed_at (λ x. listed (sum_of rs x) 1 n) [] 1 n (i - 1) (omega (arith, p.0, p.1)))
    ∙ listed_at (sum_of rs (1 + (i - 1))) 0 1 n (j - 1) (omega (arith, q.0, q.1)) ∙ rw (e, f)

-- lines of the sums, where each entry is one
pub lines-of-sums : (n : ℕ) (m : List (List ℕ)) (rs : List Demand) → IsSquare n m → ((i j : ℕ) → Node n i → Node n j → sum_of rs i j ≡ entry m i j) → matrix_of_rows n rs ≡ m
lines-of-sums n m rs square same =
    listed_same (λ i. listed (sum_of rs i) 1 n) (λ i. get_or m (i - 1) []) 1 n one_line ∙ subst (λ k. listed (λ i. get_or m (i - 1) []) 1 k ≡ m) square.tall (from_one [] m)
  where
    one_line : (i : ℕ) → 1 ≤ i → i < 1 + n → listed (sum_of rs i) 1 n ≡ get_or m (i - 1) []
    one_line i l h =
        let k : length (get_or m (i - 1) []) ≡ n = each_at square.wide [] (i - 1) (omega (arith, square.tall)) in
        listed_same (sum_of rs i) (entry m i) 1 n (λ j p q. same i j (l, omega arith) (p, omega arith))
        ∙ subst (λ x. listed (λ j. get_or (get_or m (i - 1) []) (j - 1) 0) 1 x ≡ get_or m (i - 1) []) k (from_one 0 (get_or m (i - 1) []))

-- ---- from a matrix

module _ (limits : Limits) (n : ℕ) (m : List (List ℕ)) (range : InRange limits n m) where
  -- sums of pairs are the entries
  pub sums-are-entries : (i j : ℕ) → Node n i → Node n j → sum_of (rows_of_matrix n m) i j ≡ entry m i j
  sums-are-entries i j p q =
      elim (dec_lt i j) [
        | yes l ↦ rows-sum (entry m) n i j p.0 l q.1
        | no l ↦ elim (dec_lt j i) [
          | yes h ↦ sum-either (rows_of_matrix n m) i j ∙ rows-sum (entry m) n j i q.0 h p.1 ∙ range.symmetric j i q p
          | no h ↦ let e : i ≡ j = omega arith in diagonal e
        ]
      ]
    where
      diagonal : i ≡ j → sum_of (rows_of_matrix n m) i j ≡ entry m i j
      diagonal e = rw (← e) (sum-diagonal (rows_on (entry m) n) i ∙ sym (range.zeros i p))

  -- matrix to table to matrix
  pub matrix-back : matrix_of_rows n (rows_of_matrix n m) ≡ m
  matrix-back = lines-of-sums n m (rows_of_matrix n m) range.square sums-are-entries

  entry-small : (i j : ℕ) → Node n i → Node n j → entry m i j ≤ limits.amount
  entry-small i j p q =
      let k : length (get_or m (i - 1) []) ≡ n = each_at range.square.wide [] (i - 1) (omega (arith, range.square.tall, p.0, p.1)) in
      each_at (each_at range.amounts [] (i - 1) (omega (arith, range.square.tall, p.0, p.1))) 0 (j - 1) (omega (arith, q.0, q.1))

  pub rows-small : Each (λ r. r.amount ≤ limits.amount) (rows_of_matrix n m)
  rows-small = rows-each (entry m) n (λ x y p q r. entry-small x y (p, omega arith) (omega arith, r))

-- ---- rows that rise are a table's rows, one for a pair, and back

pub rising-steps : {a b : ℕ} {rs : List Demand} → Rising a b rs → Steps InTableOrder rs
rising-steps no_row = no_member
rising-steps (next_row p no_row) = one_member
rising-steps (next_row p (next_row q rest)) = step (up_to q) (rising-steps (next_row q rest))
  where
    up_to : {a b c d : ℕ} → PairBefore a b c d → PairUpTo a b c d
    up_to (inl l) = inl l
    up_to (inr l) = inr (l.0, omega (arith, l.1))

-- a row not behind the pair a, b is apart from all rows that rise behind it
rising-apart : (r : Demand) {a b : ℕ} {rs : List Demand} → PairUpTo r.first r.second a b → Rising a b rs → Each (λ s. (r.first ≡ s.first) × (r.second ≡ s.second) → ⊥) rs
rising-apart r u no_row = none
rising-apart r u (next_row {r = s} p rest) = more (λ e. not_same u p e) (rising-apart r (further u p) rest)
  where
    not_same : {a b : ℕ} → PairUpTo r.first r.second a b → PairBefore a b s.first s.second → (r.first ≡ s.first) × (r.second ≡ s.second) → ⊥
    not_same (inl l) (inl m) e = omega (arith, e.0)
    not_same (inl l) (inr m) e = omega (arith, m.0, e.0)
    not_same (inr l) (inl m) e = omega (arith, l.0, e.0)
    not_same (inr l) (inr m) e = omega (arith, l.1, m.1, e.1)

    further : {a b : ℕ} → PairUpTo r.first r.second a b → PairBefore a b s.first s.second → PairUpTo r.first r.second s.first s.second
    further (inl l) (inl m) = inl (omega arith)
    further (inl l) (inr m) = inl (omega (arith, m.0))
    further (inr l) (inl m) = inl (omega (arith, l.0))
    further (inr l) (inr m) = inr (l.0 ∙ m.0, omega (arith, l.1, m.1))

pub rising-pairs : {a b : ℕ} {rs : List Demand} → Rising a b rs → Pairs (λ r s. (r.first ≡ s.first) × (r.second ≡ s.second) → ⊥) rs
rising-pairs no_row = no_pair
rising-pairs (next_row {r = r} p rest) = and_pairs (rising-apart r (inr (refl, omega arith)) rest) (rising-pairs rest)

pub rising-rows : {n : ℕ} {rs : List Demand} → Each (OnRing n) rs → Steps InTableOrder rs → Pairs (λ r s. (r.first ≡ s.first) × (r.second ≡ s.second) → ⊥) rs → Rising 0 0 rs
rising-rows none ups apart = no_row
rising-rows (more o os) ups apart = next_row (inl o.low) (behind ups apart)
  where
    strictly : {a b c d : ℕ} → PairUpTo a b c d → ((a ≡ c) × (b ≡ d) → ⊥) → PairBefore a b c d
    strictly (inl l) n = inl l
    strictly {b = b} {d = d} (inr l) n = elim (ℕ_discrete b d) [ yes e ↦ absurd (n (l.0, e)) | no e ↦ inr (l.0, omega (arith, l.1)) ]

    behind : {r : Demand} {rs : List Demand} → Steps InTableOrder (r ∷ rs) → Pairs (λ r s. (r.first ≡ s.first) × (r.second ≡ s.second) → ⊥) (r ∷ rs) → Rising r.first r.second rs
    behind one_member apart = no_row
    behind (step up ups) (and_pairs (more x xs) rest) = next_row (strictly up x) (behind ups rest)

-- ---- from a table

sum-off : {n : ℕ} {rs : List Demand} → Each (OnRing n) rs → (i j : ℕ) → i < j → (i < 1) ⊎ (n < j) → sum_of rs i j ≡ 0
unfolding sum_of
sum-off none i j l h = refl
sum-off {n} (more {a = r} o os) i j l h = omega (arith, part-other r i j (λ e. off h e.0 e.1) (λ e. omega (arith, e.0, e.1, o.order)), sum-off os i j l h)
  where
    off : (i < 1) ⊎ (n < j) → r.first ≡ i → r.second ≡ j → ⊥
    off (inl x) e f = omega (arith, o.low)
    off (inr x) e f = omega (arith, o.high)

-- table to matrix to table
pub table-back : (n : ℕ) (rs : List Demand) → TableRows n rs → OneEach rs → rows_of_matrix n (matrix_of_rows n rs) ≡ rs
table-back n rs table each =
    same-sums (rows_of_matrix n (matrix_of_rows n rs)) rs (rows_on (entry (matrix_of_rows n rs)) n) table.nodes (rows-some (entry (matrix_of_rows n rs)) n) each.some
    (rows-rising (entry (matrix_of_rows n rs)) n) (rising-rows table.nodes table.order each.one) same
  where
    both-off : (i j : ℕ) → i < j → (i < 1) ⊎ (n < j) → sum_of (rows_of_matrix n (matrix_of_rows n rs)) i j ≡ sum_of rs i j
    both-off i j l h = sum-off (rows_on (entry (matrix_of_rows n rs)) n) i j l h ∙ sym (sum-off table.nodes i j l h)

    same : (i j : ℕ) → i < j → sum_of (rows_of_matrix n (matrix_of_rows n rs)) i j ≡ sum_of rs i j
    same i j l =
        elim (dec_lt i 1) [
          | yes h ↦ both-off i j l (inl h)
          | no h ↦ elim (dec_lt n j) [
            | yes k ↦ both-off i j l (inr k)
            | no k ↦ rows-sum (entry (matrix_of_rows n rs)) n i j (omega arith) l (omega arith) ∙ entry-sum n rs i j (omega arith, omega arith) (omega arith, omega arith)
          ]
        ]

-- ---- the table is in range

-- room for the table of every matrix
pub table-room : (n fibres : ℕ) (family : Family) (m : List (List ℕ)) → IsFibres fibres → InRange desk n m → length (write_table (ring_of n fibres family) (rows_of_matrix n m)) ≤ table_room desk
table-room n fibres family m two_or_four range =
    table-short desk desk-narrow (ring_of n fibres family) (rows_of_matrix n m) range.many two_or_four (rows_on (entry m) n) range.count (rows-small desk n m range)

-- so it is accepted: at most one row for a pair, none of amount 0
pub rows-in-range : (n fibres : ℕ) (family : Family) (m : List (List ℕ)) → IsFibres fibres → InRange desk n m → TableInRange desk (ring_of n fibres family) (rows_of_matrix n m)
rows-in-range n fibres family m two_or_four range =
    record {
      within =
          record {
            few = range.few;
            many = range.many;
            fibres = two_or_four;
            family = known-always family;
            rows = record { nodes = rows_on (entry m) n; order = rising-steps (rows-rising (entry m) n) };
            count = range.count;
            amounts = rows-small desk n m range;
          };
      short = omega (arith, table-room n fibres family m two_or_four range);
    }

pub rows-one-each : (n : ℕ) (m : List (List ℕ)) → OneEach (rows_of_matrix n m)
rows-one-each n m = record { one = rising-pairs (rows-rising (entry m) n); some = rows-some (entry m) n }

-- ---- the rows of a matrix are the only ones that say it

pub rows-of-matrix-is : (limits : Limits) → RowsOfMatrixIs limits
rows-of-matrix-is limits n m range =
    record {
      are =
          record {
            rows = record { nodes = rows_on (entry m) n; order = rising-steps (rows-rising (entry m) n) };
            each = rows-one-each n m;
            sums = matrix-back limits n m range;
          };
      only = λ rs of. sym (let e = of.sums in rw e at (table-back n rs of.rows of.each));
    }
