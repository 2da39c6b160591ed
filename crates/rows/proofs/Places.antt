-- Rows in columns, place by place: what a read gives, and what a write makes of them.
use Rattle.std.proofs.Common.{List, Some, drop, slice_get, ◌≡◌, ℕ, zero, suc, ◌+◌, ◌<◌, ◌≤◌, [], ◌∷◌, ◌++◌, length, get_or, set, sym, ap, ◌∙◌, arith}
use Rattle.std.proofs.lemmas.List.{same_lists, get_or-set_same, get_or-set_other, length-set}
use native.Mathlib.Decide.{ℕ_discrete}
use native.Mathlib.Numerals.{add-one}
use Rattle.ring.specs.declared.types.Routed.{Routed}
use Rattle.ring.specs.Lists.{listed}
use Rattle.ring.proofs.Listed.{listed-length, listed-snoc, listed_same}
use Rattle.rows.specs.declared.columns.Columns.TheInside.{Inside}
use Rattle.rows.specs.declared.columns.Arrays.{Arrays}
use Rattle.rows.specs.Columns.{row_of, rows_of_columns, Sized, row_written}
use Rattle.ring.specs.Limits.{desk}
use Rattle.ring.specs.declared.types.Way.TheVariants.{Front}

pub length_rows : (c : Inside) → length (rows_of_columns c) ≡ c.count
length_rows c = listed-length (row_of c) 0 c.count

at-listed : (f : ℕ → Routed) (k m x : ℕ) (d : Routed) → x < m → get_or (listed f k m) x d ≡ f (k + x)
unfolding listed
at-listed f k zero x d l = absurd (omega arith)
at-listed f k (suc m) zero d l = let e : k + 0 ≡ k = omega arith in rw e
at-listed f k (suc m) (suc x) d l = let e : k + suc x ≡ suc k + x = omega arith in rw e (at-listed f (suc k) m x d (omega arith))

pub row-read : (c : Inside) (k : ℕ) (d : Routed) → k < c.count → get_or (rows_of_columns c) k d ≡ row_of c k
row-read c k d l = at-listed (row_of c) 0 c.count k d l ∙ (let e : 0 + k ≡ k = omega arith in rw e)

-- ---- another row at a place

abbrev pub with_row : Inside → ℕ → Routed → Inside
with_row c k r = record { count = c.count; arrays = row_written c.arrays k r }

module _ (c : Inside) (k : ℕ) (r : Routed) (s : Sized c) (l : k < desk.rows) where
  here : row_of (with_row c k r) k ≡ r
  here =
      let a = get_or-set_same c.arrays.first k r.sent.demand.first 0 (omega (arith, s.firsts)) in
      let b = get_or-set_same c.arrays.second k r.sent.demand.second 0 (omega (arith, s.seconds)) in
      let d = get_or-set_same c.arrays.amount k r.sent.demand.amount 0 (omega (arith, s.amounts)) in
      let e = get_or-set_same c.arrays.front k r.sent.front 0 (omega (arith, s.fronts)) in
      let f = get_or-set_same c.arrays.back k r.sent.back 0 (omega (arith, s.backs)) in
      let g = get_or-set_same c.arrays.way k r.way Front (omega (arith, s.ways)) in
      λ i. record { sent = record { demand = record { first = a i; second = b i; amount = d i }; front = e i; back = f i }; way = g i }

  other : (x : ℕ) → (x ≡ k → ⊥) → row_of (with_row c k r) x ≡ row_of c x
  other x n =
      let a = get_or-set_other c.arrays.first k x r.sent.demand.first 0 n in
      let b = get_or-set_other c.arrays.second k x r.sent.demand.second 0 n in
      let d = get_or-set_other c.arrays.amount k x r.sent.demand.amount 0 n in
      let e = get_or-set_other c.arrays.front k x r.sent.front 0 n in
      let f = get_or-set_other c.arrays.back k x r.sent.back 0 n in
      let g = get_or-set_other c.arrays.way k x r.way Front n in
      λ i. record { sent = record { demand = record { first = a i; second = b i; amount = d i }; front = e i; back = f i }; way = g i }

  -- as large as they were, however many rows are counted
  pub row-sized : (n : ℕ) (new : Arrays) → n ≤ desk.rows → new ≡ row_written c.arrays k r → Sized (record { count = n; arrays = new })
  row-sized n new few is =
      rw is
      record {
        few = few;
        firsts = length-set _ _ _ ∙ s.firsts;
        seconds = length-set _ _ _ ∙ s.seconds;
        amounts = length-set _ _ _ ∙ s.amounts;
        fronts = length-set _ _ _ ∙ s.fronts;
        backs = length-set _ _ _ ∙ s.backs;
        ways = length-set _ _ _ ∙ s.ways;
      }

  pub row-put : k < c.count → rows_of_columns (with_row c k r) ≡ set (rows_of_columns c) k r
  row-put m = same_lists (rows_of_columns (with_row c k r)) (set (rows_of_columns c) k r) (length_rows (with_row c k r) ∙ sym (length-set (rows_of_columns c) k r ∙ length_rows c)) place
    where
      place : (x : ℕ) (d : Routed) → x < length (rows_of_columns (with_row c k r)) → get_or (rows_of_columns (with_row c k r)) x d ≡ get_or (set (rows_of_columns c) k r) x d
      place x d h =
          let n = length_rows (with_row c k r) in
          let o = length_rows c in
          let z : x < c.count = omega arith in
          row-read (with_row c k r) x d z ∙
          elim (ℕ_discrete x k) [
            | yes e ↦ rw e (here ∙ sym (get_or-set_same (rows_of_columns c) k r d (omega arith)))
            | no e ↦ other x e ∙ sym (get_or-set_other (rows_of_columns c) k x r d e ∙ row-read c x d z)
          ]

  -- one row more
  pub row-more : k ≡ c.count → rows_of_columns (record { count = k + 1; arrays = row_written c.arrays k r }) ≡ rows_of_columns c ++ r ∷ []
  row-more e =
      let z : 0 + k ≡ k = omega arith in
      listed-snoc (row_of (with_row c k r)) 0 k ∙
      (rw (z, here, e) (ap (λ l. l ++ r ∷ []) (listed_same (row_of (with_row c c.count r)) (row_of c) 0 c.count (λ x a b. rw e at (other x (omega arith))))))

-- ---- row after row

pub drop-one : {A : Type 0} (l : List A) (k : ℕ) (x : A) → slice_get l k ≡ Some x → drop k l ≡ x ∷ drop (suc k) l
drop-one [] k x e = absurd (cc)
drop-one (y ∷ l) zero x e = let q : y ≡ x = cc in rw q
drop-one (y ∷ l) (suc k) x e = drop-one l k x e

-- the row at a place, and the rows behind it
pub row_then : {A : Type 0} (l : List A) (k : ℕ) (x : A) → slice_get l k ≡ Some x → drop k l ≡ x ∷ drop (k + 1) l
row_then l k x e = rw add-one (drop-one l k x e)

-- where the rows from a place on are a first and others, it stands there, and the others are those behind it; where they are none, the place is behind all
module _ {A : Type 0} where
  pub first-left : (l : List A) (k : ℕ) (x : A) (rest : List A) → drop k l ≡ x ∷ rest → slice_get l k ≡ Some x
  first-left [] zero x rest e = absurd (cc)
  first-left [] (suc k) x rest e = absurd (cc)
  first-left (y ∷ l) zero x rest e = let same : y ≡ x = cc in rw same
  first-left (y ∷ l) (suc k) x rest e = first-left l k x rest e

  pub behind-first : (l : List A) (k : ℕ) (x : A) (rest : List A) → drop k l ≡ x ∷ rest → rest ≡ drop (suc k) l
  behind-first [] zero x rest e = absurd (cc)
  behind-first [] (suc k) x rest e = absurd (cc)
  behind-first (y ∷ l) zero x rest e = cc
  behind-first (y ∷ l) (suc k) x rest e = behind-first l k x rest e
