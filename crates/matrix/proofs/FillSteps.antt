-- Counting the rows of a square, and filling columns with them: those of the pairs passed are counted, or stand in the columns, and those of the pairs left come behind.
use Rattle.std.proofs.Common.{w64, Fits}
use Prim.Native.Nat.{ℕ, suc, ◌+◌, ◌-◌, ◌≤◌, ◌<◌}
use mathlib.Core.List.{List, [], ◌∷◌, ◌++◌, map, append_assoc, append-nil}
use mathlib.Core.Path.{◌≡◌, ap, ◌∙◌, sym}
use native.Mathlib.Omega.{arith}
use lib.ListN.{length, length-append, length-map}
use borrow.Author.Tests.{eq-eqb, ne_eqb}
use Rattle.ring.specs.Limits.{desk}
use Rattle.ring.specs.Lists.{listed}
use Rattle.ring.specs.Demand.{demand}
use Rattle.ring.specs.declared.types.Demand.{Demand}
use Rattle.ring.specs.declared.types.Routed.{Routed}
use Rattle.ring.proofs.Listed.{listed_cons}
use Rattle.matrix.specs.Demands.{pairs_from, above_zero, rows_by}
use Rattle.rows.specs.Columns.{unsent}
use Rattle.matrix.proofs.RowLaws.{above-append, rows-counted}

module _ (n : ℕ) (a : ℕ → ℕ → ℕ) where
  -- the rows of node i from the pair with node j on
  abbrev pub across : ℕ → ℕ → List Demand
  across i j = above_zero (listed (λ x. demand i x (a i x)) j (n + 1 - j))

  -- those of the nodes from i on
  abbrev pub down : ℕ → List Demand
  down i = above_zero (pairs_from a n i (n + 1 - i))

  all-down : down 1 ≡ rows_by n a
  unfolding rows_by
  all-down = let e : n + 1 - 1 ≡ n = omega arith in rw e

  none-down : (i : ℕ) → n + 1 ≤ i → down i ≡ []
  unfolding pairs_from above_zero
  none-down i l = let e : n + 1 - i ≡ 0 = omega arith in rw e

  down-across : (i : ℕ) → i < n + 1 → down i ≡ across i (i + 1) ++ down (i + 1)
  unfolding pairs_from
  down-across i l =
      let e : n + 1 - i ≡ suc (n + 1 - (i + 1)) = omega arith in
      let f : n - i ≡ n + 1 - (i + 1) = omega arith in
      rw (e, f) (above-append (listed (λ x. demand i x (a i x)) (i + 1) (n + 1 - (i + 1))) (pairs_from a n (i + 1) (n + 1 - (i + 1))))

  none-across : (i j : ℕ) → n + 1 ≤ j → across i j ≡ []
  unfolding listed above_zero
  none-across i j l = let e : n + 1 - j ≡ 0 = omega arith in rw e

  module _ (i j : ℕ) (l : j < n + 1) (d : ℕ) (ed : d ≡ a i j) where
    across-zero : d ≡ 0 → across i j ≡ across i (j + 1)
    unfolding above_zero
    across-zero z = rw (listed_cons (λ x. demand i x (a i x)) j (n + 1) l, ← ed, eq-eqb d 0 z)

    across-some : (d ≡ 0 → ⊥) → across i j ≡ demand i j d ∷ across i (j + 1)
    unfolding above_zero
    across-some z = rw (listed_cons (λ x. demand i x (a i x)) j (n + 1) l, ← ed, ne_eqb d 0 z)

  -- ---- how many there are: those of the nodes before i are counted

  pub record Counting (count i : ℕ) : Type 0 where
    pub rest : count + length (down i) ≡ length (rows_by n a)

  -- and of node i those with the nodes before j
  pub record CountingOn (count i j : ℕ) : Type 0 where
    pub rest : count + (length (across i j) + length (down (i + 1))) ≡ length (rows_by n a)

  pub counting-starts : Counting 0 1
  counting-starts = record { rest = omega (arith, ap length all-down) }

  module _ (count i : ℕ) where
    pub node-counts : Counting count i → i < n + 1 → CountingOn count i (i + 1)
    node-counts counting l = record { rest = omega (arith, counting.rest, ap length (down-across i l), length-append (across i (i + 1)) (down (i + 1))) }

    module _ (j : ℕ) (counting : CountingOn count i j) where
      pub node-counted : n + 1 ≤ j → Counting count (i + 1)
      node-counted l = record { rest = omega (arith, counting.rest, ap length (none-across i j l)) }

      module _ (l : j < n + 1) (d : ℕ) (ed : d ≡ a i j) where
        pub not-counted : d ≡ 0 → CountingOn count i (j + 1)
        not-counted z = record { rest = omega (arith, counting.rest, ap length (across-zero i j l d ed z)) }

        module _ (z : d ≡ 0 → ⊥) where
          pub one-counted : CountingOn (count + 1) i (j + 1)
          one-counted = record { rest = omega (arith, counting.rest, ap length (across-some i j l d ed z)) }

          pub count-fits : n ≤ desk.nodes → Fits w64 (count + 1)
          count-fits few = omega (arith, counting.rest, ap length (across-some i j l d ed z), rows-counted a n few)

  pub all-counted : (count i : ℕ) → Counting count i → n + 1 ≤ i → count ≡ length (rows_by n a)
  all-counted count i counting l = omega (arith, counting.rest, ap length (none-down i l))

  -- ---- the rows: those of the nodes before i are filled in, and nothing of them is sent

  pub record Filling (rows : List Routed) (i : ℕ) : Type 0 where
    pub rest : map unsent (rows_by n a) ≡ rows ++ map unsent (down i)

  -- and of node i those with the nodes before j
  pub record Crossing (rows : List Routed) (i j : ℕ) : Type 0 where
    pub rest : map unsent (rows_by n a) ≡ rows ++ map unsent (across i j ++ down (i + 1))

  pub filling-starts : (rows : List Routed) → rows ≡ [] → Filling rows 1
  filling-starts rows none = record { rest = rw none (ap (map unsent) (sym all-down)) }

  module _ (rows : List Routed) (i : ℕ) where
    pub node-begins : Filling rows i → i < n + 1 → Crossing rows i (i + 1)
    node-begins filling l = record { rest = filling.rest ∙ ap (λ rs. rows ++ map unsent rs) (down-across i l) }

    module _ (j : ℕ) (crossing : Crossing rows i j) where
      pub node-over : n + 1 ≤ j → Filling rows (i + 1)
      node-over l = record { rest = crossing.rest ∙ rw (none-across i j l) }

      module _ (l : j < n + 1) (d : ℕ) (ed : d ≡ a i j) where
        -- an entry of 0
        pub no-demand : d ≡ 0 → Crossing rows i (j + 1)
        no-demand z = record { rest = crossing.rest ∙ rw (across-zero i j l d ed z) }

        -- an entry above 0
        module _ (z : d ≡ 0 → ⊥) where
          pub has-room : length (rows_by n a) ≤ desk.rows → length rows < desk.rows
          has-room few =
              omega (
                arith,
                ap length crossing.rest,
                length-map (rows_by n a) unsent,
                length-append rows (map unsent (across i j ++ down (i + 1))),
                length-map (across i j ++ down (i + 1)) unsent,
                length-append (across i j) (down (i + 1)),
                ap length (across-some i j l d ed z),
              )

          pub adds-row : (new : List Routed) → new ≡ rows ++ unsent (demand i j d) ∷ [] → Crossing new i (j + 1)
          adds-row new e =
              record {
                rest = crossing.rest ∙ rw (across-some i j l d ed z, e) (sym (append_assoc rows (unsent (demand i j d) ∷ []) _));
              }

  pub filled : (rows : List Routed) (i : ℕ) → Filling rows i → n + 1 ≤ i → rows ≡ map unsent (rows_by n a)
  filled rows i filling l = sym (filling.rest ∙ rw (none-down i l) (append-nil rows))
