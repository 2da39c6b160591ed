-- A table whose rows and kept numbers are right stays so when a row is put at a free place or taken off, and the largest cut is then rule A's.
use Prim.Native.Nat.{ℕ, zero, suc, ◌+◌, ◌*◌, ◌≤◌, ◌<◌}
use mathlib.Core.List.{[]}
use mathlib.Core.Path.{◌≡◌, refl, sym, ◌∙◌, ap}
use native.Mathlib.Omega.{arith}
use lib.ListN.{length, get_or, set, replicate, length-set, length-replicate}
use Rattle.ring.specs.Limits.{desk}
use Rattle.ring.specs.LineSize.{IsFibres}
use Rattle.ring.specs.Lists.{Each, none}
use Rattle.ring.specs.Demand.{demand, OnRing}
use Rattle.family.specs.declared.family.Family.{Family}
use Rattle.family.proofs.Sizes.{family-again}
use Rattle.ring.specs.Ring.{ring_of}
use Rattle.ring.specs.declared.types.Ring.{Ring}
use Rattle.ring.specs.declared.types.Demand.{Demand}
use Rattle.ring.specs.Cut.{part, across}
use Rattle.ring.specs.RuleA.{rule_a}
use Rattle.ring.proofs.Lists.{each}
use Rattle.ring.proofs.Totals.{across-total, total-most, part_small}
use Rattle.ring.proofs.Laid.{zeros-at}
use Rattle.across.specs.Triangle.{place_of, at}
use Rattle.across.specs.Lines.{most_pairs, Pairwise}
use Rattle.across.specs.Step.{raised, lowered}
use Rattle.across.proofs.Kept.{row-at}
use Rattle.across.proofs.CutSteps.{same-cut}
use Rattle.work.specs.Places.{empty, holds, HoldsAt, place_in, table_held}
use Rattle.work.specs.True.{held}
use Rattle.work.specs.Bytes.{ring_size, demand_at, cut_of, put_in, cleared_in, fresh_in}
use Rattle.work.specs.Changes.{Sized}
use Rattle.work.specs.declared.Work.{Work}
use Rattle.work.proofs.RowsHeld.{across-set, held-few, each_set, each_at, held-fresh, places-set, places-length, places-at, places-fresh}

-- a row that a call can put into a table
pub record Good (n : ℕ) (r : Demand) : Type 0 where
  pub on : OnRing n r
  pub small : r.amount ≤ desk.amount

pub record Right (w : Work) : Type 0 where
  pub two : desk.fewest ≤ w.ring.nodes
  pub few : w.ring.nodes ≤ desk.nodes
  pub fibres : IsFibres w.ring.fibres
  pub firsts : length w.first ≡ desk.rows
  pub seconds : length w.second ≡ desk.rows
  pub amounts : length w.amount ≡ desk.rows
  pub rows : Each (Good w.ring.nodes) (held w)
  pub kept : Pairwise w.ring.nodes (λ g h. at w.triangle g h ≡ across (held w) g h)

-- a second node is a byte
abbrev pub HasBytes : Work → Type 0
HasBytes w = (k : ℕ) (r : Demand) → HoldsAt (table_held w).places k r → r.second < 256

pub sized : {w : Work} → Right w → Sized w
sized s = record { firsts = s.firsts; seconds = s.seconds; amounts = s.amounts }

module _ (w : Work) (s : Sized w) where
  same-firsts : length w.first ≡ length w.second
  same-firsts = omega (arith, s.firsts, s.seconds)

  same-seconds : length w.second ≡ length w.amount
  same-seconds = omega (arith, s.seconds, s.amounts)

  pub count : length (table_held w).places ≡ desk.rows
  count = places-length w.first w.second w.amount same-firsts same-seconds ∙ s.firsts

  pub place_is : (k : ℕ) → get_or (table_held w).places k empty ≡ place_in (get_or w.first k 0) (get_or w.second k 0) (get_or w.amount k 0)
  place_is k = places-at w.first w.second w.amount k same-firsts same-seconds

  second_of : (i j d : ℕ) (r : Demand) → place_in i j d ≡ holds r → r.second ≡ j
  second_of zero j d r e = absurd (cc)
  second_of (suc i) j d r e = let f : demand (suc i) j d ≡ r = cc in ap (λ (x : Demand). x.second) (sym f)

  pub bytes-of : ((k : ℕ) → get_or w.second k 0 < 256) → HasBytes w
  bytes-of f k r h = omega (arith, f k, second_of (get_or w.first k 0) (get_or w.second k 0) (get_or w.amount k 0) r (sym (place_is k) ∙ h))

module _ (w : Work) (s : Right w) where
  pub size_is : ring_size w.ring.nodes ≡ w.ring.nodes
  size_is = omega (arith, s.two, s.few)

  pub right-bytes : HasBytes w
  right-bytes k r h = omega (arith, (each_at {P = Good w.ring.nodes} (table_held w).places k r s.rows h).on.high, s.few)

  -- no kept number comes near the type's end
  pub number_small : (g h : ℕ) → across (held w) g h ≤ desk.amount * desk.rows
  number_small g h =
      omega
      (arith, total-most {sum = λ rs. across rs g h} (across-total g h) desk.amount (each (λ r q. omega (arith, part_small r g h, q.small)) s.rows), held-few (table_held w).places, count w (sized s))

-- ---- a row is put at a free place

pub place-holds : (i j d : ℕ) → 1 ≤ i → place_in i j d ≡ holds (demand i j d)
place-holds zero j d l = absurd (omega arith)
place-holds (suc i) j d l = refl

module _ (w : Work) (s : Right w) (k : ℕ) (in_table : k < desk.rows) where
  module _ (r : Demand) (free : get_or w.first k 0 ≡ 0) (good : Good w.ring.nodes r) where
    pub put-places : (table_held (put_in w k r)).places ≡ set (table_held w).places k (holds r)
    unfolding put_in
    put-places = places-set w.first w.second w.amount k r.first r.second r.amount ∙ ap (λ x. set (table_held w).places k x) (place-holds r.first r.second r.amount good.on.low)

    put-across : (g h : ℕ) → across (held (put_in w k r)) g h ≡ part r g h + across (held w) g h
    put-across g h =
        let was : get_or (table_held w).places k empty ≡ empty = place_is w (sized s) k ∙ (rw free) in
        let sum = rw was at (across-set (table_held w).places k (holds r) g h (omega (arith, count w (sized s)))) in
        rw put-places (omega arith)

    pub put_right : Right (put_in w k r)
    unfolding put_in
    put_right =
        record {
          two = s.two;
          few = s.few;
          fibres = s.fibres;
          firsts = length-set w.first k r.first ∙ s.firsts;
          seconds = length-set w.second k r.second ∙ s.seconds;
          amounts = length-set w.amount k r.amount ∙ s.amounts;
          rows = rw put-places (each_set (table_held w).places k (holds r) s.rows good);
          kept = λ g h a b c.
              rw (size_is w s)
              (omega
              (arith, row-at raised w.ring.nodes r w.triangle s.few g h a b c, s.kept g h a b c, put-across g h, number_small w s g h, part_small r g h, good.small));
        }

  -- ---- a row is taken off its place

  module _ (taken : 1 ≤ get_or w.first k 0) where
    abbrev gone : Demand
    gone = demand_at w k

    pub clear-places : (table_held (cleared_in w k)).places ≡ set (table_held w).places k empty
    unfolding cleared_in
    clear-places = places-set w.first w.second w.amount k 0 0 0

    clear-across : (g h : ℕ) → across (held (cleared_in w k)) g h + part gone g h ≡ across (held w) g h
    clear-across g h =
        let was : get_or (table_held w).places k empty ≡ holds gone = place_is w (sized s) k ∙ place-holds _ _ _ taken in
        let sum = rw was at (across-set (table_held w).places k empty g h (omega (arith, count w (sized s)))) in
        rw clear-places (omega arith)

    pub clear-right : Right (cleared_in w k)
    unfolding cleared_in
    clear-right =
        record {
          two = s.two;
          few = s.few;
          fibres = s.fibres;
          firsts = length-set w.first k 0 ∙ s.firsts;
          seconds = length-set w.second k 0 ∙ s.seconds;
          amounts = length-set w.amount k 0 ∙ s.amounts;
          rows = rw clear-places (each_set (table_held w).places k empty s.rows tt);
          kept = λ g h a b c.
              rw (size_is w s) (omega (arith, row-at lowered w.ring.nodes gone w.triangle s.few g h a b c, s.kept g h a b c, clear-across g h, number_small w s g h));
        }

-- ---- an empty table

-- of the ring that it was begun with
pub fresh-ring : (ring : Ring) → (table_held (fresh_in ring)).ring ≡ ring
unfolding fresh_in
fresh-ring ring = ap (λ (f : Family). ring_of ring.nodes ring.fibres f) (family-again ring.family)

pub fresh-places : (ring : Ring) → (table_held (fresh_in ring)).places ≡ replicate desk.rows empty
unfolding fresh_in
fresh-places ring = places-fresh desk.rows

pub fresh-right : (ring : Ring) → desk.fewest ≤ ring.nodes → ring.nodes ≤ desk.nodes → IsFibres ring.fibres → Right (fresh_in ring)
unfolding fresh_in across
fresh-right ring a b c =
    let no_row : held (fresh_in ring) ≡ [] = rw (fresh-places ring) (held-fresh desk.rows) in
    record {
      two = a;
      few = b;
      fibres = c;
      firsts = length-replicate {A = ℕ} desk.rows 0;
      seconds = length-replicate {A = ℕ} desk.rows 0;
      amounts = length-replicate {A = ℕ} desk.rows 0;
      rows = rw no_row none;
      kept = λ g h _ _ _. rw no_row (zeros-at most_pairs (place_of g h));
    }

-- ---- the largest cut

pub cut-is : (w : Work) → Right w → cut_of w ≡ rule_a w.ring.nodes (held w)
unfolding rule_a
cut-is w s = rw (size_is w s) (same-cut w.ring.nodes (at w.triangle) (across (held w)) s.kept s.two)
