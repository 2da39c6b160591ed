-- Over every sequence of calls from a start the kept numbers, the largest and its cut are those of the rows held, and each call does what the list of places says; by one step for each call, from
-- a table that is right to one that is right.
use Prim.Native.Nat.{ℕ, ◌+◌, ◌-◌, ◌≤◌, ◌<◌}
use mathlib.Core.List.{List}
use mathlib.Core.Path.{◌≡◌, refl, ◌∙◌, ap}
use native.Mathlib.Omega.{arith}
use lib.ListN.{get_or, set}
use lib.Seq.{set-set, get_or-set_same}
use Rattle.std.specs.Prelude.{Ok, Err}
use Rattle.ring.specs.Limits.{desk}
use Rattle.ring.specs.declared.types.Ring.{Ring}
use Rattle.ring.specs.declared.types.Demand.{Demand}
use Rattle.ring.specs.RuleA.{rule_a}
use Rattle.ring.specs.WithinLimits.{WithinLimits}
use Rattle.reasons.specs.Findings.{Given, NoneHolds}
use Rattle.reasons.specs.declared.reason.Reason.{Reason}
use Rattle.work.specs.HeldRing.{ring_held}
use Rattle.work.specs.Places.{empty, holds, PlaceTable, table_held}
use Rattle.work.specs.Calls.{Call, start, add, WorkAnswer, findings, with_place, Makes, starts, adds, changes, removes, Does, refused, accepted}
use Rattle.work.specs.Made.{Made, begun, called}
use Rattle.work.specs.True.{held, TrueTable}
use Rattle.work.specs.Bytes.{ring_size, put_in, cleared_in, fresh_in}
use Rattle.work.specs.Answered.{table_within}
use Rattle.work.specs.Changes.{recut_in, called_in, Sized}
use Rattle.work.specs.Keys.{sorted_rows}
use Rattle.work.specs.declared.Work.{Work}
use Rattle.work.specs.Sorted.{Sorted}
use Rattle.work.proofs.Right.{Good, Right, HasBytes, sized, right-bytes, size_is, count, put-places, put_right, clear-places, clear-right, fresh-places, fresh-right, cut-is, fresh-ring}
use Rattle.work.proofs.Fits.{Fits, begun-fits, made-fits}
use Rattle.work.proofs.SortedRows.{rows-sorted, rows-within, rows_cut}
use Rattle.work.proofs.Answers.{Goes, begins, puts, swaps, clears, Ends, refuses, makes, start-ends, call_ends}

-- a table that is right, with its largest cut
pub record Sound (w : Work) : Type 0 where
  pub right : Right w
  pub largest : w.cut ≡ rule_a w.ring.nodes (held w)

-- what a call is, in the struct and in the list: refused by both for one reason, or a table by both
pub data Step (w : Work) (c : Call) : Type 0 where
  both_refuse : (reason : Reason) → called_in w c ≡ Err reason → Given (findings (table_held w) c) reason 0 → Step w c
  both_make : (p : ℕ) (x : Work) → Right x → called_in w c ≡ Ok (recut_in x p) → NoneHolds (findings (table_held w) c) → Makes (table_held w) c p (table_held x) → Step w c

pub recut-sound : (p : ℕ) (x : Work) → Right x → Sound (recut_in x p).work
unfolding recut_in
recut-sound p x s =
    record {
      right = record { two = s.two; few = s.few; fibres = s.fibres; firsts = s.firsts; seconds = s.seconds; amounts = s.amounts; rows = s.rows; kept = s.kept };
      largest = cut-is x s;
    }

-- ---- a start, whatever the table was

start-made : (w : Work) (ring : Ring) → Makes (table_held w) (start ring) 0 (table_held (fresh_in ring))
unfolding fresh_in
start-made w ring = rw (fresh-ring ring, fresh-places ring) starts

pub start-step : (w : Work) (ring : Ring) → Step w (start ring)
unfolding findings
start-step w ring = go (start-ends w ring)
  where
    go : Ends w (start ring) → Step w (start ring)
    go (refuses reason e g) = both_refuse reason e g
    go (makes _ _ e n (begins l h o)) = both_make 0 (fresh_in ring) (fresh-right ring l h o) e n (start-made w ring)

-- ---- a row added, changed, removed

module _ (w : Work) (s : Right w) where
  abbrev t : PlaceTable
  t = table_held w

  -- its ring size is one within
  within-is : table_within w ≡ t
  within-is = rw (size_is w s) refl

  good-on : {r : Demand} → Good (ring_size w.ring.nodes) r → Good w.ring.nodes r
  good-on g = rw (size_is w s) at g

  module _ (k : ℕ) (l : k < desk.rows) (r : Demand) where
    put-plain : get_or w.first k 0 ≡ 0 → Good w.ring.nodes r → table_held (put_in w k r) ≡ with_place t k (holds r)
    unfolding put_in
    put-plain free g = ap (λ ps. record { ring = ring_held w.ring; places = ps }) (put-places w s k l r free g)

  -- the table between, of a change
  module _ (k : ℕ) (l : k < desk.rows) (taken : 1 ≤ get_or w.first k 0) where
    cleared-plain : table_held (cleared_in w k) ≡ with_place t k empty
    unfolding cleared_in
    cleared-plain = ap (λ ps. record { ring = ring_held w.ring; places = ps }) (clear-places w s k l taken)

    cleared-free : get_or (cleared_in w k).first k 0 ≡ 0
    unfolding cleared_in
    cleared-free = get_or-set_same w.first k 0 0 (omega (arith, s.firsts))

    off : Right (cleared_in w k)
    off = clear-right w s k l taken

    module _ (r : Demand) (g : Good w.ring.nodes r) where
      still : Good (cleared_in w k).ring.nodes r
      unfolding cleared_in
      still = g

      changed-right : Right (put_in (cleared_in w k) k r)
      changed-right = put_right (cleared_in w k) off k l r cleared-free still

      changed-plain : table_held (put_in (cleared_in w k) k r) ≡ with_place t k (holds r)
      unfolding put_in cleared_in
      changed-plain =
          ap (λ ps. record { ring = ring_held w.ring; places = ps })
          (put-places (cleared_in w k) off k l r cleared-free still ∙ ap (λ ps. set ps k (holds r)) (clear-places w s k l taken) ∙ set-set t.places k empty (holds r))

  right-of : {c : Call} {p : ℕ} {x : Work} → Goes w c p x → Right x
  right-of (begins {ring = ring} a b o) = fresh-right ring a b o
  right-of (puts {r = r} {k = k} l z g low) = put_right w s k l r z (good-on g)
  right-of (swaps {p = p} {r = r} l taken g) = changed-right (p - 1) l taken r (good-on g)
  right-of (clears {p = p} l taken) = off (p - 1) l taken

  makes-of : {c : Call} {p : ℕ} {x : Work} → Goes w c p x → Makes t c p (table_held x)
  makes-of (begins {ring = ring} a b o) = start-made w ring
  makes-of (puts {r = r} {k = k} l z g low) =
      let back : k + 1 - 1 ≡ k = omega arith in
      let made : Makes t (add r) (k + 1) (with_place t (k + 1 - 1) (holds r)) = adds low in
      rw (put-plain k l r z (good-on g)) (rw back at made)
  makes-of (swaps {p = p} {r = r} l taken g) = rw (changed-plain (p - 1) l taken r (good-on g)) changes
  makes-of (clears {p = p} l taken) = rw (cleared-plain (p - 1) l taken) removes

  pub call_step : (c : Call) → Step w c
  call_step c = go (call_ends w (sized s) c)
    where
      go : Ends w c → Step w c
      go (refuses reason e g) = both_refuse reason e (rw within-is at g)
      go (makes p x e n g) = both_make p x (right-of g) e (rw within-is at n) (makes-of g)

-- ---- a table made by calls

pub keeps-of : {w : Work} → Sound w → TrueTable w
keeps-of {w} s =
    record {
      places = count w (sized s.right);
      firsts = s.right.firsts;
      seconds = s.right.seconds;
      amounts = s.right.amounts;
      numbers = s.right.kept;
      largest = s.largest;
    }

-- 1,024 places, the across number of every cut, the largest and its cut are kept
pub made-keeps : {cs : List Call} {w : Work} → Made cs w → TrueTable w
made-keeps (begun p k) = k
made-keeps (called m p k) = k

begun-is-fit : {t u : PlaceTable} {ring : Ring} {a : WorkAnswer} {p : _} → Does t (start ring) a u → a ≡ Ok p → Fits u
begun-is-fit (refused reason g e eu) a = absurd (cc)
begun-is-fit (accepted n m e) a = begun-fits n m

called-is-fit : {t u : PlaceTable} {c : Call} {a : WorkAnswer} → Fits t → Does t c a u → Fits u
called-is-fit f (refused reason g e eu) = rw eu f
called-is-fit f (accepted n m e) = made-fits f n m

made-is-fit : {cs : List Call} {w : Work} → Made cs w → Fits (table_held w)
made-is-fit (begun p k) = begun-is-fit p.cases refl
made-is-fit (called m p k) = called-is-fit (made-is-fit m) p.cases

pub made-sound : {cs : List Call} {w : Work} → Made cs w → Sound w
made-sound m =
    let f = made-is-fit m in
    let k = made-keeps m in
    record {
      right = record { two = f.two; few = f.few; fibres = f.fibres; firsts = k.firsts; seconds = k.seconds; amounts = k.amounts; rows = f.rows; kept = k.numbers };
      largest = k.largest;
    }

-- what is written of a table: the rows held, sorted; within the limits of a table; with the cut of the rows held
pub record SortedWithin (w : Work) (rs : List Demand) : Type 0 where
  pub sorted : Sorted (table_held w).places rs
  pub within : WithinLimits desk (ring_held w.ring) rs
  pub cut : rule_a w.ring.nodes rs ≡ rule_a w.ring.nodes (held w)

-- what is written out: the rows held, by nodes, then by place, as many and such as a table may have, with the cut of the rows held
pub made-sorted-within : {cs : List Call} {w : Work} → Made cs w → SortedWithin w (sorted_rows w)
made-sorted-within {w} m =
    let s = (made-sound m).right in
    record { sorted = rows-sorted w (sized s) (right-bytes w s); within = rows-within w s; cut = rows_cut w s }

pub made-sized : {cs : List Call} {w : Work} → Made cs w → Sized w
made-sized m = sized (made-sound m).right

pub made-bytes : {cs : List Call} {w : Work} → Made cs w → HasBytes w
made-bytes {w = w} m = right-bytes w (made-sound m).right
