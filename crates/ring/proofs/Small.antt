-- No figure of a true sheet is large: across numbers and loads are sums over the rows, to which a row adds at most its amount, or twice that in
-- halves; the peak is a load.
use Prim.Native.Nat.{ℕ, ◌+◌, ◌*◌, ◌≤◌}
use mathlib.Core.List.{List}
use mathlib.Core.Path.{◌≡◌, ◌∙◌}
use native.Mathlib.Omega.{arith}
use lib.ListN.{length, length-map}
use Rattle.family.specs.Sizes.{sizes_of}
use Rattle.family.proofs.Sizes.{largest_of, smallest-small}
use Rattle.ring.specs.Lists.{Each}
use Rattle.ring.specs.LineSize.{needed, line_size}
use Rattle.ring.specs.Demand.{Demand}
use Rattle.ring.specs.Cut.{across}
use Rattle.ring.specs.Routing.{Sent, Routed, split_load, unsplit_load}
use Rattle.ring.specs.Sheet.{Link, Sheet, sents, demands, unsplit_peak}
use Rattle.ring.specs.True.{SumsTo2d, TrueSheet}
use Rattle.ring.proofs.Lists.{each, each_both, each-of-map, each-map}
use Rattle.ring.proofs.Peaks.{peak-least}
use Rattle.ring.proofs.Totals.{total-most, across-total, split-total, unsplit-total, part_small, sent-small, whole-small}

-- a sheet has as many demands as rows
pub demands-length : (rs : List Routed) → length (demands (sents rs)) ≡ length rs
demands-length rs = length-map (sents rs) (λ (s : Sent). s.demand) ∙ length-map rs (λ (r : Routed). r.sent)

-- what holds of each demand holds of each row, and back
pub each-of-demands : {P : Demand → Type 0} (rs : List Routed) → Each P (demands (sents rs)) → Each (λ (r : Routed). P r.sent.demand) rs
each-of-demands {P} rs e = each-of-map (λ (r : Routed). r.sent) {P = λ s. P s.demand} rs (each-of-map (λ (s : Sent). s.demand) {P = P} (sents rs) e)

pub each-demands : {P : Demand → Type 0} (rs : List Routed) → Each (λ (r : Routed). P r.sent.demand) rs → Each P (demands (sents rs))
each-demands {P} rs e = each-map (λ (s : Sent). s.demand) {P = P} (sents rs) (each-map (λ (r : Routed). r.sent) {P = λ s. P s.demand} rs e)

-- a row of at most `most`
pub record SmallRow (most : ℕ) (r : Routed) : Type 0 where
  pub amount : r.sent.demand.amount ≤ most
  pub halves : r.sent.front + r.sent.back ≤ 2 * most

module _ (most : ℕ) (rows : List Routed) (amounts : Each (λ (r : Demand). r.amount ≤ most) (demands (sents rows))) where
  abbrev count : ℕ
  count = length rows

  sent-amounts : Each (λ (s : Sent). s.demand.amount ≤ most) (sents rows)
  sent-amounts = each-of-map (λ (s : Sent). s.demand) {P = λ r. r.amount ≤ most} (sents rows) amounts

  pub across-small : (g h : ℕ) → across (demands (sents rows)) g h ≤ most * count
  across-small g h =
      let e = demands-length rows in
      rw e at (total-most {sum = λ rs. across rs g h} (across-total g h) most (each (λ r l. omega (arith, part_small r g h)) amounts))

  pub unsplit-small : (k : ℕ) → unsplit_load rows k ≤ most * count
  unsplit-small k =
      total-most {sum = λ rs. unsplit_load rs k} (unsplit-total k) most
      (each (λ r l. omega (arith, whole-small r k)) (each-of-map (λ (r : Routed). r.sent) {P = λ s. s.demand.amount ≤ most} rows sent-amounts))

  module _ (sums : Each SumsTo2d (sents rows)) where
    pub split-small : (k : ℕ) → split_load (sents rows) k ≤ 2 * most * count
    split-small k =
        let e = length-map rows (λ (r : Routed). r.sent) in
        rw e at (total-most {sum = λ ss. split_load ss k} (split-total k) (2 * most) (each_both (λ s l m. omega (arith, sent-small s k)) sent-amounts sums))

    pub rows-small : Each (SmallRow most) rows
    rows-small =
        each (λ r h. record { amount = h.0; halves = h.1 })
        (each-of-map (λ (r : Routed). r.sent) {P = λ s. (s.demand.amount ≤ most) × (s.front + s.back ≤ 2 * most)} rows
        (each_both (λ s l m. (l, omega arith)) sent-amounts sums))

-- an L line of a sheet with so many rows
pub record SmallLink (most count : ℕ) (l : Link) : Type 0 where
  pub split : l.split ≤ 2 * most * count
  pub unsplit : l.unsplit ≤ most * count

-- what its rows' number and largest amount say of all its figures
pub record SmallFigures (most : ℕ) (x : Sheet) : Type 0 where
  pub rows : Each (SmallRow most) x.rows
  pub across : x.cut.across ≤ most * length x.rows
  pub links : Each (SmallLink most (length x.rows)) x.links
  pub unsplit_peak : x.unsplit_peak ≤ most * length x.rows
  pub size : x.size ≤ largest_of (sizes_of x.ring.family)

-- no size is above the largest of the list
pub line-size-small : (sizes : List ℕ) (fibres p : ℕ) → line_size sizes fibres p ≤ largest_of sizes
unfolding line_size
line-size-small sizes fibres p = smallest-small sizes (needed fibres p)

pub figures-small : (most : ℕ) (x : Sheet) → TrueSheet x → Each (λ (r : Demand). r.amount ≤ most) (demands (sents x.rows)) → SmallFigures most x
figures-small most x t amounts =
    record {
      rows = rows-small most x.rows amounts t.sums;
      across = omega (arith, t.across, across-small most x.rows amounts x.cut.g x.cut.h);
      links = each (λ l loads. record {
        split = omega (arith, loads.split, split-small most x.rows amounts t.sums l.link);
        unsplit = omega (arith, loads.unsplit, unsplit-small most x.rows amounts l.link);
      }) t.loads;
      unsplit_peak = omega (arith, t.peak, peak-least (unsplit_load x.rows) x.ring.nodes (most * length x.rows) (λ k a b. unsplit-small most x.rows amounts k));
      size = omega (arith, t.size, line-size-small (sizes_of x.ring.family) x.ring.fibres (unsplit_peak x));
    }
