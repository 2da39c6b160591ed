-- The way of the next row by what is left of a choice, and the rows that are sent so.
use Rattle.std.proofs.Common.{◌≡◌, ℕ, ◌+◌, ◌-◌, ◌*◌, ◌%◌, ◌^◌, ◌≤◌, ◌<◌, true, false, List, [], ◌∷◌, ◌++◌, Some, slice_get, length, take, drop, set, refl, sym, ap, ◌∙◌, append_assoc, append-nil, arith}
use Rattle.std.proofs.lemmas.List.{take_all, drop_all}
use lib.ListN.{length-append}
use borrow.Author.Tests.{lt-ltb, le-ltb}
use lib.Pow.{shl_exact}
use Rattle.ring.specs.declared.types.Demand.{Demand}
use Rattle.ring.specs.declared.types.Sent.{Sent}
use Rattle.ring.specs.declared.types.Routed.{Routed}
use Rattle.ring.specs.declared.types.Way.{Way}
use Rattle.ring.specs.declared.types.Way.TheVariants.{Front, Back}
use Rattle.ring.specs.Routing.{routed, is_split}
use Rattle.ring.specs.RuleD.{whole_way}
use Rattle.ring.specs.Sheet.{sents}
use Rattle.rows.proofs.Zip.{Passed, next-old, put-passed, put-taken}
use Rattle.best.specs.declared.send.Left.{Left}
use Rattle.best.specs.Best.{splits, most_split}
use Rattle.best.specs.Choices.{choose, split_rows}
use Rattle.best.specs.Sends.{NextWay}
use Rattle.best.proofs.ChoiceLoads.{as-many}

-- ---- one row

-- the bit of a row, as it is made
pub bit_is : (k : ℕ) → k ≤ most_split → 1 * 2 ^ k % 4294967296 ≡ 2 ^ k
bit_is k l = shl_exact 1 k 32 (omega arith) (omega (arith, l)) ∙ omega arith

module _ (s : Sent) (old : Left) where
  pub kept_way : (w : Way) → is_split s ≡ false → w ≡ whole_way s → NextWay s old old w
  unfolding choose splits
  kept_way w e f = record { is = λ ss l. rw (e, f) refl; left = λ ss l. rw e at l; few = omega arith }

  module _ (e : is_split s ≡ true) (some : 1 ≤ old.split) where
    behind : (ss : List Sent) → splits (s ∷ ss) ≡ old.split → splits ss ≡ old.split - 1
    unfolding splits
    behind ss l = let m = rw e at l in omega (arith, m)

    pub front_way : old.choice < 2 ^ (old.split - 1) → NextWay s old (record { split = old.split - 1; choice = old.choice }) Front
    unfolding choose
    front_way m = record { is = λ ss l. rw (e, behind ss l, lt-ltb old.choice (2 ^ (old.split - 1)) m) refl; left = behind; few = omega arith }

    pub back_way : 2 ^ (old.split - 1) ≤ old.choice → NextWay s old (record { split = old.split - 1; choice = old.choice - 2 ^ (old.split - 1) }) Back
    unfolding choose
    back_way m = record { is = λ ss l. rw (e, behind ss l, le-ltb old.choice (2 ^ (old.split - 1)) m) refl; left = behind; few = omega arith }

-- ---- all rows

pub record Sending (old now : List Routed) (choice : ℕ) (left : Left) (t : ℕ) : Type 0 where
  pub passed : Passed old now t
  pub split : splits (sents (drop t old)) ≡ left.split
  pub few : left.split ≤ most_split
  pub ways : take t now ++ choose left.choice (sents (drop t old)) ≡ choose choice (sents old)

module _ (old now : List Routed) (choice : ℕ) (left : Left) (t : ℕ) (r : Routed) (at : slice_get now t ≡ Some r) (o : Sending old now choice left t) where
  next : splits (r.sent ∷ sents (drop (t + 1) old)) ≡ left.split
  next = let e = next-old old now t r at o.passed in rw e at o.split

  pub some_left : is_split r.sent ≡ true → 1 ≤ left.split
  unfolding splits
  some_left e = let m = rw e at next in omega (arith, m)

  pub sent_on : (behind : Left) (way : Way) → NextWay r.sent left behind way → Sending old (set now t (routed r.sent way)) choice behind (t + 1)
  sent_on behind way n =
      record {
        passed = put-passed old now t r at o.passed (routed r.sent way);
        split = n.left (sents (drop (t + 1) old)) next;
        few = omega (arith, n.few, o.few);
        ways =
            rw (put-taken old now t r at o.passed (routed r.sent way), append_assoc)
            (ap (λ l. take t now ++ l) (sym (n.is (sents (drop (t + 1) old)) next) ∙ sym (ap (λ l. choose left.choice (sents l)) (next-old old now t r at o.passed))) ∙ o.ways);
      }

pub sends_done : (old now : List Routed) (choice : ℕ) (left : Left) (t : ℕ) → length old ≤ t → Sending old now choice left t → now ≡ choose choice (sents old)
unfolding choose
sends_done old now choice left t l o =
    let a = take_all t now (omega (arith, o.passed.size)) in
    let b = drop_all t old l in
    sym (append-nil now) ∙ (rw (a, b) at o.ways)

-- ---- the split rows

pub split_on : (items new : List Demand) (left rest : List Routed) (r : Routed) (all : List Demand) → left ≡ r ∷ rest → items ++ split_rows (sents left) ≡ all → is_split r.sent ≡ true → new ≡ items ++ r.sent.demand ∷ []
    → new ++ split_rows (sents rest) ≡ all
unfolding split_rows
split_on items new left rest r all is found e n = let f = rw is at found in let h = rw e at f in rw (n, append_assoc) h

pub split_past : (items : List Demand) (left rest : List Routed) (r : Routed) (all : List Demand) → left ≡ r ∷ rest → items ++ split_rows (sents left) ≡ all → is_split r.sent ≡ false → items ++ split_rows (sents rest) ≡ all
unfolding split_rows
split_past items left rest r all is found e = let f = rw is at found in rw e at f

pub split_full : (items : List Demand) (left rest : List Routed) (r : Routed) (ss : List Sent) → left ≡ r ∷ rest → items ++ split_rows (sents left) ≡ split_rows ss → is_split r.sent ≡ true → most_split ≤ length items → most_split < splits ss
unfolding split_rows
split_full items left rest r ss is found e m =
    let f = rw is at found in
    let h = rw e at f in
    omega (arith, m, length-append items (r.sent.demand ∷ split_rows (sents rest)), ap (λ (l : List Demand). length l) h, as-many ss)

pub split_end : (items : List Demand) (left : List Routed) (all : List Demand) → left ≡ [] → items ++ split_rows (sents left) ≡ all → items ≡ all
unfolding split_rows
split_end items left all is found = let f = rw is at found in sym (append-nil items) ∙ f
