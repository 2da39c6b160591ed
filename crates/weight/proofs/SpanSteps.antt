-- A loop that changes a run of figures has changed those that it passed and no other; and three runs, over the links before a demand's front, of it
-- and behind it, change every link.
use borrow.Rule.Slice.PartMut.{mid_of, put_mid, same_len_mid}
use Rattle.std.proofs.lemmas.List.{get_or-take, get_or-drop, get_or-append_right, length-take, length-drop}
use lib.ListN.{get_or-append}
use Rattle.std.proofs.Common.{◌-◌, ap, drop, take, ◌≡◌, ◌∙◌, ℕ, ◌+◌, List, ◌<◌, ◌≤◌, length, get_or, ◌++◌, arith}
use native.Mathlib.Decide.{dec_lt}
use Rattle.ring.specs.Demand.{OnRing}
use Rattle.ring.specs.declared.types.Demand.{Demand}
use Rattle.ring.proofs.Side.{front_ends, Outside, outside, ahead, behind}
use Rattle.weight.specs.LinkSteps.{EachStep, OverStep}

-- ---- one run

-- those passed are changed, and those left are as they were
pub record Spanning {T : Type 0} (step : T → T → Type 0) (old now : List T) (k : ℕ) : Type 0 where
  pub size : length now ≡ length old
  pub passed : (x : ℕ) (d : T) → x < k → step (get_or old x d) (get_or now x d)
  pub left : (x : ℕ) (d : T) → k ≤ x → get_or now x d ≡ get_or old x d

-- ---- a run is a part of a list: its figures from place a on, k of them

-- those of the part are changed, and no others
pub record Span {T : Type 0} (step : T → T → Type 0) (from to : ℕ) (old new : List T) : Type 0 where
  pub size : length new ≡ length old
  pub within : (x : ℕ) (d : T) → from ≤ x → x < to → step (get_or old x d) (get_or new x d)
  pub outside : (x : ℕ) (d : T) → ((from ≤ x) × (x < to) → ⊥) → get_or new x d ≡ get_or old x d

module _ {T : Type 0} (a k : ℕ) (xs : List T) (fits : a + k ≤ length xs) where
  part-at : (x : ℕ) (d : T) → a ≤ x → x < a + k → get_or (mid_of a k xs) (x - a) d ≡ get_or xs x d
  part-at x d l m =
      let e : a + (x - a) ≡ x = omega arith in
      get_or-take k (drop a xs) (x - a) d (omega arith) ∙ get_or-drop a xs (x - a) d ∙ ap (λ y. get_or xs y d) e

  module _ (ys : List T) {step : T → T → Type 0} (s : EachStep step (mid_of a k xs) ys) where
    long : length ys ≡ k
    long = omega (arith, s.size, length-take k (drop a xs), length-drop a xs)

    pub part-step : Span step a (a + k) xs (put_mid a k xs ys)
    part-step =
        record {
          size = same_len_mid a k xs ys s.size;
          within = within;
          outside = outside;
        }
      where
        tail : (x : ℕ) (d : T) → a ≤ x → get_or (put_mid a k xs ys) x d ≡ get_or (ys ++ drop k (drop a xs)) (x - a) d
        tail x d l = get_or-append_right (take a xs) (ys ++ drop k (drop a xs)) a x d (omega (arith, length-take a xs)) l

        within : (x : ℕ) (d : T) → a ≤ x → x < a + k → step (get_or xs x d) (get_or (put_mid a k xs ys) x d)
        within x d l m =
            rw (tail x d l ∙ get_or-append ys (drop k (drop a xs)) d (x - a) (omega (arith, long)), ← part-at x d l m)
            (s.each (x - a) d (omega (arith, length-take k (drop a xs), length-drop a xs)))

        outside : (x : ℕ) (d : T) → ((a ≤ x) × (x < a + k) → ⊥) → get_or (put_mid a k xs ys) x d ≡ get_or xs x d
        outside x d h =
            elim (dec_lt x a) [
              | yes l ↦ get_or-append (take a xs) (ys ++ drop k (drop a xs)) d x (omega (arith, length-take a xs)) ∙ get_or-take a xs x d l
              | no l ↦
                  elim (dec_lt x (a + k)) [
                    | yes m ↦ absurd (h (omega arith, m))
                    | no m ↦
                        let e : a + (k + ((x - a) - k)) ≡ x = omega arith in
                        tail x d (omega arith) ∙ get_or-append_right ys (drop k (drop a xs)) k (x - a) d long (omega arith) ∙ get_or-drop k (drop a xs) ((x - a) - k) d
                        ∙ get_or-drop a xs (k + ((x - a) - k)) d ∙ ap (λ y. get_or xs y d) e
                  ]
            ]

-- ---- a demand's three runs: before its front, over it and behind it

module _ {T : Type 0} (front back : T → T → Type 0) (r : Demand) (old : List T) (on : OnRing (length old) r) where
  module _ {one two new : List T} (first : Span back 0 (0 + (r.first - 1)) old one) (second : Span front (r.first - 1) ((r.first - 1) + ((r.second - 1) - (r.first - 1))) one two)
      (third : Span back (r.second - 1) ((r.second - 1) + (length old - (r.second - 1))) two new) where
    runs : OverStep front back r old new
    runs =
        record {
          size = third.size ∙ second.size ∙ first.size;
          ahead =
              λ x d l e.
              let f = front_ends r (x + 1) e in
              rw (third.outside x d (λ z. omega (arith, f.1, z.0)), ← first.outside x d (λ z. omega (arith, f.0, z.1)))
              (second.within x d (omega (arith, f.0)) (omega (arith, f.1)));
          behind = λ x d l e. go x d l (outside r (x + 1) e);
        }
      where
        go : (x : ℕ) (d : T) → x < length old → Outside r (x + 1) → back (get_or old x d) (get_or new x d)
        go x d l (ahead f) =
            rw (third.outside x d (λ z. omega (arith, z.0)), second.outside x d (λ z. omega (arith, z.0))) (first.within x d (omega arith) (omega arith))
        go x d l (behind f) =
            rw (← first.outside x d (λ z. omega (arith, z.1)), ← second.outside x d (λ z. omega (arith, z.1))) (third.within x d (omega arith) (omega arith))

  module _ (a b c : List T) where
    abbrev pub one : List T
    one = a ++ drop (r.first - 1) old

    abbrev pub two : List T
    two = put_mid (r.first - 1) ((r.second - 1) - (r.first - 1)) one b

    pub over_step : EachStep back (take (r.first - 1) old) a → EachStep front (mid_of (r.first - 1) ((r.second - 1) - (r.first - 1)) one) b → EachStep back (mid_of (r.second - 1) (length old - (r.second - 1)) two) c →
        OverStep front back r old (put_mid (r.second - 1) (length old - (r.second - 1)) two c)
    over_step p q s =
        let first : Span back 0 (0 + (r.first - 1)) old one = part-step 0 (r.first - 1) old (omega arith) a p in
        let second = part-step (r.first - 1) ((r.second - 1) - (r.first - 1)) one (omega (arith, first.size)) b q in
        runs first second (part-step (r.second - 1) (length old - (r.second - 1)) two (omega (arith, first.size, second.size)) c s)
