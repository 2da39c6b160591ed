-- The least of the rules: each gives one answer, which keeps the demands; the rules are tried by falling number, and the least so far is kept; in the end it is that of all.
use Rattle.std.proofs.Common.{ℕ, zero, suc, ◌+◌, ◌≤◌, ◌<◌, List, [], ◌∷◌, get_or, ◌≡◌, refl, sym, ap, ◌∙◌, arith, Option, Some, None, le-leb}
use Rattle.std.proofs.lemmas.Grind.{div_ceil_times}
use native.Mathlib.Decide.{dec_lt}
use borrow.Author.Tests.{lt-leb}
use Rattle.ring.specs.Demand.{OnRing}
use Rattle.ring.specs.Lists.{Each}
use Rattle.ring.specs.declared.types.Demand.{Demand}
use Rattle.ring.specs.declared.types.Routed.{Routed}
use Rattle.ring.specs.RuleA.{largest_across}
use Rattle.ring.specs.Sheet.{sents, demands}
use Rattle.engines.specs.declared.Engine.TheVariants.{Level, Lowered}
use Rattle.engines.proofs.Engines.{divides-by}
use Rattle.router.proofs.PlansBy.{go-sents, one-way}
use Rattle.turns.specs.Turns.{peak_of}
use Rattle.turns.proofs.StartSteps.{promised}
use Rattle.turns.proofs.Starts.{ways-floor}
use Rattle.least.specs.Rule.{LeastRule, Turns, BestChoice, RuleD, rule_number}
use Rattle.least.specs.Least.{Least, WaysBy, goes_turned, goes_best, goes_rule_D, LeastWays, LeastIs, floor_of, NoPeakBelow}
use Rattle.least.specs.Trying.{Goes, GivesNone, GoesOrNone, less_of}
use Rattle.least.specs.declared.Tried.{Tried}

-- ---- numbers of rules

-- the rules at their numbers; there is none with number 0
abbrev by_number : List LeastRule
by_number = Turns ∷ Turns ∷ BestChoice Level ∷ BestChoice Lowered ∷ RuleD Level ∷ RuleD Lowered ∷ []

record InItsPlace (rule : LeastRule) : Type 0 where
  is : get_or by_number (rule_number rule) Turns ≡ rule
  low : 1 ≤ rule_number rule
  high : rule_number rule ≤ 5

in-its-place : (rule : LeastRule) → InItsPlace rule
unfolding rule_number
in-its-place Turns = record { is = refl; low = omega arith; high = omega arith }
in-its-place (BestChoice Level) = record { is = refl; low = omega arith; high = omega arith }
in-its-place (BestChoice Lowered) = record { is = refl; low = omega arith; high = omega arith }
in-its-place (RuleD Level) = record { is = refl; low = omega arith; high = omega arith }
in-its-place (RuleD Lowered) = record { is = refl; low = omega arith; high = omega arith }

pub same-rule : (a b : LeastRule) → rule_number a ≡ rule_number b → a ≡ b
same-rule a b e = sym (in-its-place a).is ∙ ap (λ k. get_or by_number k Turns) e ∙ (in-its-place b).is

module _ {n : ℕ} {rs : List Demand} where
  -- ---- the ways of a rule

  pub one-ways : {rule : LeastRule} {a b : List Routed} → WaysBy n rs rule a → WaysBy n rs rule b → a ≡ b
  one-ways goes_turned goes_turned = refl
  one-ways (goes_best g) (goes_best h) = one-way g h
  one-ways (goes_rule_D g) (goes_rule_D h) = one-way g h

  pub ways-demands : 2 ≤ n → Each (OnRing n) rs → {rule : LeastRule} {ways : List Routed} → WaysBy n rs rule ways → demands (sents ways) ≡ rs
  ways-demands two on goes_turned = (promised n rs two).demands
  ways-demands two on (goes_best {engine} g) = ap demands (go-sents g) ∙ (divides-by engine n rs two on).same
  ways-demands two on (goes_rule_D {engine} g) = ap demands (go-sents g) ∙ (divides-by engine n rs two on).same

  -- rules with the same number come to the same peak
  same-peak : {rule other : LeastRule} {ways its : List Routed} {peak : ℕ} → Goes n rs rule ways peak → rule_number other ≡ rule_number rule → WaysBy n rs other its → peak_of n its ≡ peak
  same-peak {rule} {other} g e w = let same = same-rule other rule e in ap (peak_of n) (one-ways (rw same at w) g.by) ∙ sym g.comes_to

-- ---- the rules by falling number

-- of the rules that were tried, those with the last so many numbers and the one before all of them, this is the least
pub record Seeking (n : ℕ) (rs : List Demand) (done : ℕ) (best : Tried) : Type 0 where
  pub ways : List Routed
  pub goes : Goes n rs best.rule ways best.peak
  pub least : (other : LeastRule) (its : List Routed) → 5 ≤ rule_number other + done → WaysBy n rs other its → best.peak ≤ peak_of n its
  pub first : (other : LeastRule) (its : List Routed) → 5 ≤ rule_number other + done → WaysBy n rs other its → rule_number other < rule_number best.rule → best.peak < peak_of n its

module _ {n : ℕ} {rs : List Demand} where
  pub seeking-starts : (ways : List Routed) (peak : ℕ) → Goes n rs (RuleD Lowered) ways peak → Seeking n rs 0 (record { rule = RuleD Lowered; peak = peak })
  unfolding rule_number
  seeking-starts ways peak g =
      record {
        ways = ways;
        goes = g;
        least = λ other its low w. omega (arith, same-peak g (omega (arith, (in-its-place other).high, low)) w);
        first = λ other its low w before. absurd (omega (arith, low, before));
      }

  -- the next rule
  module _ (done : ℕ) (best : Tried) (s : Seeking n rs done best) (rule : LeastRule) (e : rule_number rule + suc done ≡ 5) where
    taken : (ways : List Routed) (peak : ℕ) → Goes n rs rule ways peak → peak ≤ best.peak → Seeking n rs (suc done) (record { rule = rule; peak = peak })
    taken ways peak g l =
        record {
          ways = ways;
          goes = g;
          least = λ other its low w.
              elim (dec_lt (rule_number rule) (rule_number other)) [
                | yes above ↦ omega (arith, l, s.least other its (omega (arith, e, above)) w)
                | no same ↦ omega (arith, same-peak g (omega (arith, e, same, low)) w)
              ];
          first = λ other its low w before. absurd (omega (arith, e, low, before));
        }

    kept : (ways : List Routed) (peak : ℕ) → Goes n rs rule ways peak → best.peak < peak → Seeking n rs (suc done) best
    kept ways peak g l =
        record {
          ways = s.ways;
          goes = s.goes;
          least = λ other its low w.
              elim (dec_lt (rule_number rule) (rule_number other)) [
                | yes above ↦ s.least other its (omega (arith, e, above)) w
                | no same ↦ omega (arith, l, same-peak g (omega (arith, e, same, low)) w)
              ];
          first = λ other its low w before.
              elim (dec_lt (rule_number rule) (rule_number other)) [
                | yes above ↦ s.first other its (omega (arith, e, above)) w before
                | no same ↦ omega (arith, l, same-peak g (omega (arith, e, same, low)) w)
              ];
        }

    without : GivesNone n rs rule → Seeking n rs (suc done) best
    without none =
        record {
          ways = s.ways;
          goes = s.goes;
          least = λ other its low w. s.least other its (above other its low w) w;
          first = λ other its low w before. s.first other its (above other its low w) w before;
        }
      where
        above : (other : LeastRule) (its : List Routed) → 5 ≤ rule_number other + suc done → WaysBy n rs other its → 5 ≤ rule_number other + done
        above other its low w =
            elim (dec_lt (rule_number rule) (rule_number other)) [
              | yes l ↦ omega (arith, e, l)
              | no l ↦ let same = same-rule other rule (omega (arith, e, l, low)) in absurd (none its (rw same at w))
            ]

    pub seeking-turns : (ways : List Routed) (peak : Option ℕ) → GoesOrNone n rs rule ways peak → Seeking n rs (suc done) (less_of best rule peak)
    unfolding less_of
    seeking-turns ways None none = without none
    seeking-turns ways (Some peak) g =
        elim (dec_lt best.peak peak) [
          | yes l ↦ rw (lt-leb peak best.peak l) (kept ways peak g l)
          | no l ↦ let h : peak ≤ best.peak = omega (arith, l) in rw (le-leb peak best.peak h) (taken ways peak g h)
        ]

  -- ---- all of them

  -- what the rule that has the least peak sends is the least
  pub least-ways : (best : Tried) → Seeking n rs 4 best → (ways : List Routed) → WaysBy n rs best.rule ways → LeastWays n rs best.rule ways
  least-ways best s ways w =
      let same = same-peak s.goes refl w in
      record {
        by = w;
        least = λ other its v. omega (arith, same, s.least other its (omega (arith, (in-its-place other).low)) v);
        first = λ other its v before. omega (arith, same, s.first other its (omega (arith, (in-its-place other).low)) v before);
      }

  -- it is one
  pub one-least : {x y : Least} {a b : List Routed} → LeastIs n rs x a → LeastIs n rs y b → (x ≡ y) × (a ≡ b)
  one-least {x} {y} {a} {b} p q = (λ i. record { peak = peaks i; floor = floors i; rule = rules i }, ways)
    where
      before : {x y : Least} {a b : List Routed} → LeastIs n rs x a → LeastIs n rs y b → rule_number x.rule < rule_number y.rule → ⊥
      before {x} {y} {a} {b} p q l = omega (arith, q.sent.first x.rule a p.sent.by l, p.sent.least y.rule b q.sent.by)

      numbers : rule_number x.rule ≡ rule_number y.rule
      numbers =
          elim (dec_lt (rule_number x.rule) (rule_number y.rule)) [
            | yes l ↦ absurd (before p q l)
            | no l ↦ elim (dec_lt (rule_number y.rule) (rule_number x.rule)) [ yes m ↦ absurd (before q p m) | no m ↦ omega (arith, l, m) ]
          ]

      rules : x.rule ≡ y.rule
      rules = same-rule x.rule y.rule numbers

      ways : a ≡ b
      ways = one-ways (rw rules at p.sent.by) q.sent.by

      peaks : x.peak ≡ y.peak
      peaks = p.peak ∙ ap (peak_of n) ways ∙ sym q.peak

      floors : x.floor ≡ y.floor
      floors = p.floor ∙ sym q.floor

-- ---- the floor

pub no-peak-below : (n : ℕ) (rs : List Demand) → 2 ≤ n → NoPeakBelow n rs (floor_of n rs)
no-peak-below n rs two ways same = let up = div_ceil_times (largest_across n rs) 2 (omega arith) in omega (arith, up.0, up.1, ways-floor n rs two ways same)

-- ---- the loop

-- where it stands: the rows keep their demands
pub record Trying (n : ℕ) (rs : List Demand) (rows : List Routed) (best : Tried) (done : ℕ) : Type 0 where
  pub seeking : Seeking n rs done best
  pub same : demands (sents rows) ≡ rs

module _ (n : ℕ) (rs : List Demand) (rows : List Routed) (best : Tried) (done : ℕ) (t : Trying n rs rows best done) where
  -- a rule more
  pub trying-turns : (rule : LeastRule) → rule_number rule + suc done ≡ 5 → (new : List Routed) (peak : Option ℕ) → demands (sents new) ≡ demands (sents rows) → GoesOrNone n (demands (sents rows)) rule new peak →
      (next : Tried) → next ≡ less_of best rule peak → Trying n rs new next (done + 1)
  trying-turns rule e new peak d g next l =
      let s : done + 1 ≡ suc done = omega arith in
      rw (s, l) (record { seeking = seeking-turns done best t.seeking rule e new peak (rw t.same at g); same = d ∙ t.same })

-- the first rule
pub trying-starts : (n : ℕ) (rs : List Demand) (ways : List Routed) (peak : ℕ) → Goes n rs (RuleD Lowered) ways peak → demands (sents ways) ≡ rs → Trying n rs ways (record { rule = RuleD Lowered; peak = peak }) 0
trying-starts n rs ways peak g same = record { seeking = seeking-starts ways peak g; same = same }

-- ---- where it ends

-- the rules of the loop, of which a later one has the number before
abbrev backwards : List LeastRule
backwards = RuleD Level ∷ BestChoice Lowered ∷ BestChoice Level ∷ []

pub next-number : (k : ℕ) → k < 3 → rule_number (get_or backwards k Turns) + suc k ≡ 5
unfolding rule_number
next-number zero l = refl
next-number (suc zero) l = refl
next-number (suc (suc zero)) l = refl
next-number (suc (suc (suc k))) l = absurd (omega (arith, l))

module _ (n : ℕ) (rs : List Demand) (rows : List Routed) (best : Tried) (done : ℕ) (t : Trying n rs rows best done) (all : done ≡ 3) (floor : ℕ) (f : floor ≡ floor_of n rs)
    (turned : List Routed) (peak : ℕ) (g : Goes n rs Turns turned peak) where
  tried : Seeking n rs 3 best
  tried = rw all at t.seeking

  -- the turns are the least,
  pub turns-least : peak ≤ best.peak → LeastIs n rs (record { peak = peak; floor = floor; rule = Turns }) turned
  unfolding rule_number
  turns-least l = record { sent = least-ways _ (taken 3 best tried Turns refl turned peak g l) turned g.by; peak = g.comes_to; floor = f }

  -- or the rule before is, by which the rows then go again
  pub again-least : best.peak < peak → (new : List Routed) (answer : Option ℕ) → GoesOrNone n rs best.rule new answer → LeastIs n rs (record { peak = best.peak; floor = floor; rule = best.rule }) new
  unfolding rule_number
  again-least l new None none = absurd (none tried.ways tried.goes.by)
  again-least l new (Some answer) h =
      record { sent = least-ways best (kept 3 best tried Turns refl turned peak g l) new h.by; peak = sym (same-peak tried.goes refl h.by); floor = f }
