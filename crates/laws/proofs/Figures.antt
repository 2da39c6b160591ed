-- The figures of a sheet whose values judging accepts: none is large (`figures-small`), so each has few digits (`number-wide`).
use Prim.Native.Nat.{ℕ, suc, ◌^◌, ◌≤◌, ◌<◌}
use native.Mathlib.Omega.{arith}
use mathlib.Core.Logic.{inl, inr}
use Rattle.ring.specs.Limits.{desk}
use Rattle.ring.specs.Lists.{Each}
use Rattle.ring.specs.Demand.{OnRing}
use Rattle.ring.specs.declared.types.Routed.{Routed}
use Rattle.ring.specs.Sheet.{Sheet}
use Rattle.ring.specs.True.{TrueSheet}
use Rattle.ring.proofs.Lists.{each}
use Rattle.ring.proofs.Small.{SmallFigures, figures-small, each-of-demands}
use Rattle.text.specs.Number.{base}
use Rattle.text.specs.Field.{spell}
use Rattle.text.proofs.Widths.{number-wide}
use Rattle.judge.specs.Findings.{Fits}
use Rattle.sheet.specs.Range.{Spelled}
use Rattle.sheet.proofs.Short.{desk-fits, numbers, true-short, true-spelled}
use Rattle.checker.proofs.Promised.{judged-in-range, true-accepted}
use Rattle.laws.specs.Digits.{Digits, ShortNodes, ShortAmounts, ShortHalves, ShortLoads, FitsText, WrittenAccepted}

few-digits : (k v : ℕ) → k ≤ 9 → v < base ^ suc k → Digits (suc k) v
unfolding spell
few-digits k v l h = number-wide k v l h

module _ (x : Sheet) (f : Fits desk x) (t : TrueSheet x) where
  small : SmallFigures desk.amount x
  small = figures-small desk.amount x t f.amounts

  spelled : Spelled desk x
  spelled = true-spelled desk desk-fits x t f

  on-ring : Each (λ (r : Routed). OnRing x.ring.nodes r.sent.demand) x.rows
  on-ring = each-of-demands {P = OnRing x.ring.nodes} x.rows f.rows.nodes

  pub short-nodes : ShortNodes x
  short-nodes =
      record {
        ring = few-digits 1 x.ring.nodes (omega arith) (omega (arith, f.many));
        fibres = few-digits 1 x.ring.fibres (omega arith) (elim f.fibres [ inl e ↦ omega (arith, e) | inr e ↦ omega (arith, e) ]);
        first = each (λ r on. few-digits 1 r.sent.demand.first (omega arith) (omega (arith, on.order, on.high, f.many))) on-ring;
        second = each (λ r on. few-digits 1 r.sent.demand.second (omega arith) (omega (arith, on.high, f.many))) on-ring;
        cut = (few-digits 1 x.cut.g (omega arith) (omega (arith, t.cut.order, t.cut.high, f.many)), few-digits 1 x.cut.h (omega arith) (omega (arith, t.cut.high, f.many)));
        links = each (λ l h. few-digits 1 l.link (omega arith) h) (numbers desk desk-fits x t f);
      }

  pub short-amounts : ShortAmounts x
  short-amounts = each (λ r h. few-digits 3 r.sent.demand.amount (omega arith) (omega (arith, h.amount))) small.rows

  pub short-halves : ShortHalves x
  short-halves =
      each (λ r h. (few-digits 4 r.sent.front (omega arith) (omega (arith, h.halves)), few-digits 4 r.sent.back (omega arith) (omega (arith, h.halves)))) small.rows

  pub short-loads : ShortLoads x
  short-loads =
      record {
        across = few-digits 7 x.cut.across (omega arith) spelled.cut.1.1;
        links = each (λ l h. (few-digits 7 l.split (omega arith) h.split, few-digits 7 l.unsplit (omega arith) h.unsplit)) spelled.loads;
        unsplit_peak = few-digits 7 x.unsplit_peak (omega arith) spelled.last.0;
        size = few-digits 7 x.size (omega arith) spelled.last.1;
      }

  pub fits-text : FitsText x
  fits-text = record { sheet = true-short desk desk-fits x t f; text = omega arith }

  -- values that judging accepts are in range, and true (`judged-in-range`, `true-accepted`)
  pub written-accepted : WrittenAccepted x
  written-accepted = true-accepted x (judged-in-range x f t) t
