-- For `report`: what the loop has taken, and what is left, give the report; and the sums are small.
use Prim.Native.Nat.{ℕ, ◌+◌, ◌*◌, ◌<◌, ◌≤◌}
use mathlib.Core.List.{List, [], ◌∷◌, map, flatten}
use mathlib.Core.Path.{◌≡◌, ap, sym, ◌∙◌}
use native.Mathlib.Omega.{arith}
use lib.ListN.{length, length-append}
use Rattle.ring.specs.Limits.{desk}
use Rattle.family.specs.declared.family.Family.TheVariants.{Sonet, Sdh}
use Rattle.report.specs.declared.outcome.Outcome.{Outcome}
use Rattle.report.specs.declared.outcome.Outcome.TheVariants.{Refused, Accepted}
use Rattle.report.specs.declared.totals.Report.{Report}
use Rattle.report.specs.Pieces.{pieces}
use Rattle.report.specs.Totals.{accepts, refuses, peak_of, report_of}
use Rattle.report.specs.Fold.{no_piece, with_plan, with_piece, report_from}
use Rattle.report.specs.Report.{outcomes, report}
use Rattle.report.proofs.PieceLaws.{join-pieces}
use Rattle.report.proofs.TotalsLaws.{report-are}

-- how many bytes pieces have
abbrev bytes : List (List ℕ) → ℕ
bytes ps = length (flatten ps)

pub record Walked (gives : List ℕ → Outcome) (s : List ℕ) (ps : List (List ℕ)) (r : Report) : Type 0 where
  pub rest : report_from r (map gives ps) ≡ report gives s
  pub sonet : r.sonet.accepted + bytes ps ≤ length s
  pub sdh : r.sdh.accepted + bytes ps ≤ length s
  pub refused : r.refused + bytes ps ≤ length s
  pub peaks : r.sonet.peaks + r.sdh.peaks + desk.amount * bytes ps ≤ desk.amount * length s

pub one-accepted : (o : Outcome) → accepts o ≤ 1
unfolding accepts
one-accepted Refused = omega arith
one-accepted (Accepted family peak across) = omega arith

pub one-refused : (o : Outcome) → refuses o ≤ 1
unfolding refuses
one-refused Refused = omega arith
one-refused (Accepted family peak across) = omega arith

-- the numbers with one more piece
record Counted (r u : Report) (o : Outcome) : Type 0 where
  sonet : u.sonet.accepted ≤ r.sonet.accepted + 1
  sdh : u.sdh.accepted ≤ r.sdh.accepted + 1
  refused : u.refused ≤ r.refused + 1
  peaks : u.sonet.peaks + u.sdh.peaks ≡ r.sonet.peaks + r.sdh.peaks + peak_of o

counted : (r : Report) (o : Outcome) → Counted r (with_piece r o) o
unfolding with_piece with_plan peak_of
counted r Refused = record { sonet = omega arith; sdh = omega arith; refused = omega arith; peaks = omega arith }
counted r (Accepted Sonet p a) = record { sonet = omega arith; sdh = omega arith; refused = omega arith; peaks = omega arith }
counted r (Accepted Sdh p a) = record { sonet = omega arith; sdh = omega arith; refused = omega arith; peaks = omega arith }

module _ (gives : List ℕ → Outcome) (s : List ℕ) where
  pub walk-begins : (ps : List (List ℕ)) → ps ≡ pieces s → Walked gives s ps no_piece
  unfolding report outcomes
  walk-begins ps e =
      let l : bytes ps ≡ length s = ap bytes e ∙ ap length (join-pieces s) in
      record {
        rest = report-are (map gives ps) ∙ ap (λ qs. report_of (map gives qs)) e;
        sonet = omega arith;
        sdh = omega arith;
        refused = omega arith;
        peaks = omega arith;
      }

  module _ (p : List ℕ) (ps qs : List (List ℕ)) (r : Report) (w : Walked gives s qs r) (is : qs ≡ p ∷ ps) where
    all-bytes : bytes qs ≡ length p + bytes ps
    unfolding flatten
    all-bytes = ap bytes is ∙ length-append p (flatten ps)

    pub piece-within : length p ≤ length s
    piece-within = omega (arith, all-bytes, w.refused)

    pub walked-on : 0 < length p → (o : Outcome) → o ≡ gives p → peak_of o ≤ desk.amount * length p → (u : Report) → u ≡ with_piece r o → Walked gives s ps u
    unfolding report_from
    walked-on some o e small u v =
        let k = counted r o in
        rw v (record {
          rest = ap (λ k. report_from (with_piece r k) (map gives ps)) e ∙ sym (ap (λ l. report_from r (map gives l)) is) ∙ w.rest;
          sonet = omega (arith, all-bytes, w.sonet, k.sonet);
          sdh = omega (arith, all-bytes, w.sdh, k.sdh);
          refused = omega (arith, all-bytes, w.refused, k.refused);
          peaks = omega (arith, all-bytes, w.peaks, k.peaks);
        })

    -- what one more piece asks
    pub summed : length s ≤ 65536 → (o : Outcome) → peak_of o ≤ desk.amount * length p
        → (2 * peak_of o < 4294967296) × (r.sonet.peaks + peak_of o < 4294967296) × (r.sdh.peaks + peak_of o < 4294967296)
    summed short o small = (omega (arith, piece-within), omega (arith, all-bytes, w.peaks), omega (arith, all-bytes, w.peaks))

  pub walk-ends : (qs : List (List ℕ)) (r : Report) → Walked gives s qs r → qs ≡ [] → r ≡ report gives s
  unfolding report_from
  walk-ends qs r w e = ap (λ l. report_from r (map gives l)) (sym e) ∙ w.rest
