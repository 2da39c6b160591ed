-- Either engine: its rooms are at most M, of one parity and enough, so that rule B's theorem holds from them, no link is above M, and all else holds that does
-- of every such routing (ring/Plans). With level rooms these are rules A to D.
use Prim.Native.Nat.{ℕ, ◌+◌, ◌*◌, ◌%◌, ◌≤◌}
use mathlib.Core.List.{List}
use mathlib.Core.Path.{◌≡◌, refl, sym, ◌∙◌}
use native.Mathlib.Omega.{arith}
use native.Mathlib.Nat.{le_refl}
use Rattle.ring.specs.Lists.{Each, Pairs}
use Rattle.ring.specs.declared.types.Ring.{Ring}
use Rattle.ring.specs.declared.types.Demand.{Demand}
use Rattle.ring.specs.Demand.{OnRing}
use Rattle.ring.specs.TableRows.{TableRows}
use Rattle.ring.specs.Cut.{across}
use Rattle.ring.specs.Routing.{split_load, unsplit_load, peak}
use Rattle.ring.specs.RuleA.{largest_across}
use Rattle.ring.specs.RuleB.{send_all, rule_b}
use Rattle.ring.specs.RuleD.{largest_split}
use Rattle.ring.specs.Sheet.{sents, demands, sheet_of, plan}
use Rattle.ring.specs.True.{TrueSheet}
use Rattle.ring.specs.Division.{Divides}
use Rattle.ring.specs.Rules.{Enough, OneParity, Sends, NotBoth, Staggered, Untangled, Directed}
use Rattle.ring.proofs.Sending.{sends}
use Rattle.ring.proofs.Circuits.{one_split}
use Rattle.ring.proofs.Plans.{level-enough, no-fall, peak-is-M, untangled-of, divides-of, fits-of, peak-of, rise-of, directed-of, bound-of, sheet-demands, true-of}
use Rattle.engines.specs.Engine.{Engine, Level, Lowered, rooms_by, sent_by, split_routing_by, unsplit_routing_by, plan_by}
use Rattle.engines.proofs.Lowered.{at-most-M, enough, parity}

-- ---- rules A to D as before

pub as-before : (ring : Ring) (rs : List Demand) → plan_by Level ring rs ≡ plan ring rs
unfolding plan
as-before ring rs = refl

-- the sending step is the same
pub sent-from : (engine : Engine) (n : ℕ) (rs : List Demand) → sent_by engine n rs ≡ send_all (rooms_by engine n rs) rs
unfolding rule_b
sent-from Level n rs = refl
sent-from Lowered n rs = refl

module _ (engine : Engine) (n : ℕ) (rs : List Demand) (two : 2 ≤ n) where
  -- ---- the rooms

  pub rooms-most : (k : ℕ) → 1 ≤ k → k ≤ n → rooms_by engine n rs k ≤ largest_across n rs
  rooms-most k a b = go engine
    where
      go : (e : Engine) → rooms_by e n rs k ≤ largest_across n rs
      go Level = le_refl (largest_across n rs)
      go Lowered = at-most-M n rs two k a b

  pub rooms-parity : OneParity n (rooms_by engine n rs)
  rooms-parity g h a b c d = go engine
    where
      go : (e : Engine) → (rooms_by e n rs g + rooms_by e n rs h) % 2 ≡ 0
      go Level = omega arith
      go Lowered = parity n rs two g h a b c d

  pub rooms-enough : Enough n (rooms_by engine n rs) rs
  rooms-enough g h a o b = go engine
    where
      go : (e : Engine) → 2 * across rs g h ≤ rooms_by e n rs g + rooms_by e n rs h
      go Level = level-enough n rs two g h a o b
      go Lowered = enough n rs two g h a o b

  -- ---- sending, and rule C: rows in any order

  module _ (nodes : Each (OnRing n) rs) where
    pub sends-by : Sends n (rooms_by engine n rs) rs (sent_by engine n rs)
    sends-by = rw (sent-from engine n rs) (sends n (rooms_by engine n rs) rs nodes rooms-enough rooms-parity)

    -- of the rows of the same two nodes one at most is split
    pub one-split : Pairs NotBoth (sent_by engine n rs)
    one-split =
        rw (sent-from engine n rs)
        (one_split n rs (rooms_by engine n rs) nodes rooms-enough rooms-parity)

    pub sent-fits : (k : ℕ) → 1 ≤ k → k ≤ n → split_load (sent_by engine n rs) k ≤ largest_across n rs
    sent-fits k a b = omega (arith, sends-by.fits k a b, rooms-most k a b)

    -- the split peak is M, before rule C and behind it
    pub sent-peak : peak (split_load (sent_by engine n rs)) n ≡ largest_across n rs
    sent-peak = peak-is-M n rs two (sent_by engine n rs) sends-by.divides sent-fits

    pub untangled-by : Untangled (sent_by engine n rs) (split_routing_by engine n rs)
    untangled-by = untangled-of n rs two nodes (sent_by engine n rs) sends-by.divides sent-fits

    pub divides-by : Divides 2 rs (split_routing_by engine n rs)
    divides-by = divides-of n rs two nodes (sent_by engine n rs) sends-by.divides sent-fits

    pub split-fits : (k : ℕ) → 1 ≤ k → k ≤ n → split_load (split_routing_by engine n rs) k ≤ largest_across n rs
    split-fits = fits-of n rs two nodes (sent_by engine n rs) sends-by.divides sent-fits

    pub split-peak : peak (split_load (split_routing_by engine n rs)) n ≡ largest_across n rs
    split-peak = peak-of n rs two nodes (sent_by engine n rs) sends-by.divides sent-fits

  -- ---- rows in table order

  module _ (table : TableRows n rs) where
    pub rows-rise : Pairs Staggered (split_routing_by engine n rs)
    rows-rise = rise-of n rs two table.nodes (sent_by engine n rs) (sends-by table.nodes).divides (sent-fits table.nodes) (no-fall n rs table)

    pub directed-by : Directed (split_routing_by engine n rs) (unsplit_routing_by engine n rs)
    directed-by = directed-of n rs two table.nodes (sent_by engine n rs) (sends-by table.nodes).divides (sent-fits table.nodes) (no-fall n rs table)

    pub bound-by : 2 * peak (unsplit_load (unsplit_routing_by engine n rs)) n ≤ peak (split_load (split_routing_by engine n rs)) n + 3 * largest_split (split_routing_by engine n rs)
    bound-by = bound-of n rs two table.nodes (sent_by engine n rs) (sends-by table.nodes).divides (sent-fits table.nodes) (no-fall n rs table)

-- ---- both engines have one split peak

pub same-peak : (one other : Engine) (n : ℕ) (rs : List Demand) → 2 ≤ n → Each (OnRing n) rs →
    peak (split_load (split_routing_by one n rs)) n ≡ peak (split_load (split_routing_by other n rs)) n
same-peak one other n rs two nodes = split-peak one n rs two nodes ∙ sym (split-peak other n rs two nodes)

-- ---- the sheet

module _ (engine : Engine) (ring : Ring) (rs : List Demand) (two : 2 ≤ ring.nodes) (table : TableRows ring.nodes rs) where
  sent : Sends ring.nodes (rooms_by engine ring.nodes rs) rs (sent_by engine ring.nodes rs)
  sent = sends-by engine ring.nodes rs two table.nodes

  pub plan-true-by : TrueSheet (plan_by engine ring rs)
  plan-true-by = true-of ring rs two table.nodes (sent_by engine ring.nodes rs) sent.divides (sent-fits engine ring.nodes rs two table.nodes) (no-fall ring.nodes rs table)

  -- it is of the table's own demands
  pub plan-demands-by : demands (sents (plan_by engine ring rs).rows) ≡ rs
  unfolding sheet_of
  plan-demands-by =
      sheet-demands ring rs two table.nodes (sent_by engine ring.nodes rs) sent.divides (sent-fits engine ring.nodes rs two table.nodes)
      (unsplit_routing_by engine ring.nodes rs) (directed-by engine ring.nodes rs two table).same
