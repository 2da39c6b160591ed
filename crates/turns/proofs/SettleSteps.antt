-- The loop of turns ends where the definition's turns end: where it stands, the turns that are left from these rows on lead to the same. How many more turns
-- are allowed makes no difference where they suffice.
use Rattle.std.proofs.Common.{◌≡◌, ℕ, zero, suc, ◌+◌, ◌≤◌, ◌<◌, List, [], ◌∷◌, length, refl, sym, ap, ◌∙◌, arith, add-one, Option, Some, None}
use Rattle.std.proofs.lemmas.Option.{slice_get_within}
use Rattle.ring.specs.declared.types.Routed.{Routed}
use Rattle.ring.specs.declared.types.Demand.{Demand}
use Rattle.ring.specs.Lists.{Each, none, more}
use Rattle.ring.specs.Routing.{unsplit_load, peak}
use Rattle.ring.specs.Sheet.{sents, demands}
use Rattle.weight.specs.Limits.{across_bound}
use Rattle.weight.specs.LinkSteps.{link_at}
use Rattle.across.specs.Filled.{DemandsFit}
use Rattle.turns.specs.declared.settle.Limit.{Limit}
use Rattle.turns.specs.Turns.{peak_of, avoiding, start, turn_at, whole, PlacedRow, placed_row, choice, settle}
use Rattle.turns.specs.Picks.{Picked, Picks}
use Rattle.turns.specs.Settles.{Wholes, TurnsTo, no_limit, Rests, NextRow, Settling, SettlesTo}
use Rattle.turns.specs.TurnedLoads.{Carries}
use Rattle.turns.proofs.Ends.{choice-lowers, turn-demands}
use Rattle.turns.proofs.PickSteps.{top_peak}

-- ---- the definition's next turn, and its end

pub settle-next : (n far turns : ℕ) (rs : List Routed) (p : PlacedRow) → choice n rs ≡ Some p → settle n (suc far) turns rs ≡ settle n far (suc turns) (turn_at p.place rs)
unfolding settle
settle-next n far turns rs p e = rw (e, settle)

pub settle-end : (n far turns : ℕ) (rs : List Routed) → choice n rs ≡ None → settle n far turns rs ≡ record { rows = rs; turns = turns }
unfolding settle
settle-end n zero turns rs e = refl
settle-end n (suc far) turns rs e = rw (e, settle)

-- two numbers of turns that suffice lead to the same rows, and with as many turns before them to the same
pub enough_same : (n far more' turns : ℕ) (rs : List Routed) → peak_of n rs ≤ far → peak_of n rs ≤ more' → settle n far turns rs ≡ settle n more' turns rs
enough_same n zero more' turns rs a b = go (choice n rs) refl
  where
    go : (f : Option PlacedRow) → choice n rs ≡ f → settle n 0 turns rs ≡ settle n more' turns rs
    go None e = settle-end n 0 turns rs e ∙ sym (settle-end n more' turns rs e)
    go (Some p) e = absurd (omega (arith, choice-lowers n rs p e))
enough_same n (suc far) zero turns rs a b = go (choice n rs) refl
  where
    go : (f : Option PlacedRow) → choice n rs ≡ f → settle n (suc far) turns rs ≡ settle n 0 turns rs
    go None e = settle-end n (suc far) turns rs e ∙ sym (settle-end n 0 turns rs e)
    go (Some p) e = absurd (omega (arith, choice-lowers n rs p e))
enough_same n (suc far) (suc more') turns rs a b = go (choice n rs) refl (λ p l m. enough_same n far more' (suc turns) (turn_at p rs) l m)
  where
    go : (f : Option PlacedRow) → choice n rs ≡ f →
        ((p : ℕ) → peak_of n (turn_at p rs) ≤ far → peak_of n (turn_at p rs) ≤ more' → settle n far (suc turns) (turn_at p rs) ≡ settle n more' (suc turns) (turn_at p rs)) →
        settle n (suc far) turns rs ≡ settle n (suc more') turns rs
    go None e on = settle-end n (suc far) turns rs e ∙ sym (settle-end n (suc more') turns rs e)
    go (Some p) e on =
        let less = choice-lowers n rs p e in
        settle-next n far turns rs p e ∙ (on p.place (omega (arith, less)) (omega (arith, less)) ∙ sym (settle-next n more' turns rs p e))

-- how many turns were made before makes no difference to the rows
pub turns-same : (n far turns others : ℕ) (rs : List Routed) → (settle n far turns rs).rows ≡ (settle n far others rs).rows
unfolding settle
turns-same n zero turns others rs = refl
turns-same n (suc far) turns others rs = go (choice n rs) refl (λ p. turns-same n far (suc turns) (suc others) (turn_at p rs))
  where
    go : (f : Option PlacedRow) → choice n rs ≡ f → ((p : ℕ) → (settle n far (suc turns) (turn_at p rs)).rows ≡ (settle n far (suc others) (turn_at p rs)).rows) →
        (settle n (suc far) turns rs).rows ≡ (settle n (suc far) others rs).rows
    go None e on = rw (settle-end n (suc far) turns rs e, settle-end n (suc far) others rs e) refl
    go (Some p) e on = rw (settle-next n far turns rs p e, settle-next n far others rs p e) (on p.place)

-- ---- rows that go whole

pub start_whole : (a : ℕ) (rs : List Demand) → Wholes (start a rs)
unfolding start avoiding
start_whole a rs = record { each = go rs }
  where
    go : (l : List Demand) → Each (λ (r : Routed). r ≡ whole r.sent.demand r.way) (start a l)
    go [] = none
    go (r ∷ l) = more refl (go l)

turn-whole : (p : ℕ) {rs : List Routed} → Each (λ (r : Routed). r ≡ whole r.sent.demand r.way) rs → Each (λ (r : Routed). r ≡ whole r.sent.demand r.way) (turn_at p rs)
unfolding turn_at
turn-whole p none = none
turn-whole zero (more e o) = more refl o
turn-whole (suc p) (more e o) = more e (turn-whole p o)

-- ---- turn after turn

-- a row was chosen
module _ (n : ℕ) (old now : List Routed) (loads : List ℕ) (before turns : ℕ) (o : Settling n old now loads before turns) (place : ℕ) (h : Picked (length loads) now place) where
  abbrev chosen : Picked n now place
  chosen = rw o.size at h

  pub place_within : place < length now
  place_within = slice_get_within now place h.row h.at

  module _ (new : List Routed) (after : List ℕ) (s : TurnsTo place now new loads after) where
    pub settle_less : peak_of n new < peak_of n now
    settle_less = rw s.is (choice-lowers n now (placed_row place chosen.row) chosen.is)

    pub settle_turn : Settling n old new after before (turns + 1)
    settle_turn = go o.far o.enough o.left
      where
        go : (far : ℕ) → peak_of n now ≤ far → settle n far turns now ≡ settle n (peak_of n old) before old → Settling n old new after before (turns + 1)
        go zero b e = absurd (omega (arith, settle_less))
        go (suc far) b e =
            record {
              size = s.size ∙ o.size;
              carries = s.carries;
              fit = rw (s.is, turn-demands place now) o.fit;
              demands = ap (λ (l : List Routed). demands (sents l)) s.is ∙ (turn-demands place now ∙ o.demands);
              whole = rw s.is (record { each = turn-whole place o.whole.each });
              far = far;
              enough = omega (arith, settle_less);
              left = sym (settle-next n far turns now (placed_row place chosen.row) chosen.is ∙ (rw (s.is, add-one))) ∙ e;
              small = omega (arith, settle_less, o.small);
            }

pub settle_start : (old : List Routed) (loads : List ℕ) (before : ℕ) → DemandsFit (length loads) (demands (sents old)) → Carries (unsplit_load old) loads → Wholes old →
    before + peak_of (length loads) old ≤ across_bound → Settling (length loads) old old loads before before
settle_start old loads before fit c w small =
    let n : ℕ = length loads in
    record { size = refl; carries = c; fit = fit; demands = refl; whole = w; far = peak_of n old; enough = omega arith; left = refl; small = small }

-- none was chosen, or turns were left off
pub settle_done : (limit : Limit) (n : ℕ) (old now : List Routed) (loads : List ℕ) (before turns : ℕ) → Settling n old now loads before turns → Rests limit turns (length loads) now →
    SettlesTo limit n old now loads before turns
settle_done limit n old now loads before turns o h = record { so_far = o; rests = rw o.size at h }

-- ---- where turns end

-- none is left off, and none is chosen
pub all_turned : (n : ℕ) (old now : List Routed) (loads : List ℕ) (before turns : ℕ) → SettlesTo no_limit n old now loads before turns → settle n (peak_of n old) before old ≡ record { rows = now; turns = turns }
all_turned n old now loads before turns s = go (choice n now) refl
  where
    o : Settling n old now loads before turns
    o = s.so_far

    Claim : Type 0
    Claim = settle n (peak_of n old) before old ≡ record { rows = now; turns = turns }

    done : choice n now ≡ None → Claim
    done e = sym o.left ∙ settle-end n o.far turns now e

    go : (f : Option PlacedRow) → choice n now ≡ f → Claim
    go None e = done e
    go (Some p) e = done (s.rests.still (omega (arith, o.small)) (omega (arith, choice-lowers n now p e)))

-- ---- turns behind turns

pub joined : (n : ℕ) (old mid new : List Routed) (loads after : List ℕ) (before turns more' : ℕ) → Settling n old mid loads before turns → Settling n mid new after turns more' → Settling n old new after before more'
joined n old mid new loads after before turns more' a b =
    record {
      size = b.size;
      carries = b.carries;
      fit = b.fit;
      demands = b.demands ∙ a.demands;
      whole = b.whole;
      far = b.far;
      enough = b.enough;
      left = b.left ∙ (enough_same n (peak_of n mid) a.far turns mid (omega arith) a.enough ∙ a.left);
      small = b.small;
    }

pub then_settles : (loads : List ℕ) (old : List Routed) (limit : Limit) (mid : List Routed) (after : List ℕ) (before turns : ℕ) → SettlesTo limit (length loads) old mid after before turns →
    (new : List Routed) (last : List ℕ) (more' : ℕ) → SettlesTo no_limit (length after) mid new last turns more' → SettlesTo no_limit (length loads) old new last before more'
then_settles loads old limit mid after before turns s new last more' b =
    let c : SettlesTo no_limit (length loads) mid new last turns more' = rw s.so_far.size at b in
    record { so_far = joined (length loads) old mid new after last before turns more' s.so_far c.so_far; rests = c.rests }

-- ---- the next row

module _ (rs : List Routed) (loads : List ℕ) (limit : Limit) (turns : ℕ) where
  -- the peak is low enough, or turns are enough
  pub rests_low : (top : ℕ) → Carries (unsplit_load rs) loads → top ≡ peak (link_at loads) (length loads) → top ≤ limit.peak → Rests limit turns (length loads) rs
  rests_low top c t l = record { still = λ a b. absurd (omega (arith, top_peak rs loads top c t)) }

  pub rests_many : limit.turns ≤ turns → Rests limit turns (length loads) rs
  rests_many l = record { still = λ a b. absurd (omega arith) }

  pub next_of : (found : Option ℕ) → Picks (length loads) rs found → NextRow limit turns (length loads) rs found
  next_of None h = record { still = λ a b. h }
  next_of (Some p) h = h
