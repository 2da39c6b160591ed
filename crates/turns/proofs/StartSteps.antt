-- A start's rows avoid its link, and each link carries what lies across the two; what it leads to is answered; and the loop over the starts keeps the best so far,
-- from which the starts that are left give the answer.
use Rattle.std.proofs.Common.{◌≡◌, ℕ, suc, ◌+◌, ◌-◌, ◌*◌, ◌≤◌, ◌<◌, Bool, true, false, cond, List, [], ◌∷◌, ◌++◌, Option, Some, None, slice_get, length, take, get_or, set, refl, sym, ap, subst, ◌∙◌, arith, ltb}
use Rattle.std.proofs.lemmas.List.{length-take, take-append-le, take_all, take_more, drop_more, map-append}
use native.Mathlib.Decide.{dec_lt}
use borrow.Author.Tests.{lt-ltb, le-ltb, ltb-false}
use Rattle.std.specs.Int.{div_ceil}
use Rattle.std.proofs.lemmas.Grind.{div_ceil_times}
use Rattle.ring.specs.declared.types.Cut.{Cut}
use Rattle.ring.specs.declared.types.Demand.{Demand}
use Rattle.ring.specs.declared.types.Routed.{Routed}
use Rattle.ring.specs.declared.types.Way.{Way}
use Rattle.ring.specs.declared.types.Way.TheVariants.{Front, Back}
use Rattle.ring.specs.Demand.{in_front}
use Rattle.ring.specs.Cut.{across}
use Rattle.ring.specs.RuleA.{largest_cut, rule_a, largest_across}
use Rattle.ring.specs.Routing.{unsplit_load, peak}
use Rattle.ring.specs.Sheet.{sents, demands}
use Rattle.ring.proofs.Lists.{each, each-at}
use Rattle.ring.proofs.Small.{each-of-demands}
use Rattle.rows.proofs.Demands.{demands-more}
use Rattle.ring.proofs.Across.{either_order, one_link}
use Rattle.ring.proofs.Side.{cond-elim}
use Rattle.across.specs.Cells.{cell}
use Rattle.across.proofs.CutSteps.{same-cut}
use Rattle.ring.specs.Limits.{desk}
use Rattle.weight.specs.LinkSteps.{link_at}
use Rattle.across.specs.Filled.{TriangleOf, DemandsFit}
use Rattle.rows.proofs.Zip.{Passed, passed-none, within, next-old, put-passed, put-taken}
use Rattle.turns.specs.declared.Turned.{Turned}
use Rattle.turns.specs.Turns.{whole, avoiding, start, peak_of, Settled, settle, TurnedRows, from_start, lower, best_from, least_start}
use Rattle.turns.specs.Promised.{LeastOfStarts, NoTurnLowers, TurnsLower, StartLoads, StartsEnd, StartsWithinM, WaysFloor}
use Rattle.weight.specs.Limits.{across_bound}
use Rattle.turns.specs.declared.Tried.{Tried}
use Rattle.turns.specs.declared.settle.Limit.{Limit}
use Rattle.turns.specs.Settles.{Wholes, no_limit, Settling, SettlesTo}
use Rattle.turns.specs.Known.{end_peak, NotedOn, OnTheWay, NotedOf, Again, Made, StartTried, tried_with, LastIs}
use Rattle.turns.specs.Starts.{lower_of, meets, SmallAmounts, across_between}
use Rattle.turns.specs.TurnedLoads.{Carries}
use Rattle.turns.proofs.PickSteps.{top_peak}
use Rattle.turns.proofs.SameStarts.{same-peaks}
use Rattle.turns.proofs.SettleSteps.{enough_same, turns-same, start_whole, all_turned, joined}
use Rattle.turns.proofs.KnownSteps.{known_peak}
use Rattle.turns.proofs.RowsFit.{peak-most}
use Rattle.turns.proofs.Starts.{start-loads, start-peak, ways-floor}
use Rattle.turns.proofs.Ends.{start-demands, FromStart, each-start, starts-end, no-lower, Least, least-is}

-- ---- the rows of a start

pub small_amounts : (n : ℕ) (rs : List Demand) → DemandsFit n rs → SmallAmounts rs
small_amounts n rs fit = record { each = each (λ r f. f.small) fit.each }

-- where the loop stands: the first t rows are routed
pub record Avoiding (link : ℕ) (old now : List Routed) (t : ℕ) : Type 0 where
  pub passed : Passed old now t
  pub so_far : take t now ≡ start link (demands (sents (take t old)))

avoid-more : (link : ℕ) (rs : List Demand) (r : Demand) → start link (rs ++ r ∷ []) ≡ start link rs ++ avoiding link r ∷ []
unfolding start
avoid-more link rs r = map-append (avoiding link) rs (r ∷ [])

module _ (link : ℕ) (old : List Routed) where
  pub avoid_start : Avoiding link old old 0
  unfolding start
  avoid_start = record { passed = passed-none old; so_far = refl }

  module _ (now : List Routed) (t : ℕ) (r : Routed) (at : slice_get now t ≡ Some r) (o : Avoiding link old now t) where
    few : t < length old
    few = omega (arith, within old now t r at o.passed, o.passed.size)

    old-here : get_or old t r ≡ r
    old-here = ap (λ l. get_or l 0 r) (sym (drop_more old t r few) ∙ next-old old now t r at o.passed)

    pub avoid_small : SmallAmounts (demands (sents old)) → r.sent.demand.amount ≤ desk.amount
    avoid_small small =
        rw old-here at (each-at (each-of-demands {P = λ q. q.amount ≤ desk.amount} old small.each) t r few)

    pub avoid_turn : (w : Way) (q : Routed) (new : List Routed) → w ≡ cond (in_front r.sent.demand link) Back Front → q ≡ whole r.sent.demand w → new ≡ set now t q → Avoiding link old new (t + 1)
    unfolding avoiding
    avoid_turn w q new a b e =
        let avoids : q ≡ avoiding link r.sent.demand = b ∙ ap (whole r.sent.demand) a in
        rw e
        (record {
          passed = put-passed old now t r at o.passed q;
          so_far =
              rw (take_more old t r few, old-here, demands-more, avoid-more)
              (put-taken old now t r at o.passed q ∙ (rw (o.so_far, avoids)));
        })

  pub avoid_done : (now : List Routed) (t : ℕ) → length old ≤ t → Avoiding link old now t → now ≡ start link (demands (sents old))
  avoid_done now t l o =
      let a = take_all t now (omega (arith, o.passed.size)) in
      let b = take_all t old l in
      rw (a, b) at o.so_far

-- ---- its loads

-- where the loop stands: of n links the first k have their loads
pub record Loading (triangle : List ℕ) (link n : ℕ) (loads : List ℕ) (k : ℕ) : Type 0 where
  pub size : length loads ≡ n
  pub is : (h : ℕ) → 1 ≤ h → h ≤ k → link_at loads h ≡ across_between triangle link h

module _ (triangle : List ℕ) (link n : ℕ) where
  pub load_start : (loads : List ℕ) → length loads ≡ n → Loading triangle link n loads 0
  load_start loads size = record { size = size; is = λ k a b. absurd (omega arith) }

  pub load_done : (loads rest : List ℕ) (k : ℕ) → n ≤ k → Loading triangle link n loads k → Carries (λ h. across_between triangle link h) (take n (loads ++ rest))
  load_done loads rest k l o =
      rw (take-append-le n loads rest (omega (arith, o.size)) ∙ take_all n loads (omega (arith, o.size)))
      (record { is = λ x a b. o.is x a (omega (arith, o.size)) })

module _ (n : ℕ) (rs : List Demand) (triangle : List ℕ) (s : TriangleOf n rs triangle) (link : ℕ) (low : 1 ≤ link) (high : link ≤ n) where
  number-is : (h : ℕ) → 1 ≤ h → h ≤ n → across_between triangle link h ≡ across rs link h
  number-is h a b =
      elim (dec_lt link h) [
        | yes l ↦ rw (lt-ltb link h l) (s.is link h low l b)
        | no l ↦ elim (dec_lt h link) [
          | yes m ↦ rw (le-ltb link h (omega arith), lt-ltb h link m) (s.is h link a m high ∙ either_order rs h link)
          | no m ↦ let e : link ≡ h = omega arith in rw (le-ltb link h (omega arith), le-ltb h link (omega arith), e) (sym (one_link rs h))
        ]
      ]

  pub start_carries : (rows : List Routed) (loads : List ℕ) → length loads ≡ n → rows ≡ start link rs → Carries (λ h. across_between triangle link h) loads → Carries (unsplit_load rows) loads
  start_carries rows loads size e c = record { is = λ k a b. c.is k a b ∙ (number-is k a (omega arith) ∙ (sym (start-loads link k rs) ∙ (rw e))) }

-- ---- where it leads

-- the loads that are seen are as many as the links
pub seen_long : (n : ℕ) (loads : List ℕ) → n ≤ desk.nodes → length loads ≡ desk.nodes → length (take n loads) ≡ n
seen_long n loads few size = omega (arith, length-take n loads)

module _ (n : ℕ) (rs : List Demand) (link : ℕ) where
  pub start_keeps : (new : List Routed) → new ≡ (from_start n rs link).rows → demands (sents new) ≡ rs
  start_keeps new e = rw e (each-start n rs link).demands

  -- from its rows on
  module _ (rows : List Routed) (e : rows ≡ start link rs) (loads : List ℕ) (size : length loads ≡ n) (fit : DemandsFit n rs) where
    pub start_fits : DemandsFit (length loads) (demands (sents rows))
    start_fits = rw (size, e, start-demands) fit

    pub start_wholes : Wholes rows
    start_wholes = rw e (start_whole link rs)

    pub start_small : 0 + peak_of (length loads) rows ≤ across_bound
    start_small = omega (arith, peak-most (length loads) rows start_fits)

    pub at_start : Carries (unsplit_load rows) loads → Settling n (start link rs) rows loads 0 0
    at_start c =
        record {
          size = size;
          carries = c;
          fit = rw size at start_fits;
          demands = ap (λ (l : List Routed). demands (sents l)) e;
          whole = start_wholes;
          far = peak_of n rows;
          enough = omega arith;
          left = ap (λ (l : List Routed). settle n (peak_of n l) 0 l) e;
          small = rw size at start_small;
        }

    pub start_on : (limit : Limit) (mid : List Routed) (after : List ℕ) (turns : ℕ) → SettlesTo limit (length loads) rows mid after 0 turns → Settling n (start link rs) mid after 0 turns
    start_on limit mid after turns s = rw (size, e) at s.so_far

  -- so many turns behind it
  module _ (mid : List Routed) (loads : List ℕ) (turns : ℕ) (o : Settling n (start link rs) mid loads 0 turns) where
    pub mid_keeps : demands (sents mid) ≡ rs
    mid_keeps = o.demands ∙ start-demands link rs

    all-left : settle n (peak_of n (start link rs)) 0 (start link rs) ≡ settle n (peak_of n mid) turns mid
    all-left = sym o.left ∙ enough_same n o.far (peak_of n mid) turns mid o.enough (omega arith)

    pub on_way : OnTheWay n rs link mid
    unfolding from_start end_peak
    on_way =
        record {
          demands = mid_keeps;
          whole = o.whole;
          ends = ap (λ (x : Settled). peak_of n x.rows) all-left ∙ ap (peak_of n) (turns-same n (peak_of n mid) turns 0 mid);
        }

    -- and all that are left
    module _ (new : List Routed) (last : List ℕ) (f : Turned) (s : SettlesTo no_limit (length loads) mid new last turns f.turns) (top : f.peak ≡ peak (link_at last) (length last)) (l : f.link ≡ link) where
      s' : SettlesTo no_limit n mid new last turns f.turns
      s' = rw o.size at s

      settled : settle n (peak_of n (start link rs)) 0 (start link rs) ≡ record { rows = new; turns = f.turns }
      settled = all-left ∙ all_turned n mid new last turns f.turns s'

      start-rows : new ≡ (from_start n rs link).rows
      unfolding from_start
      start-rows = rw settled

      start-figures : f ≡ (from_start n rs link).figures
      unfolding from_start
      start-figures = let p : f.peak ≡ peak_of n new = rw s'.so_far.size at (top_peak new last f.peak s'.so_far.carries top) in rw (settled, ← p, ← l) refl

      pub new_keeps : demands (sents new) ≡ rs
      new_keeps = start_keeps new start-rows

  pub start_made : (mid : List Routed) (loads : List ℕ) (turns : ℕ) (o : Settling n (start link rs) mid loads 0 turns) (new : List Routed) (last : List ℕ) (f : Turned) → SettlesTo no_limit (length loads) mid new last turns f.turns →
      f.peak ≡ peak (link_at last) (length last) → f.link ≡ link → (ways : List Way) → NotedOn (length loads) mid turns ways → Made n rs link ways new f
  start_made mid loads turns o new last f s top l ways noted =
      let t : NotedOn n mid turns ways = rw o.size at noted in
      record {
        rows = start-rows mid loads turns o new last f s top l;
        is = start-figures mid loads turns o new last f s top l;
        noted = record { rows = t.rows; on = on_way t.rows t.loads t.turns (joined n (start link rs) mid t.rows loads t.loads 0 turns t.turns o t.so_far); noted = t.noted };
      }

-- ---- all starts

lower-figures : (x y : TurnedRows) → (lower x y).figures ≡ lower_of x.figures y.figures
unfolding lower
lower-figures x y = go (ltb y.figures.peak x.figures.peak)
  where
    go : (b : Bool) → (cond b y x).figures ≡ cond b y.figures x.figures
    go true = refl
    go false = refl

lower-least : (x y : TurnedRows) → (lower x y).figures.peak ≤ y.figures.peak
unfolding lower
lower-least x y = cond-elim (λ (z : TurnedRows). z.figures.peak ≤ y.figures.peak) (ltb y.figures.peak x.figures.peak) y x (λ t. omega arith) (λ f. omega (arith, ltb-false _ _ f))

module _ (n : ℕ) (rs : List Demand) where
  -- where the loop stands: the starts up to `link` are done, the starts that follow give the answer, and the ways that are noted are of one of those that are done
  pub record Starting (now : List Routed) (ways : List Way) (tried : Tried) (link : ℕ) : Type 0 where
    pub low : 1 ≤ link
    pub high : link ≤ n
    pub last : LastIs n rs now tried.last
    pub answer : TurnedRows
    pub is : tried.best ≡ answer.figures
    pub beats : answer.figures.peak ≤ (from_start n rs link).figures.peak
    pub left : best_from n rs (suc link) (n - link) answer ≡ least_start n rs
    pub earlier : ℕ
    pub noted : NotedOf n rs earlier ways
    pub worth : answer.figures.peak ≤ (from_start n rs earlier).figures.peak

  pub starts_start : (now : List Routed) (ways : List Way) (figures : Turned) → 2 ≤ n → demands (sents now) ≡ rs → Made n rs 1 ways now figures → Starting now ways (record { best = figures; last = 1 }) 1
  unfolding least_start
  starts_start now ways figures two d m =
      record {
        low = omega arith;
        high = omega arith;
        last = record { demands = d; rows = λ l. m.rows };
        answer = from_start n rs 1;
        is = m.is;
        beats = omega arith;
        left = refl;
        earlier = 1;
        noted = m.noted;
        worth = omega arith;
      }

  module _ (now : List Routed) (ways : List Way) (tried : Tried) (link : ℕ) (o : Starting now ways tried link) where
    pub keeps : demands (sents now) ≡ rs
    keeps = o.last.demands

    abbrev next : TurnedRows
    next = from_start n rs (link + 1)

    one_more : link < n → best_from n rs (suc (link + 1)) (n - (link + 1)) (lower o.answer next) ≡ best_from n rs (suc link) (n - link) o.answer
    one_more l =
        let p : n - link ≡ suc (n - (link + 1)) = omega arith in
        let q : link + 1 ≡ suc link = omega arith in
        rw (p, q) (unfold best_from in refl)

    -- the next start does not take the place of the best so far
    passes : (new : List Routed) (last : ℕ) → link < n → o.answer.figures.peak ≤ next.figures.peak → LastIs n rs new last → Starting new ways (record { best = tried.best; last = last }) (link + 1)
    unfolding lower
    passes new last l worse is =
        let stays : lower o.answer next ≡ o.answer = rw (le-ltb next.figures.peak o.answer.figures.peak worse) in
        record {
          low = omega arith;
          high = omega arith;
          last = is;
          answer = o.answer;
          is = o.is;
          beats = worse;
          left = ap (best_from n rs (suc (link + 1)) (n - (link + 1))) (sym stays) ∙ (one_more l ∙ o.left);
          earlier = o.earlier;
          noted = o.noted;
          worth = o.worth;
        }

    pub starts_skip : link < n → meets (link + 1) (demands (sents now)) ≡ false → Starting now ways tried (link + 1)
    starts_skip l e = passes now tried.last l (omega (arith, same-peaks n rs link (rw keeps at e), o.beats)) o.last

    -- it was known again, or made
    pub starts_tried : (new : List Routed) (ways' : List Way) (start : Option Turned) (z : Tried) → link < n → demands (sents new) ≡ demands (sents now) →
        StartTried n (demands (sents now)) (link + 1) ways ways' new start → z ≡ tried_with tried (link + 1) start → Starting new ways' z (link + 1)
    starts_tried new ways' None z l d again e =
        let a : Again n rs (link + 1) ways ways' = rw keeps at again in
        let same = known_peak n a.rows o.noted.rows ways (a.on.demands ∙ sym o.noted.on.demands) a.on.whole o.noted.on.whole a.same o.noted.noted in
        rw (e, a.kept) (passes new 0 l (omega (arith, a.on.ends, same, o.noted.on.ends, o.worth)) (record { demands = d ∙ keeps; rows = λ p. absurd (omega arith) }))
    starts_tried new ways' (Some figures) z l d made e =
        let m : Made n rs (link + 1) ways' new figures = rw keeps at made in
        rw e
        (record {
          low = omega arith;
          high = omega arith;
          last = record { demands = d ∙ keeps; rows = λ p. m.rows };
          answer = lower o.answer next;
          is = (rw (o.is, m.is)) ∙ sym (lower-figures o.answer next);
          beats = lower-least o.answer next;
          left = one_more l ∙ o.left;
          earlier = link + 1;
          noted = m.noted;
          worth = lower-least o.answer next;
        })

    pub starts_done : n ≤ link → tried.best ≡ (least_start n rs).figures
    starts_done l = o.is ∙ ap (λ (x : TurnedRows). x.figures) (none_left ∙ o.left)
      where
        none_left : o.answer ≡ best_from n rs (suc link) (n - link) o.answer
        none_left = let p : n - link ≡ 0 = omega arith in rw p (unfold best_from in refl)

    -- no start that is left ends lower than M/2, rounded up
    pub starts_end : 2 ≤ n → (triangle : List ℕ) (cut : Cut) (floor : ℕ) → TriangleOf n rs triangle → cut ≡ largest_cut (cell triangle) n → floor ≡ div_ceil cut.across 2 → tried.best.peak ≤ floor → tried.best ≡ (least_start n rs).figures
    unfolding rule_a
    starts_end two triangle cut floor s c f l =
        let across-is : cut.across ≡ largest_across n rs = ap (λ (c : Cut). c.across) (c ∙ same-cut n (cell triangle) (across rs) s.is two) in
        let up = div_ceil_times cut.across 2 (omega arith) in
        let low : 2 * tried.best.peak ≤ largest_across n rs + 1 = omega (arith, f, l, up.1, across-is) in
        o.is ∙ ap (λ (x : TurnedRows). x.figures) (sym (no-lower n rs (suc link) (n - link) o.answer two (rw o.is at low)) ∙ o.left)

-- ---- the answer

-- all that is promised of an answer
pub record Promised (n : ℕ) (rs : List Demand) (new : List Routed) (x : Turned) : Type 0 where
  pub rows : new ≡ (least_start n rs).rows
  pub figures : x ≡ (least_start n rs).figures
  pub demands : demands (sents new) ≡ rs
  pub peak : x.peak ≡ peak_of n new
  pub least : LeastOfStarts n rs x
  pub still : NoTurnLowers n new
  pub turns : TurnsLower n rs x
  pub start : new ≡ (from_start n rs x.link).rows
  pub loads : StartLoads rs
  pub ends : StartsEnd n rs
  pub starts : StartsWithinM n rs
  pub most : x.peak ≤ largest_across n rs
  pub floor : WaysFloor n rs

module _ (n : ℕ) (rs : List Demand) (two : 2 ≤ n) where
  least : Least n rs (n + 1) (least_start n rs)
  least = least-is n rs two

  pub promised : Promised n rs (least_start n rs).rows (least_start n rs).figures
  promised = go (least_start n rs) least refl
    where
      go : (x : TurnedRows) → Least n rs (n + 1) x → x ≡ least_start n rs → Promised n rs x.rows x.figures
      go x o e =
          let f : FromStart n rs x.figures.link x = subst (λ y. FromStart n rs x.figures.link y) (sym o.is) (each-start n rs x.figures.link) in
          record {
            rows = ap (λ (x : TurnedRows). x.rows) e;
            figures = ap (λ (x : TurnedRows). x.figures) e;
            demands = f.demands;
            peak = f.peak;
            least = record { low = o.low; high = omega (arith, o.high); is = ap (λ (x : TurnedRows). x.figures) o.is; least = λ a l h. o.least a l (omega arith); first = o.first };
            still = f.still;
            turns = f.turns;
            start = ap (λ (x : TurnedRows). x.rows) o.is;
            loads = λ a h. start-loads a h rs;
            ends = λ a. starts-end n rs a;
            starts = start-peak n rs two;
            most = omega (arith, f.turns, start-peak n rs two x.figures.link o.low (omega (arith, o.high)));
            floor = ways-floor n rs two;
          }

  module _ (best : Turned) (e : best ≡ (least_start n rs).figures) where
    pub best_low : 1 ≤ best.link
    best_low = rw e least.low

    pub best_high : best.link ≤ n
    best_high = rw e (omega (arith, least.high))

    best-is : from_start n rs best.link ≡ least_start n rs
    best-is = rw e (sym least.is)

    -- the best start was the last, or is made again
    pub was_last : (now : List Routed) (last : ℕ) → LastIs n rs now last → best.link ≡ last → now ≡ (least_start n rs).rows
    was_last now last r l = r.rows (omega (arith, l, best_low)) ∙ (rw (← l, best-is))

    module _ (ds : List Demand) (d : ds ≡ rs) where
      pub again_rows : (new : List Routed) → new ≡ (from_start n ds best.link).rows → new ≡ (least_start n rs).rows
      again_rows new r = r ∙ (rw (d, best-is))

      pub again_figures : (x : Turned) → x ≡ (from_start n ds best.link).figures → x ≡ (least_start n rs).figures
      again_figures x f = f ∙ (rw (d, best-is))

  pub all_promised : (new : List Routed) (x : Turned) → new ≡ (least_start n rs).rows → x ≡ (least_start n rs).figures → Promised n rs new x
  all_promised new x r f = rw (r, f) promised

-- ---- the laws of each function

pub ruleset avoid_laws = (avoid_start, avoid_done)

pub ruleset load_laws = (load_start, load_done)
