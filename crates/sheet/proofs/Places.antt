-- A line of a sheet's text has one reading, and so a line number has one place: what stands before it is found by going from line to line, and
-- each line leads one way on.
use Prim.Native.Nat.{ℕ, ◌+◌, ◌≤◌, ◌<◌}
use mathlib.Core.List.{List, [], ◌∷◌, ◌++◌}
use mathlib.Core.Path.{◌≡◌, refl, ap, ap₂, ◌∙◌, sym, subst, subst₂}
use native.Mathlib.Omega.{arith}
use lib.ListN.{length, length-append, get_or}
use Rattle.ring.specs.Limits.{Limits}
use Rattle.ring.specs.Routing.{way_number, routed}
use Rattle.ring.specs.Sheet.{Sheet}
use Rattle.ring.specs.declared.types.Routed.{Routed}
use Rattle.ring.specs.declared.types.Cut.{Cut}
use Rattle.ring.specs.declared.types.Ring.{Ring}
use Rattle.ring.specs.declared.types.Link.{Link}
use Rattle.text.specs.Field.{spell}
use Rattle.text.specs.WriteLine.{write_line}
use Rattle.text.specs.Shapes.{sheet_row_shape, cut_shape, link_shape, last_shape}
use Rattle.text.proofs.LineLaws.{one-line}
use Rattle.lines.specs.Lines.{lines, LineIs}
use Rattle.table.specs.RowReasons.{RingIs}
use Rattle.lines.proofs.LineNumbers.{line-one}
use Rattle.table.proofs.TableLines.{ring-one}
use Rattle.sheet.specs.Read.{routed_in, cut_in, link_in}
use Rattle.sheet.specs.Says.{State, start, rows, links, end, RoutedIs, CutIs, LinkIs, LastIs, At, at_start, behind_ring, behind_row, behind_cut, behind_link, behind_last}
use Rattle.sheet.proofs.SheetLines.{way_small, way_back, SentSpelled, sent-in-range, cut-in-range, link-in-range, last-in-range}

-- ---- one reading

pub sent-spelled : {limits : Limits} {t : List ℕ} {line : ℕ} {r : Routed} → RoutedIs limits t line r
    → SentSpelled limits r.sent.demand.first r.sent.demand.second r.sent.demand.amount r.sent.front r.sent.back (way_number r.way)
sent-spelled {r} s =
    record { first = s.nodes.0; second = s.nodes.1; amount = s.amount; front = s.halves.0; back = s.halves.1; way = way_small r.way }

module _ {limits : Limits} {t : List ℕ} {line : ℕ} where
  pub sent-one : {r q : Routed} → RoutedIs limits t line r → RoutedIs limits t line q → r ≡ q
  sent-one {r} {q} a b =
      let e = one-line limits.digits limits.countable sheet_row_shape _ _ (sent-in-range limits _ _ _ _ _ _ (sent-spelled a)) (sent-in-range limits _ _ _ _ _ _ (sent-spelled b)) (line-one a.text b.text refl) in
      sym (ap (routed r.sent) (way_back r.way)) ∙ ap routed_in e ∙ ap (routed q.sent) (way_back q.way)

  pub cut-one : {c b : Cut} → CutIs limits t line c → CutIs limits t line b → c ≡ b
  cut-one p q =
      ap cut_in
      (one-line limits.digits limits.countable cut_shape _ _ (cut-in-range limits _ _ _ p.pair.0 p.pair.1 p.number) (cut-in-range limits _ _ _ q.pair.0 q.pair.1 q.number) (line-one p.text q.text refl))

  pub link-one : {l m : Link} → LinkIs limits t line l → LinkIs limits t line m → l ≡ m
  link-one p q =
      ap link_in
      (one-line limits.digits limits.countable link_shape _ _ (link-in-range limits _ _ _ p.link p.loads.0 p.loads.1) (link-in-range limits _ _ _ q.link q.loads.0 q.loads.1) (line-one p.text q.text refl))

  pub last_one : {p z q y : ℕ} → LastIs limits t line p z → LastIs limits t line q y → (p ≡ q) × (z ≡ y)
  last_one a b =
      let e = one-line limits.digits limits.countable last_shape _ _ (last-in-range limits _ _ a.spelled.0 a.spelled.1) (last-in-range limits _ _ b.spelled.0 b.spelled.1) (line-one a.text b.text refl) in
      (ap (λ vs. get_or vs 1 0) e, ap (λ vs. get_or vs 2 0) e)

  -- a D and a C line differ in their letter
  pub sent-or-cut : {r : Routed} {c : Cut} → RoutedIs limits t line r → CutIs limits t line c → ⊥
  unfolding write_line spell
  sent-or-cut a b = omega (arith, ap (λ l. get_or l 0 0) (line-one a.text b.text refl))

-- ---- one way on

-- the line leads from one place to the next
data Leads (limits : Limits) (t : List ℕ) (line : ℕ) : State → State → Type 0 where
  by_ring : {ring : Ring} → RingIs limits t ring → Leads limits t line start (rows ring [])
  by_row : {ring : Ring} {rs : List Routed} {r : Routed} → RoutedIs limits t line r → Leads limits t line (rows ring rs) (rows ring (rs ++ r ∷ []))
  by_cut : {ring : Ring} {rs : List Routed} {c : Cut} → CutIs limits t line c → Leads limits t line (rows ring rs) (links ring rs c [])
  by_link : {ring : Ring} {rs : List Routed} {c : Cut} {ks : List Link} {l : Link} → length ks < ring.nodes → LinkIs limits t line l
      → Leads limits t line (links ring rs c ks) (links ring rs c (ks ++ l ∷ []))
  by_last : {ring : Ring} {rs : List Routed} {c : Cut} {ks : List Link} {p z : ℕ} → ring.nodes ≤ length ks → LastIs limits t line p z
      → Leads limits t line (links ring rs c ks) (end (record { ring = ring; rows = rs; cut = c; links = ks; unsplit_peak = p; size = z }))

leads_one : {limits : Limits} {t : List ℕ} {line : ℕ} {q x y : State} → Leads limits t line q x → Leads limits t line q y → x ≡ y
leads_one (by_ring a) (by_ring b) = ap (λ ring. rows ring []) (ring-one a b)
leads_one (by_row {ring} {rs} a) (by_row b) = ap (λ (r : Routed). rows ring (rs ++ r ∷ [])) (sent-one a b)
leads_one (by_row a) (by_cut b) = absurd (sent-or-cut a b)
leads_one (by_cut a) (by_row b) = absurd (sent-or-cut b a)
leads_one (by_cut {ring} {rs} a) (by_cut b) = ap (λ c. links ring rs c []) (cut-one a b)
leads_one (by_link {ring} {rs} {c} {ks} few a) (by_link few' b) = ap (λ l. links ring rs c (ks ++ l ∷ [])) (link-one a b)
leads_one (by_link few a) (by_last all b) = absurd (omega arith)
leads_one (by_last all a) (by_link few b) = absurd (omega arith)
leads_one (by_last {ring} {rs} {c} {ks} all a) (by_last all' b) =
    let e = last_one a b in
    ap₂ (λ p z. end (record { ring = ring; rows = rs; cut = c; links = ks; unsplit_peak = p; size = z })) e.0 e.1

-- ---- one place

-- from line to line
data Walked (limits : Limits) (t : List ℕ) : ℕ → State → Type 0 where
  at_first : Walked limits t 1 start
  on_from : {line : ℕ} {q s : State} {l : List ℕ} → Walked limits t line q → LineIs (lines t) line l → Leads limits t line q s → Walked limits t (line + 1) s

module _ {limits : Limits} {t : List ℕ} where
  walked : {line : ℕ} {s : State} → At limits t line s → Walked limits t line s
  walked at_start = at_first
  walked (behind_ring r) = on_from at_first r.first (by_ring r)
  walked (behind_row at r) = on_from (walked at) r.text (by_row r)
  walked (behind_cut at c) = on_from (walked at) c.text (by_cut c)
  walked (behind_link at few l) = on_from (walked at) l.text (by_link few l)
  walked (behind_last at all l) = on_from (walked at) l.text (by_last all l)

  walked_low : {line : ℕ} {s : State} → Walked limits t line s → 1 ≤ line
  walked_low at_first = omega arith
  walked_low (on_from w is k) = omega arith

  walked_one : {line other : ℕ} {s q : State} → Walked limits t line s → Walked limits t other q → line ≡ other → s ≡ q
  walked_one at_first at_first e = refl
  walked_one at_first (on_from w is k) e = absurd (omega (arith, walked_low w))
  walked_one (on_from w is k) at_first e = absurd (omega (arith, walked_low w))
  walked_one {q} (on_from {line} w is k) (on_from {line = other} w' is' k') e =
      let f : line ≡ other = omega arith in
      leads_one k (subst₂ (λ x y. Leads limits t x y q) (sym f) (sym (walked_one w w' f)) k')

  walked-within : {line k : ℕ} {s : State} → 1 ≤ line → ((l : List ℕ) → LineIs (lines t) line l → ⊥) → Walked limits t k s → k ≤ line
  walked-within low none at_first = low
  walked-within {line} low none (on_from {line = k} {l} w is to) =
      let e : k ≡ line → ⊥ = λ e. none l (subst (λ m. LineIs (lines t) m l) e is) in
      omega (arith, walked-within low none w)

  pub place-low : {line : ℕ} {s : State} → At limits t line s → 1 ≤ line
  place-low at = walked_low (walked at)

  pub place-one : {line other : ℕ} {s q : State} → At limits t line s → At limits t other q → line ≡ other → s ≡ q
  place-one a b e = walked_one (walked a) (walked b) e

  -- no place lies behind a line that is missing
  pub place-within : {line k : ℕ} {q s : State} → At limits t line q → ((l : List ℕ) → LineIs (lines t) line l → ⊥) → At limits t k s → k ≤ line
  place-within a none b = walked-within (place-low a) none (walked b)

-- ---- behind the R line

module _ {limits : Limits} {t : List ℕ} where
  pub ring-above : {line : ℕ} {ring : Ring} {rs : List Routed} → At limits t line (rows ring rs) → RingIs limits t ring
  ring-above (behind_ring is) = is
  ring-above (behind_row at is) = ring-above at

  -- a row stands on a line of its own, the first on line 2
  pub rows-above : {line : ℕ} {ring : Ring} {rs : List Routed} → At limits t line (rows ring rs) → line ≡ length rs + 2
  rows-above (behind_ring is) = refl
  rows-above (behind_row {rs} {r} at is) = omega (arith, rows-above at, length-append rs (r ∷ []))

  pub links-later : {line : ℕ} {ring : Ring} {rs : List Routed} {c : Cut} {ks : List Link} → At limits t line (links ring rs c ks) → 2 ≤ line
  links-later (behind_cut at is) = omega (arith, place-low at)
  links-later (behind_link at few is) = omega (arith, place-low at)

  pub end-later : {line : ℕ} {x : Sheet} → At limits t line (end x) → 2 ≤ line
  end-later (behind_last at all is) = omega (arith, place-low at)
