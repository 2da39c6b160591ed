-- The place that is given with a reason is near: of the rows one that a sheet can have, or the first behind them, and of the links one of the ring.
use Rattle.std.proofs.Common.{ℕ, ◌+◌, ◌≤◌, List, [], ◌∷◌, Option, Some, None, Result, Ok, Err, IfErr, ◌⊎◌, inl, inr, ◌≡◌, ap, length, arith}
use Rattle.ring.specs.declared.types.Demand.{Demand}
use Rattle.ring.specs.declared.types.Routed.{Routed}
use Rattle.ring.specs.declared.types.Link.{Link}
use Rattle.ring.specs.Limits.{Limits, desk}
use Rattle.ring.specs.Sheet.{Sheet, figures_of, true_link, split_peak, unsplit_peak, largest_split_of}
use Rattle.reasons.specs.Findings.{Findings, nothing, finding, then, found, First}
use Rattle.reasons.specs.RowFindings.{ring_findings}
use Rattle.reasons.specs.declared.finding.Finding.{Finding}
use Rattle.reasons.specs.declared.reason.Reason.{Reason}
use Rattle.reasons.specs.declared.reason.Reason.TheVariants.{WrongLink}
use Rattle.reasons.proofs.Findings.{fine, either-of}
use Rattle.judge.specs.Findings.{row_findings, rows_findings, cut_findings, links_findings, loads_findings, last_findings, findings}
use Rattle.judge.proofs.Rows.{same-number, row-fine}
use Rattle.judge.proofs.Judging.{ring-fine}

-- all places are at most this
data Within (most : ℕ) : Findings → Type 1 where
  none_at : Within most nothing
  one_at : {A : Type 0} {reason : Reason} {place : ℕ} {fs : Findings} → place ≤ most → Within most fs → Within most (finding A reason place fs)

place-within : {most : ℕ} {fs : Findings} (f : Finding) → Within most fs → First fs (Err f) → f.place ≤ most
place-within f none_at h = absurd (cc)
place-within f (one_at {reason = reason} {place = place} l w) (inl h) =
    let same = h.1 in
    let e : f ≡ found reason place = cc in
    omega (arith, ap (λ (f : Finding). f.place) e)
place-within f (one_at l w) (inr h) = place-within f w h.1

module _ (limits : Limits) (n : ℕ) where
  row-within : (place most : ℕ) (above : Option Demand) (r : Routed) → place ≤ most → Within most (row_findings limits n place above r)
  unfolding then
  row-within place most above r l = one_at l (one_at l (one_at l (one_at l (one_at l (one_at l (one_at l none_at))))))

  -- the first row behind those that a sheet can have is too many
  rows-near : (place : ℕ) (above : Option Demand) (rs : List Routed) (f : Finding) → place ≤ limits.rows + 1 → First (rows_findings limits n place above rs) (Err f) → f.place ≤ limits.rows + 1
  rows-near place above [] f l h = absurd (cc)
  rows-near place above (r ∷ rs) f l h =
      go (either-of (row_findings limits n place above r) (rows_findings limits n (place + 1) (Some r.sent.demand) rs) f h) (rows-near (place + 1) (Some r.sent.demand) rs f)
    where
      go : First (row_findings limits n place above r) (Err f) ⊎ (First (row_findings limits n place above r) fine × First (rows_findings limits n (place + 1) (Some r.sent.demand) rs) (Err f)) →
          (place + 1 ≤ limits.rows + 1 → First (rows_findings limits n (place + 1) (Some r.sent.demand) rs) (Err f) → f.place ≤ limits.rows + 1) → f.place ≤ limits.rows + 1
      go (inl k) later = place-within f (row-within place (limits.rows + 1) above r l) k
      go (inr k) later = let at = row-fine limits n place above r k.0 in later (omega (arith, at.count)) k.1

links-within : (due : ℕ → Link) (place most : ℕ) (ls : List Link) → place + length ls ≤ most + 1 → Within most (links_findings due place ls)
links-within due place most [] l = none_at
links-within due place most (x ∷ ls) l = one_at (omega arith) (links-within due (place + 1) most ls (omega arith))

loads-near : (n : ℕ) (due : ℕ → Link) (ls : List Link) (f : Finding) → First (loads_findings n due ls) (Err f) → f.place ≤ n
loads-near n due ls f (inl h) = let same = h.1 in let e : f ≡ found WrongLink 0 = cc in omega (arith, ap (λ (f : Finding). f.place) e)
loads-near n due ls f (inr h) = let many = same-number (length ls) n h.0 in place-within f (links-within due 1 n ls (omega arith)) h.1

module _ (x : Sheet) where
  abbrev behind_links : Findings
  behind_links = last_findings (figures_of x) (split_peak x) (unsplit_peak x) (largest_split_of x)

  abbrev behind_cut : Findings
  behind_cut = then (loads_findings x.ring.nodes (true_link x.rows) x.links) behind_links

  abbrev behind_rows : Findings
  behind_rows = then (cut_findings x.ring.nodes x.rows x.cut) behind_cut

  abbrev behind_ring : Findings
  behind_ring = then (rows_findings desk x.ring.nodes 1 None x.rows) behind_rows

  near-of : (f : Finding) → First (findings desk x) (Err f) → f.place ≤ desk.rows + 1
  near-of f h = ring (either-of (ring_findings desk x.ring) behind_ring f h)
    where
      last : First behind_links (Err f) → f.place ≤ desk.rows + 1
      last k = place-within f (one_at (omega arith) (one_at (omega arith) (one_at (omega arith) none_at))) k

      links : x.ring.nodes ≤ desk.nodes → First (loads_findings x.ring.nodes (true_link x.rows) x.links) (Err f) ⊎ (First (loads_findings x.ring.nodes (true_link x.rows) x.links) fine × First behind_links (Err f)) → f.place ≤ desk.rows + 1
      links few (inl k) = omega (arith, loads-near x.ring.nodes (true_link x.rows) x.links f k)
      links few (inr k) = last k.1

      cut : x.ring.nodes ≤ desk.nodes → First (cut_findings x.ring.nodes x.rows x.cut) (Err f) ⊎ (First (cut_findings x.ring.nodes x.rows x.cut) fine × First behind_cut (Err f)) → f.place ≤ desk.rows + 1
      cut few (inl k) = place-within f (one_at (omega arith) none_at) k
      cut few (inr k) = links few (either-of (loads_findings x.ring.nodes (true_link x.rows) x.links) behind_links f k.1)

      rows : x.ring.nodes ≤ desk.nodes → First (rows_findings desk x.ring.nodes 1 None x.rows) (Err f) ⊎ (First (rows_findings desk x.ring.nodes 1 None x.rows) fine × First behind_rows (Err f)) → f.place ≤ desk.rows + 1
      rows few (inl k) = rows-near desk x.ring.nodes 1 None x.rows f (omega arith) k
      rows few (inr k) = cut few (either-of (cut_findings x.ring.nodes x.rows x.cut) behind_cut f k.1)

      ring : First (ring_findings desk x.ring) (Err f) ⊎ (First (ring_findings desk x.ring) fine × First behind_ring (Err f)) → f.place ≤ desk.rows + 1
      ring (inl k) = place-within f (one_at (omega arith) (one_at (omega arith) none_at)) k
      ring (inr k) = rows (ring-fine desk x.ring k.0).many (either-of (rows_findings desk x.ring.nodes 1 None x.rows) behind_rows f k.1)

  pub near : (r : Result Unit Finding) → First (findings desk x) r → IfErr r (λ f. f.place ≤ desk.rows + 1)
  near (Ok tt) h = tt
  near (Err f) h = near-of f h
