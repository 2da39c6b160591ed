-- To believe: what is found against a sheet that is held as values, in the order in which it is judged (Rules, reasons), and what is accepted.
use Rattle.std.specs.Prelude.{ℕ, ◌+◌, ◌*◌, ◌<◌, List, [], ◌∷◌, Option, Some, None, ◌⊎◌, ◌≡◌, length}
use Rattle.ring.specs.declared.types.Demand.{Demand}
use Rattle.ring.specs.declared.types.Routed.{Routed}
use Rattle.ring.specs.declared.types.Cut.{Cut}
use Rattle.ring.specs.declared.types.Link.{Link}
use Rattle.ring.specs.declared.types.Figures.{Figures}
use Rattle.ring.specs.Limits.{Limits}
use Rattle.ring.specs.LineSize.{line_size_of}
use Rattle.ring.specs.Cut.{IsCut, across}
use Rattle.ring.specs.Sheet.{Sheet, figures_of, sents, demands, true_link, split_peak, unsplit_peak, largest_split_of}
use Rattle.ring.specs.WithinLimits.{WithinLimits}
use Rattle.ring.specs.True.{SumsTo2d, GoesByRuleD}
use Rattle.reasons.specs.Findings.{Findings, nothing, finding, then}
use Rattle.reasons.specs.RowFindings.{ring_findings, demand_findings}
use Rattle.reasons.specs.declared.reason.Reason.TheVariants.{WrongSum, WrongWay, WrongCut, WrongLink, WrongLast, NotTight, OverBound}

-- ---- the rows

-- 8 and 9, of how the row at a place is sent
abbrev pub sending_findings : ℕ → Routed → Findings
sending_findings place r =
    finding (SumsTo2d r.sent → ⊥) WrongSum place
    (finding (GoesByRuleD r → ⊥) WrongWay place
    nothing)

-- of the row at a place, counted from 1: 4, 5, 6, 16 and 7 of its demand, then these
abbrev pub row_findings : Limits → ℕ → ℕ → Option Demand → Routed → Findings
row_findings limits n place above r = then (demand_findings limits n place above r.sent.demand) (sending_findings place r)

-- row by row, from a place on, behind a row, where there is one
abbrev pub rows_findings : Limits → ℕ → ℕ → Option Demand → List Routed → Findings
rows_findings limits n place above [] = nothing
rows_findings limits n place above (r ∷ rs) = then (row_findings limits n place above r) (rows_findings limits n (place + 1) (Some r.sent.demand) rs)

-- ---- the figures, by the sheet's own rows

-- 10: the links are no cut, or the across number is not that of the rows
abbrev pub cut_findings : ℕ → List Routed → Cut → Findings
cut_findings n rs c = finding ((IsCut n c → ⊥) ⊎ (c.across ≡ across (demands (sents rs)) c.g c.h → ⊥)) WrongCut 0 nothing

-- 11: a link is not the one that is due at its place, which is counted from 1
abbrev pub links_findings : (ℕ → Link) → ℕ → List Link → Findings
links_findings due place [] = nothing
links_findings due place (l ∷ ls) = finding (l ≡ due place → ⊥) WrongLink place (links_findings due (place + 1) ls)

-- 11: first their count, which is that of the ring's links
abbrev pub loads_findings : ℕ → (ℕ → Link) → List Link → Findings
loads_findings n due ls = finding (length ls ≡ n → ⊥) WrongLink 0 (links_findings due 1 ls)

-- 12, 13 and 14, where the rows make this split peak, in halves, this unsplit peak and this D: the unsplit peak or the size is false; the split peak is not the across
-- number of the cut; twice the unsplit peak is above the split peak and 3D
abbrev pub last_findings : Figures → ℕ → ℕ → ℕ → Findings
last_findings x split unsplit largest =
    finding ((x.unsplit_peak ≡ unsplit → ⊥) ⊎ (x.size ≡ line_size_of x.ring unsplit → ⊥)) WrongLast 0
    (finding (split ≡ x.cut.across → ⊥) NotTight 0
    (finding (split + 3 * largest < 2 * unsplit) OverBound 0
    nothing))

-- ---- all of them

-- of the ring, of the rows, of the cut, of the links, and of the last line
abbrev pub findings : Limits → Sheet → Findings
findings limits x =
    then (ring_findings limits x.ring)
    (then (rows_findings limits x.ring.nodes 1 None x.rows)
    (then (cut_findings x.ring.nodes x.rows x.cut)
    (then (loads_findings x.ring.nodes (true_link x.rows) x.links)
    (last_findings (figures_of x) (split_peak x) (unsplit_peak x) (largest_split_of x)))))

-- ---- what is accepted

-- a sheet keeps to the limits where its ring and its demands do; what is accepted is also true (`TrueSheet`)
abbrev pub Fits : Limits → Sheet → Type 0
Fits limits x = WithinLimits limits x.ring (demands (sents x.rows))
