-- Internal: the answer of judging as it computes: what a table finds against the ring and the demands, and for each other finding, in the same order, a test.
use Rattle.std.specs.Prelude.{ℕ, ◌+◌, ◌*◌, Bool, cond, not, ◌&&◌, ◌||◌, ltb, leb, eqb, List, [], ◌∷◌, ◌++◌, Option, Some, None, Result, Ok, Err, length}
use Rattle.ring.specs.declared.types.Demand.{Demand}
use Rattle.ring.specs.declared.types.Sent.{Sent}
use Rattle.ring.specs.declared.types.Way.{Way}
use Rattle.ring.specs.declared.types.Way.TheVariants.{Front, Back}
use Rattle.ring.specs.declared.types.Routed.{Routed}
use Rattle.ring.specs.declared.types.Cut.{Cut}
use Rattle.ring.specs.declared.types.Link.{Link}
use Rattle.ring.specs.declared.types.Figures.{Figures}
use Rattle.ring.specs.Limits.{Limits}
use Rattle.ring.specs.LineSize.{line_size, line_size_of}
use Rattle.ring.specs.Routing.{split_load, unsplit_load, peak}
use Rattle.ring.specs.RuleD.{largest_split}
use Rattle.ring.specs.Cut.{across}
use Rattle.ring.specs.Sheet.{Sheet, figures_of, sents, demands, true_link, split_peak, unsplit_peak, largest_split_of}
use Rattle.reasons.specs.Faults.{ring_found, row_found, found_at}
use Rattle.reasons.specs.AndThen.{and_then}
use Rattle.reasons.specs.Findings.{found}
use Rattle.reasons.specs.declared.finding.Finding.{Finding}
use Rattle.reasons.specs.declared.reason.Reason.TheVariants.{WrongSum, WrongWay, WrongCut, WrongLink, WrongLast, NotTight, OverBound}

-- what is found where a test holds
abbrev pub Test : Type 0
Test = Bool × Finding

-- of the first test that holds
unfoldable pub first_of : List Test → Result Unit Finding
first_of [] = Ok tt
first_of ((holds, f) ∷ ts) = let rest = first_of ts in cond holds (Err f) rest

-- ---- the rows

-- this is not the way by rule D of a row that is not split
unfoldable pub strays : Way → Sent → Bool
strays Front s = eqb s.front 0 && ltb 0 s.back
strays Back s = eqb s.back 0

-- 8 and 9
unfoldable pub row_tests : ℕ → Routed → List Test
unfolding strays
row_tests place r =
    (not (eqb (r.sent.front + r.sent.back) (2 * r.sent.demand.amount)), found WrongSum place) ∷
    (strays r.way r.sent, found WrongWay place) ∷
    []

-- of a row behind k rows, of which the last is `above`: what a table finds against its demand, then these
unfoldable pub row_judged : Limits → ℕ → ℕ → Option Demand → Routed → Result Unit Finding
unfolding first_of row_found row_tests
row_judged limits n k above r = and_then (found_at (k + 1) (row_found limits n k above r.sent.demand)) λ u. first_of (row_tests (k + 1) r)

-- of the rows behind k rows
unfoldable pub rows_judged : Limits → ℕ → ℕ → Option Demand → List Routed → Result Unit Finding
unfolding row_judged
rows_judged limits n k above [] = Ok tt
rows_judged limits n k above (r ∷ rs) = and_then (row_judged limits n k above r) λ u. rows_judged limits n (k + 1) (Some r.sent.demand) rs

-- ---- the figures

unfoldable pub cut_tests : ℕ → List Routed → Cut → List Test
unfolding across
cut_tests n rs c = (ltb c.g 1 || leb c.h c.g || ltb n c.h || not (eqb c.across (across (demands (sents rs)) c.g c.h)), found WrongCut 0) ∷ []

unfoldable pub differs : Link → Link → Bool
differs a b = not (eqb a.link b.link) || not (eqb a.split b.split) || not (eqb a.unsplit b.unsplit)

unfoldable pub links_tests : (ℕ → Link) → ℕ → List Link → List Test
unfolding differs
links_tests due place [] = []
links_tests due place (l ∷ ls) = (differs l (due place), found WrongLink place) ∷ links_tests due (place + 1) ls

unfoldable pub loads_tests : ℕ → (ℕ → Link) → List Link → List Test
unfolding links_tests
loads_tests n due ls = (not (eqb (length ls) n), found WrongLink 0) ∷ links_tests due 1 ls

unfoldable pub last_tests : Figures → ℕ → ℕ → ℕ → List Test
unfolding line_size
last_tests x split unsplit largest =
    (not (eqb x.unsplit_peak unsplit) || not (eqb x.size (line_size_of x.ring unsplit)), found WrongLast 0) ∷
    (not (eqb split x.cut.across), found NotTight 0) ∷
    (ltb (split + 3 * largest) (2 * unsplit), found OverBound 0) ∷
    []

-- ---- all of them

unfoldable pub figures_tests : Sheet → List Test
unfolding cut_tests loads_tests last_tests split_load unsplit_load peak largest_split
figures_tests x =
    cut_tests x.ring.nodes x.rows x.cut ++
    (loads_tests x.ring.nodes (true_link x.rows) x.links ++
    last_tests (figures_of x) (split_peak x) (unsplit_peak x) (largest_split_of x))

-- what judging a sheet answers (`judged-first`)
unfoldable pub sheet_judged : Limits → Sheet → Result Unit Finding
unfolding first_of ring_found rows_judged figures_tests
sheet_judged limits x =
    and_then (found_at 0 (ring_found limits x.ring)) λ u. and_then (rows_judged limits x.ring.nodes 0 None x.rows) λ w. first_of (figures_tests x)
