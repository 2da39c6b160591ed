-- An R or a D line in a text: written in front of a text it is its first line; and it says one ring, or one row.
use Prim.Native.Nat.{ℕ}
use mathlib.Core.List.{List}
use mathlib.Core.Path.{◌≡◌, refl, ap, subst}
use native.Mathlib.Omega.{arith}
use Rattle.ring.specs.Limits.{Limits}
use Rattle.ring.specs.Lists.{none, more}
use Rattle.text.specs.Shapes.{row_line, row_shape}
use Rattle.text.specs.RingLine.{ring_line, RingLineIs}
use Rattle.text.proofs.RingLaws.{ring-in-range, one-ring}
use Rattle.family.specs.declared.family.Family.{Family}
use Rattle.family.specs.declared.family.Family.TheVariants.{Sonet, Sdh}
use Rattle.ring.specs.Ring.{ring_of}
use Rattle.table.proofs.LineRead.{RingSpelled, RowSpelled, row-in-range}
use Rattle.ring.specs.declared.types.Ring.{Ring}
use Rattle.ring.specs.declared.types.Demand.{Demand}
use Rattle.text.proofs.LineLaws.{one-line}
use Rattle.table.specs.ReadTable.{demand_in}
use Rattle.table.specs.RowReasons.{RingIs}
use Rattle.table.specs.Says.{RowIs}
use Rattle.lines.specs.Lines.{lines, LineIs}
use Rattle.lines.proofs.LinesOf.{FirstLine, written-first}
use Rattle.lines.proofs.LineNumbers.{line-one}

pub ring-first : (limits : Limits) (ring : Ring) → RingSpelled limits ring → FirstLine (ring_line ring)
ring-first limits ring h = go ring.family
  where
    go : (family : Family) → FirstLine (ring_line (ring_of ring.nodes ring.fibres family))
    go Sonet =
        written-first limits.digits limits.countable _ _ _ (more (λ e. omega arith) (more tt (more tt none))) (ring-in-range limits.digits limits.countable Sonet ring.nodes ring.fibres h.nodes h.fibres)
    go Sdh =
        written-first limits.digits limits.countable _ _ _ (more (λ e. omega arith) (more tt (more tt (more (λ e. omega arith) none))))
        (ring-in-range limits.digits limits.countable Sdh ring.nodes ring.fibres h.nodes h.fibres)

pub row_first : (limits : Limits) (i j d : ℕ) → RowSpelled limits i j d → FirstLine (row_line i j d)
row_first limits i j d h =
    written-first limits.digits limits.countable _ _ _ (more (λ e. omega arith) (more tt (more tt (more tt none)))) (row-in-range limits i j d h)

-- the first line of a text, by what it says
pub ring-said : {limits : Limits} {t : List ℕ} {ring : Ring} {l : List ℕ} → RingIs limits t ring → LineIs (lines t) 1 l → RingLineIs limits.marks limits.digits l ring
ring-said {limits} {ring = ring} p here = subst (λ s. RingLineIs limits.marks limits.digits s ring) (line-one p.first here refl) p.is

-- and back
pub ring-is : {limits : Limits} {t : List ℕ} {ring : Ring} {l : List ℕ} → LineIs (lines t) 1 l → RingLineIs limits.marks limits.digits l ring → RingIs limits t ring
ring-is {l = l} here h = record { line = l; first = here; is = h }

pub ring-one : {limits : Limits} {t : List ℕ} {r s : Ring} → RingIs limits t r → RingIs limits t s → r ≡ s
ring-one {limits} p q = one-ring limits.digits limits.countable limits.marks _ (ring-said p p.first) (ring-said q p.first)

pub row-one : {limits : Limits} {t : List ℕ} {line : ℕ} {r s : Demand} → RowIs limits t line r → RowIs limits t line s → r ≡ s
row-one {limits} p q = ap demand_in (one-line limits.digits limits.countable row_shape _ _ (row-in-range limits _ _ _ p.spelled) (row-in-range limits _ _ _ q.spelled) (line-one p.text q.text refl))
