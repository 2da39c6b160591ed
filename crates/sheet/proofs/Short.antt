-- Every true sheet within limits that fit can be spelled, and is no longer than `longest`: no figure of a true sheet is large (`figures-small`), and each line
-- is no longer than the widths of its fields (`line-wide`). A plan is a true sheet.
use Prim.Native.Nat.{ℕ, zero, suc, ◌+◌, ◌*◌, ◌≤◌, ◌<◌}
use mathlib.Core.List.{List, [], ◌∷◌, ◌++◌}
use mathlib.Core.Path.{◌≡◌, refl, ap, ◌∙◌, sym, subst}
use native.Mathlib.Omega.{arith}
use native.Mathlib.Nat.{mul-suc, mul-le-mul_left}
use lib.ListN.{length, length-append, length-map}
use Rattle.family.specs.declared.family.Family.{Family}
use Rattle.family.specs.declared.family.Family.TheVariants.{Sonet, Sdh}
use Rattle.family.specs.Sizes.{sizes_of}
use Rattle.family.proofs.Sizes.{largest_of}
use Rattle.ring.specs.Limits.{Limits, desk, old}
use Rattle.ring.specs.declared.types.Ring.{Ring}
use Rattle.ring.specs.Lists.{Each, none, more}
use Rattle.ring.specs.Demand.{OnRing}
use Rattle.ring.specs.declared.types.Demand.{Demand}
use Rattle.ring.specs.Routing.{way_number}
use Rattle.ring.specs.declared.types.Routed.{Routed}
use Rattle.ring.specs.Sheet.{Sheet, sents, demands, numbers_from, plan, figures_of}
use Rattle.ring.specs.declared.types.Link.{Link}
use Rattle.ring.specs.True.{TrueSheet}
use Rattle.ring.specs.WithinLimits.{WithinLimits}
use Rattle.ring.proofs.Lists.{each, each_both, each-of-map}
use Rattle.ring.proofs.Small.{SmallRow, SmallFigures, figures-small, demands-length, each-of-demands}
use Rattle.ring.proofs.OurPlan.{plan-true, plan-demands}
use Rattle.text.specs.declared.field.Field.TheVariants.{Number}
use Rattle.text.specs.Bytes.{letter_d, letter_c, letter_l, letter_z}
use Rattle.text.specs.Number.{limit}
use Rattle.text.specs.Field.{spell}
use Rattle.text.specs.RingLine.{ring_line}
use Rattle.text.specs.Shapes.{cut_line, last_line}
use Rattle.text.proofs.Widths.{no-field, wide-field, line-wide, number-wide, number-most, letter-wide, way-wide}
use Rattle.table.specs.Table as table
use Rattle.table.proofs.Short.{Narrow, desk-narrow, old-narrow, node-wide, amount-wide, ring-short}
use Rattle.sheet.specs.WriteSheet.{routed_line, load_line, end_text, write_sheet}
use Rattle.sheet.specs.Range.{LinkSpelled, Spelled, InRange, longest}
use Rattle.std.specs.List.{flat_map}

-- limits that fit: nodes of 2 digits, amounts of 4 and figures of 8, which have as many digits as a number may have; and the longest sheet is no longer than a text
pub record Fitting (limits : Limits) : Type 0 where
  pub narrow : Narrow limits
  pub digits : limits.digits ≤ 8
  pub small : 20000 ≤ limit limits.digits
  pub figures : 2 * limits.amount * limits.rows < limit limits.digits
  pub bytes : longest limits ≤ limits.bytes

pub desk-fits : Fitting desk
desk-fits = record { narrow = desk-narrow; digits = omega arith; small = omega arith; figures = omega arith; bytes = omega arith }

pub old-fits : Fitting old
old-fits = record { narrow = old-narrow; digits = omega arith; small = omega arith; figures = omega arith; bytes = omega arith }

-- ---- the length of a sheet, by those of its lines

lines-most : {A : Type 0} (line : A → List ℕ) (most : ℕ) {l : List A} → Each (λ a. length (line a) ≤ most) l → length (flat_map line l) ≤ most * length l
lines-most line most none = omega arith
lines-most line most (more {a = a} {l = l} p e) = omega (arith, length-append (line a) (flat_map line l), mul-suc most (length l), lines-most line most e)

-- ---- a true sheet's figures

sizes-small : (family : Family) → largest_of (sizes_of family) < 20000
unfolding largest_of
sizes-small Sonet = omega arith
sizes-small Sdh = omega arith

numbers-length : (k m : ℕ) → length (numbers_from k m) ≡ m
unfolding numbers_from
numbers-length k zero = refl
numbers-length k (suc m) = ap suc (numbers-length (suc k) m)

numbers-within : (top k m : ℕ) → k + m ≤ top → Each (λ j. j < top) (numbers_from k m)
unfolding numbers_from
numbers-within top k zero h = none
numbers-within top k (suc m) h = more {a = k} (omega arith) (numbers-within top (suc k) m (omega arith))

module _ (limits : Limits) (fits : Fitting limits) (x : Sheet) (t : TrueSheet x) (w : WithinLimits limits x.ring (demands (sents x.rows))) where
  count : length x.rows ≤ limits.rows
  count = omega (arith, w.count, demands-length x.rows)

  small : SmallFigures limits.amount x
  small = figures-small limits.amount x t w.amounts

  figures : 2 * limits.amount * length x.rows < limit limits.digits
  figures = omega (arith, mul-le-mul_left (2 * limits.amount) count, fits.figures)

  pub numbers : Each (λ (l : Link). l.link < 100) x.links
  numbers =
      each-of-map (λ (l : Link). l.link) {P = λ k. k < 100} x.links (subst (Each (λ k. k < 100)) (sym t.links) (numbers-within 100 1 x.ring.nodes (omega (arith, fits.narrow.nodes))))

  -- every figure has at most as many digits as a number may have
  pub true-spelled : Spelled limits x
  true-spelled =
      record {
        halves = each (λ r h. record { front = omega (arith, h.halves, fits.narrow.amount, fits.small); back = omega (arith, h.halves, fits.narrow.amount, fits.small) }) small.rows;
        cut = (omega (arith, t.cut.order, t.cut.high, fits.narrow.nodes, fits.small), (omega (arith, t.cut.high, fits.narrow.nodes, fits.small), omega (arith, small.across, figures)));
        loads = each_both (λ l k h. record { link = omega (arith, fits.small); split = omega (arith, h.split, figures); unsplit = omega (arith, h.unsplit, figures) }) numbers small.links;
        last = (omega (arith, small.unsplit_peak, figures), omega (arith, small.size, sizes-small x.ring.family, fits.small));
      }

  pub true-links : length x.links ≡ x.ring.nodes
  true-links = sym (length-map x.links (λ (l : Link). l.link)) ∙ ap length t.links ∙ numbers-length 1 x.ring.nodes

  -- ---- and its lines

  figure : (v : ℕ) → v < limit limits.digits → length (spell Number v) ≤ 8
  figure v h = omega (arith, number-most limits.digits limits.countable v h, fits.digits)

  node : (v : ℕ) → v ≤ x.ring.nodes → length (spell Number v) ≤ 2
  node v h = node-wide limits fits.narrow v (omega (arith, w.many))

  row-short : (r : Routed) → OnRing x.ring.nodes r.sent.demand → SmallRow limits.amount r → length (routed_line r) ≤ 27
  row-short r on h =
      line-wide {ws = 1 ∷ 2 ∷ 2 ∷ 4 ∷ 5 ∷ 5 ∷ 1 ∷ []}
      (wide-field (letter-wide letter_d 0)
      (wide-field (node r.sent.demand.first (omega (arith, on.order, on.high)))
      (wide-field (node r.sent.demand.second (omega (arith, on.high)))
      (wide-field (amount-wide limits fits.narrow r.sent.demand.amount h.amount)
      (wide-field (number-wide 4 r.sent.front (omega arith) (omega (arith, h.halves, fits.narrow.amount)))
      (wide-field (number-wide 4 r.sent.back (omega arith) (omega (arith, h.halves, fits.narrow.amount)))
      (wide-field (way-wide (way_number r.way)) no-field)))))))

  cut-short : length (cut_line x.cut.g x.cut.h x.cut.across) ≤ 17
  cut-short =
      line-wide {ws = 1 ∷ 2 ∷ 2 ∷ 8 ∷ []}
      (wide-field (letter-wide letter_c 0)
      (wide-field (node x.cut.g (omega (arith, t.cut.order, t.cut.high)))
      (wide-field (node x.cut.h (omega (arith, t.cut.high)))
      (wide-field (figure x.cut.across true-spelled.cut.1.1) no-field))))

  link-short : (l : Link) → l.link < 100 → LinkSpelled limits l → length (load_line l) ≤ 23
  link-short l k h =
      line-wide {ws = 1 ∷ 2 ∷ 8 ∷ 8 ∷ []}
      (wide-field (letter-wide letter_l 0)
      (wide-field (number-wide 1 l.link (omega arith) (omega (arith, k)))
      (wide-field (figure l.split h.split)
      (wide-field (figure l.unsplit h.unsplit) no-field))))

  last-short : length (last_line x.unsplit_peak x.size) ≤ 20
  last-short =
      line-wide {ws = 1 ∷ 8 ∷ 8 ∷ []}
      (wide-field (letter-wide letter_z 0) (wide-field (figure x.unsplit_peak true-spelled.last.0) (wide-field (figure x.size true-spelled.last.1) no-field)))

  rows-short : length (flat_map routed_line x.rows) ≤ 27 * length x.rows
  rows-short = lines-most routed_line 27 (each_both row-short (each-of-demands {P = OnRing x.ring.nodes} x.rows w.rows.nodes) small.rows)

  links-short : length (flat_map load_line x.links) ≤ 23 * length x.links
  links-short = lines-most load_line 23 (each_both link-short numbers true-spelled.loads)

  pub true-short : length (write_sheet x) ≤ longest limits
  unfolding write_sheet end_text
  true-short =
      omega (
        arith,
        count,
        w.many,
        true-links,
        length-append (ring_line x.ring) (flat_map routed_line x.rows ++ end_text (figures_of x) x.links),
        length-append (flat_map routed_line x.rows) (end_text (figures_of x) x.links),
        length-append (cut_line x.cut.g x.cut.h x.cut.across) (flat_map load_line x.links ++ last_line x.unsplit_peak x.size),
        length-append (flat_map load_line x.links) (last_line x.unsplit_peak x.size),
        ring-short limits fits.narrow x.ring w.many w.fibres,
        cut-short,
        last-short,
        rows-short,
        links-short,
      )

  -- every true sheet within limits that fit is in range: its figures can be spelled, and a text holds it
  pub true-in-range : InRange limits x
  true-in-range = record { within = w; spelled = true-spelled; links = true-links; short = omega (arith, true-short, fits.bytes) }

-- ---- so is a plan

module _ (limits : Limits) (fits : Fitting limits) (two : 2 ≤ limits.fewest) (ring : Ring) (rs : List Demand) (h : table.InRange limits ring rs) where
  ring-is : (plan ring rs).ring ≡ ring
  unfolding plan
  ring-is = refl

  few : 2 ≤ ring.nodes
  few = omega (arith, two, h.within.few)

  true-plan : TrueSheet (plan ring rs)
  true-plan = plan-true ring rs few h.within.rows

  keeps : WithinLimits limits (plan ring rs).ring (demands (sents (plan ring rs).rows))
  keeps = let e = plan-demands ring rs few h.within.rows in rw (ring-is, e) h.within

  pub plan-within : InRange limits (plan ring rs)
  plan-within = true-in-range limits fits (plan ring rs) true-plan keeps

-- ---- for the desk's limits

pub plan-in-range : (ring : Ring) (rs : List Demand) → table.InRange desk ring rs → InRange desk (plan ring rs)
plan-in-range = plan-within desk desk-fits (omega arith)
