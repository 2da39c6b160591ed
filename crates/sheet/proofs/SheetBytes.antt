-- A line whose shape is wrong has one byte, since a line has one place and one first faulty byte.
use Prim.Native.Nat.{ℕ, ◌+◌, ◌≤◌, ◌<◌, max}
use mathlib.Core.List.{List}
use mathlib.Core.Logic.{◌⊎◌, inl, inr}
use mathlib.Core.Path.{◌≡◌, refl, sym, ◌∙◌, subst}
use native.Mathlib.Omega.{arith}
use native.Mathlib.Decide.{dec_le}
use lib.ListN.{length}
use Rattle.ring.specs.Limits.{Limits}
use Rattle.text.specs.FirstFault.{Agrees, FirstFault}
use Rattle.text.specs.RingLine.{RingFault}
use Rattle.text.proofs.RingLaws.{one-ring-fault}
use Rattle.text.specs.Shapes.{sheet_row_shape, cut_shape, link_shape, last_shape}
use Rattle.text.proofs.LineLaws.{fewer}
use Rattle.lines.proofs.DueBytes.{one-due, one-shape-byte}
use Rattle.lines.specs.DueBytes.{DueByte, ShapeByte}
use Rattle.sheet.specs.Says.{State, start, rows, links, end, At, NeitherGoesOn, LineByte, ring_due, row_or_cut_due, link_due, last_due, none_due}
use Rattle.sheet.proofs.Places.{place-one}

-- ---- a line that is neither D nor C

pub neither : {limits : Limits} {l : List ℕ} {q p : ℕ} → FirstFault limits.digits sheet_row_shape l q → FirstFault limits.digits cut_shape l p → NeitherGoesOn limits l (max q p)
neither {limits} {l} {q} {p} f g =
    elim (dec_le q p) [
      | yes h ↦ let e : max q p ≡ p = omega arith in rw e (record { before = inr g.before; no_row = λ a. f.here (fewer limits.digits limits.countable sheet_row_shape l (q + 1) (p + 1) (omega arith) a); no_cut = g.here })
      | no h ↦ let e : max q p ≡ q = omega arith in rw e (record { before = inl f.before; no_row = f.here; no_cut = λ a. g.here (fewer limits.digits limits.countable cut_shape l (p + 1) (q + 1) (omega arith) a) })
    ]

-- ---- one byte

no_later : {limits : Limits} {l : List ℕ} {p q : ℕ} → NeitherGoesOn limits l p → NeitherGoesOn limits l q → p < q → ⊥
no_later {limits} {l} {p} {q} x y h = go y.before
  where
    go : Agrees limits.digits sheet_row_shape l q ⊎ Agrees limits.digits cut_shape l q → ⊥
    go (inl a) = x.no_row (fewer limits.digits limits.countable sheet_row_shape l (p + 1) q (omega arith) a)
    go (inr a) = x.no_cut (fewer limits.digits limits.countable cut_shape l (p + 1) q (omega arith) a)

one-neither : {limits : Limits} {l : List ℕ} {p q : ℕ} → NeitherGoesOn limits l p → NeitherGoesOn limits l q → p ≡ q
one-neither {p} {q} x y = let a : p < q → ⊥ = no_later x y in let b : q < p → ⊥ = no_later y x in omega arith

-- by what is due
abbrev ByteBy : Limits → List ℕ → ℕ → ℕ → State → Type 0
ByteBy limits t line byte start = DueByte t line (RingFault limits.marks limits.digits) byte
ByteBy limits t line byte (rows ring rs) = DueByte t line (NeitherGoesOn limits) byte
ByteBy limits t line byte (links ring rs c ks) = ((length ks < ring.nodes) × ShapeByte limits t link_shape line byte) ⊎ ((ring.nodes ≤ length ks) × ShapeByte limits t last_shape line byte)
ByteBy limits t line byte (end x) = byte ≡ 1

module _ (limits : Limits) (t : List ℕ) (line : ℕ) where
  one-by : {b c : ℕ} (state : State) → ByteBy limits t line b state → ByteBy limits t line c state → b ≡ c
  one-by start x y = one-due (λ l p q. one-ring-fault limits.digits limits.countable limits.marks l) x y
  one-by (rows ring rs) x y = one-due (λ l p q f g. one-neither f g) x y
  one-by (links ring rs c ks) (inl x) (inl y) = one-shape-byte limits x.1 y.1
  one-by (links ring rs c ks) (inl x) (inr y) = absurd (omega (arith, x.0, y.0))
  one-by (links ring rs c ks) (inr x) (inl y) = absurd (omega (arith, x.0, y.0))
  one-by (links ring rs c ks) (inr x) (inr y) = one-shape-byte limits x.1 y.1
  one-by (end s) e f = e ∙ sym f

module _ {limits : Limits} {t : List ℕ} {line byte : ℕ} where
  byte-place : LineByte limits t line byte → (state : State) × At limits t line state
  byte-place (ring_due at x) = (_, at)
  byte-place (row_or_cut_due at x) = (_, at)
  byte-place (link_due at few x) = (_, at)
  byte-place (last_due at all x) = (_, at)
  byte-place (none_due at e) = (_, at)

  byte-by : {state : State} → At limits t line state → LineByte limits t line byte → ByteBy limits t line byte state
  byte-by at (ring_due at' x) = subst (λ s. ByteBy limits t line byte s) (place-one at' at refl) x
  byte-by at (row_or_cut_due at' x) = subst (λ s. ByteBy limits t line byte s) (place-one at' at refl) x
  byte-by at (link_due at' few x) = subst (λ s. ByteBy limits t line byte s) (place-one at' at refl) (inl (few, x))
  byte-by at (last_due at' all x) = subst (λ s. ByteBy limits t line byte s) (place-one at' at refl) (inr (all, x))
  byte-by at (none_due at' e) = subst (λ s. ByteBy limits t line byte s) (place-one at' at refl) e

pub one-line-byte : {limits : Limits} {t : List ℕ} {line b c : ℕ} → LineByte limits t line b → LineByte limits t line c → b ≡ c
one-line-byte {limits} {t} {line} x y = let place = byte-place x in one-by limits t line place.0 (byte-by place.1 x) (byte-by place.1 y)
