-- Writing a sheet: its R line, its D lines, its C line, its L lines and its Z line, each behind the one before.
use Prim.Native.Nat.{ℕ, ◌+◌, ◌*◌, ◌≤◌}
use mathlib.Core.List.{List, [], ◌∷◌, ◌++◌}
use mathlib.Core.Path.{◌≡◌, refl}
use native.Mathlib.Omega.{arith}
use lib.ListN.{length, length-append}
use Rattle.ring.specs.Limits.{desk}
use Rattle.ring.specs.Routing.{way_number}
use Rattle.ring.specs.declared.types.Routed.{Routed}
use Rattle.ring.specs.declared.types.Link.{Link}
use Rattle.text.specs.Pass.{PassLaws}
use Rattle.text.specs.Written.{Passed}
use Rattle.text.specs.RingLine.{ring_line}
use Rattle.text.specs.Shapes.{sheet_row_shape, cut_shape, link_shape, last_shape, cut_line, last_line}
use Rattle.text.proofs.RingLaws.{ring-line-short}
use Rattle.text.proofs.Lengths.{line-short}
use Rattle.text.proofs.Going.{Going, going-start, piece-fits, going-on}
use Rattle.ring.specs.Sheet.{sheet_in}
use Rattle.sheet.specs.WriteSheet.{routed_line, load_line, end_text, write_sheet}
use Rattle.ring.specs.declared.types.Figures.{Figures}
use Rattle.std.specs.List.{flat_map}

-- ---- the lines of a list's members, one behind the other

module _ {A : Type 0} (line : A → List ℕ) where
  pub no-lines : (l : List A) → l ≡ [] → flat_map line l ≡ []
  no-lines l e = rw e

  -- the line of the first, and those of the others
  pub next-line : (l rest : List A) (x : A) → l ≡ x ∷ rest → flat_map line l ≡ line x ++ flat_map line rest
  next-line l rest x e = rw e

  lines-short : ((x : A) → length (line x) ≤ 1000) → (l : List A) → length (flat_map line l) ≤ 1000 * length l
  lines-short short [] = omega arith
  lines-short short (x ∷ l) = omega (arith, length-append (line x) (flat_map line l), short x, lines-short short l)

-- ---- the five parts of a sheet

module _ (x : Figures) (rs : List Routed) (ls : List Link) where
  abbrev ring : List ℕ
  ring = ring_line x.ring

  abbrev cut : List ℕ
  cut = cut_line x.cut.g x.cut.h x.cut.across

  abbrev last : List ℕ
  last = last_line x.unsplit_peak x.size

  abbrev rows : List ℕ
  rows = flat_map routed_line rs

  abbrev links : List ℕ
  links = flat_map load_line ls

  abbrev whole : List ℕ
  whole = write_sheet (sheet_in x rs ls)

  row-short : (r : Routed) → length (routed_line r) ≤ 1000
  row-short r = omega (arith, line-short sheet_row_shape (0 ∷ r.sent.demand.first ∷ r.sent.demand.second ∷ r.sent.demand.amount ∷ r.sent.front ∷ r.sent.back ∷ way_number r.way ∷ []))

  link-short : (l : Link) → length (load_line l) ≤ 1000
  link-short l = omega (arith, line-short link_shape (0 ∷ l.link ∷ l.split ∷ l.unsplit ∷ []))

  -- so few lines can be measured
  pub sheet-short : length rs ≤ desk.rows → length ls ≤ desk.nodes → length (write_sheet (sheet_in x rs ls)) ≤ 18446744073709551615
  unfolding write_sheet end_text
  sheet-short few small =
      omega (
        arith,
        length-append ring (rows ++ (cut ++ (links ++ last))),
        length-append rows (cut ++ (links ++ last)),
        length-append cut (links ++ last),
        length-append links last,
        ring-line-short x.ring,
        line-short cut_shape (0 ∷ x.cut.g ∷ x.cut.h ∷ x.cut.across ∷ []),
        line-short last_shape (0 ∷ x.unsplit_peak ∷ x.size ∷ []),
        lines-short routed_line row-short rs,
        lines-short load_line link-short ls,
      )

  -- each part has its room, and behind it the next is to come
  module _ {room : List ℕ → ℕ} {after : List ℕ → ℕ → List ℕ → List ℕ} (pass : PassLaws room after) {old : List ℕ} (fits : length (write_sheet (sheet_in x rs ls)) ≤ room old) where
    abbrev Before : List ℕ → ℕ → List ℕ → Type 0
    Before buffer next rest = Going room after old 0 whole buffer next rest

    at-ring : Before old 0 (ring ++ (rows ++ (cut ++ (links ++ last))))
    unfolding write_sheet end_text
    at-ring = going-start pass old 0 whole (omega (arith, fits))

    pub ring-placed : 0 + length (ring_line x.ring) ≤ room old
    ring-placed = piece-fits pass at-ring ring _ refl

    module _ {a : List ℕ} {p : ℕ} (u : Passed after old 0 (ring_line x.ring) a p) where
      at-rows : Before a p (rows ++ (cut ++ (links ++ last)))
      at-rows = going-on pass at-ring ring _ refl a p u

      pub rows-placed : p + length (flat_map routed_line rs) ≤ room a
      rows-placed = piece-fits pass at-rows rows _ refl

      module _ {b : List ℕ} {q : ℕ} (v : Passed after a p (flat_map routed_line rs) b q) where
        at-cut : Before b q (cut ++ (links ++ last))
        at-cut = going-on pass at-rows rows _ refl b q v

        pub cut-placed : q + length (cut_line x.cut.g x.cut.h x.cut.across) ≤ room b
        cut-placed = piece-fits pass at-cut cut _ refl

        module _ {c : List ℕ} {r : ℕ} (w : Passed after b q (cut_line x.cut.g x.cut.h x.cut.across) c r) where
          at-links : Before c r (links ++ last)
          at-links = going-on pass at-cut cut _ refl c r w

          pub links-placed : r + length (flat_map load_line ls) ≤ room c
          links-placed = piece-fits pass at-links links _ refl

          -- the last line alone is to come
          pub at-last : {d : List ℕ} {s : ℕ} → Passed after c r (flat_map load_line ls) d s → Going room after old 0 (write_sheet (sheet_in x rs ls)) d s (last_line x.unsplit_peak x.size)
          at-last {d} {s} z = going-on pass at-links links _ refl d s z
