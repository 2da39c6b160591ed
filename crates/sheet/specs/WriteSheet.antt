-- To believe: a sheet as text (Rules, sheets): the R line; D lines; the C line; L lines; Z unsplit-peak size.
use Rattle.std.specs.Prelude.{ℕ, List, ◌++◌}
use Rattle.std.specs.List.{flat_map}
use Rattle.ring.specs.Routing.{way_number}
use Rattle.ring.specs.declared.types.Routed.{Routed}
use Rattle.ring.specs.Sheet.{Sheet, figures_of}
use Rattle.ring.specs.declared.types.Link.{Link}
use Rattle.ring.specs.declared.types.Figures.{Figures}
use Rattle.text.specs.Shapes.{sheet_row_line, cut_line, link_line, last_line}
use Rattle.text.specs.RingLine.{ring_line}

-- D i j amount front back F-or-B
abbrev pub routed_line : Routed → List ℕ
routed_line r = sheet_row_line r.sent.demand.first r.sent.demand.second r.sent.demand.amount r.sent.front r.sent.back (way_number r.way)

-- L link split-load unsplit-load
abbrev pub load_line : Link → List ℕ
load_line l = link_line l.link l.split l.unsplit

-- C g h across; L lines; Z unsplit-peak size
unfoldable pub end_text : Figures → List Link → List ℕ
end_text x links = cut_line x.cut.g x.cut.h x.cut.across ++ (flat_map load_line links ++ last_line x.unsplit_peak x.size)

-- the R line; D lines; then these
unfoldable pub write_sheet : Sheet → List ℕ
unfolding end_text
write_sheet x = ring_line x.ring ++ (flat_map routed_line x.rows ++ end_text (figures_of x) x.links)
