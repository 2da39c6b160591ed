-- Internal: what is answered to a sheet's text beside the rows and the links that are lent.
use Rattle.std.specs.Prelude.{List, Result, Ok}
use Rattle.ring.specs.declared.types.Routed.{Routed}
use Rattle.ring.specs.declared.types.Link.{Link}
use Rattle.reasons.specs.AndThen.{and_then}
use Rattle.reasons.specs.declared.reason.Refusal.{Refusal}
use Rattle.ring.specs.Sheet.{Sheet, sheet_in}
use Rattle.ring.specs.declared.types.Figures.{Figures}

-- the sheet of figures that were read and of the rows and the links that stand beside them; or the refusal
abbrev pub with_values : List Routed → List Link → Result Figures Refusal → Result Sheet Refusal
with_values rs ls x = and_then x λ figures. Ok (sheet_in figures rs ls)
