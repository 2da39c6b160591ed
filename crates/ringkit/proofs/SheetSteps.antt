-- The calls that read a sheet: what checking answers gives each way out, beside the rows and the links that it read.
use Prim.Native.Nat.{ℕ, ◌≤◌}
use mathlib.Core.List.{List}
use lib.ListN.{length}
use native.Mathlib.Omega.{arith}
use mathlib.Core.Path.{◌≡◌, ap, ◌∙◌, sym}
use Rattle.std.specs.Prelude.{Result as Either, Ok, Err}
use Rattle.ring.specs.Limits.{desk}
use Rattle.ring.specs.Sheet.{Sheet, sents, sheet_in}
use Rattle.ring.specs.declared.types.Link.{Link}
use Rattle.ring.specs.declared.types.Routed.{Routed}
use Rattle.reasons.specs.AndThen.{and_then}
use Rattle.reasons.specs.declared.reason.Refusal.{Refusal}
use Rattle.sheet.specs.ReadInto.{with_values}
use Rattle.sheet.specs.WriteSheet.{write_sheet}
use Rattle.sheet.specs.Range.{InRange}
use Rattle.ring.specs.declared.types.Figures.{Figures}
use Rattle.checker.specs.Check.{check}
use Rattle.crossing.specs.FindPair.{first_pair}
use Rattle.crossing.specs.declared.pair.Pair.{Pair}
use Rattle.checker.proofs.Reasons.{check-text}
use Rattle.ringkit.specs.Says.{Answer}
use Rattle.ringkit.specs.Outcome.{Fills}
use Rattle.ringkit.specs.SheetCalls.{sheet_checked, sheet_parallel, sheet_afresh}
use Rattle.ringkit.proofs.FillSteps.{refuses}
use Rattle.ring.proofs.Small.{demands-length}

module _ (s : List ℕ) (rs : List Routed) (ls : List Link) (answer : Either Figures Refusal) (e : with_values rs ls answer ≡ check desk s) where
  module _ (x : Refusal) (a : answer ≡ Err x) where
    told-refusal : check desk s ≡ with_values rs ls (Err x)
    told-refusal = sym e ∙ ap (with_values rs ls) a

    -- whatever is due to an accepted sheet
    pub sheet-refused : {A : Type 0} (next : Sheet → Either A Refusal) → Err x ≡ and_then (check desk s) next
    sheet-refused next = rw told-refusal

    pub afresh-refused : (old : List ℕ) → Fills (sheet_afresh s) old old (Err x)
    afresh-refused old = refuses (sheet_afresh s) old x (sym (sheet-refused λ y. Ok (write_sheet y)))

  module _ (x : Figures) (a : answer ≡ Ok x) where
    told : check desk s ≡ with_values rs ls (Ok x)
    told = sym e ∙ ap (with_values rs ls) a

    pub check-accepted : Ok tt ≡ sheet_checked s
    check-accepted = rw told

    range : InRange desk (sheet_in x rs ls)
    range = ((check-text s (sheet_in x rs ls)).0 told).1.0

    -- there are few enough links and rows to be handed on
    pub links-there : length ls ≤ desk.nodes
    links-there = let m = range.within.many in let h = range.links in omega arith

    pub rows-there : length rs ≤ desk.rows
    rows-there = omega (arith, range.within.count, demands-length rs)

    pub pair-found : (pair : Pair) → pair ≡ first_pair (sents rs) → Ok pair ≡ sheet_parallel s
    pair-found pair is = rw (told, is)

    pub sheet-fills : (old new : List ℕ) (r : Answer) → Fills (Ok (write_sheet (sheet_in x rs ls))) old new r → Fills (sheet_afresh s) old new r
    sheet-fills old new r f = rw told f
