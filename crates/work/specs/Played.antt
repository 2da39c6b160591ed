-- To believe: a whole list of calls, played over the list of places: the table behind it, and the cut that its last accepted answer named.
use Rattle.std.specs.Prelude.{Ok, Err, List, [], ◌∷◌, ◌≡◌}
use Rattle.family.specs.declared.family.Family.TheVariants.{Sonet}
use Rattle.ring.specs.Ring.{ring_of}
use Rattle.ring.specs.declared.types.Cut.{Cut}
use Rattle.work.specs.Places.{PlaceTable, table_held}
use Rattle.work.specs.Calls.{Call, WorkAnswer, fresh_table, Does}
use Rattle.work.specs.declared.Work.{Work}

-- an accepted answer names a cut; a refusal leaves the one named before
abbrev pub named_by : WorkAnswer → Cut → Cut
named_by (Ok placed) c = placed.cut
named_by (Err reason) c = c

-- the table and the cut behind a list of calls, the last of them first; before any call there is no ring, no row and no cut
pub data Played : List Call → PlaceTable → Cut → Type 0 where
  at_first : Played [] (fresh_table (ring_of 0 0 Sonet)) (record { g = 0; h = 0; across = 0 })
  then : {cs : List Call} {t u : PlaceTable} {d : Cut} {c : Call} {a : WorkAnswer} → Played cs t d → Does t c a u → Played (c ∷ cs) u (named_by a d)

-- a struct is as the calls played, which lead to its table and its cut, and to no other
pub record AsPlayed (cs : List Call) (w : Work) : Type 0 where
  pub leads : Played cs (table_held w) w.cut
  pub table : (t : PlaceTable) (d : Cut) → Played cs t d → t ≡ table_held w
  pub cut : (t : PlaceTable) (d : Cut) → Played cs t d → d ≡ w.cut

-- the list of places gives the answer a to a call behind those played, and no other
pub record AnswerAfter (cs : List Call) (c : Call) (a : WorkAnswer) : Type 0 where
  pub t : PlaceTable
  pub u : PlaceTable
  pub d : Cut
  pub leads : Played cs t d
  pub does : Does t c a u
  pub only : (t u : PlaceTable) (d : Cut) (b : WorkAnswer) → Played cs t d → Does t c b u → b ≡ a
