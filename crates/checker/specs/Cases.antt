-- Examples: rings small enough to be worked out by hand (Rules, stated cases): one list, each case by its texts and what is said besides; and the answers to
-- them all, as they are stated and as the definitions have them.
use Rattle.std.specs.Prelude.{ℕ, ◌+◌, ◌*◌, min, cond, List, [], ◌∷◌, ◌++◌, map, leb, eqb, ◌≡◌, Result, Ok, Err}
use Prim.Native.String.{String}
use Rattle.ring.specs.Cut.{across}
use Rattle.ring.specs.Limits.{desk}
use Rattle.ring.specs.Routing.{routed, unsplit_load, peak}
use Rattle.ring.specs.declared.types.Sent.{Sent}
use Rattle.ring.specs.declared.types.Routed.{Routed}
use Rattle.ring.specs.declared.types.Way.TheVariants.{Front, Back}
use Rattle.ring.specs.RuleA.{rule_a}
use Rattle.ring.specs.RuleB.{rule_b, send_all}
use Rattle.ring.specs.RuleC.{rule_c}
use Rattle.ring.specs.RuleD.{rule_d}
use Rattle.engines.specs.declared.Engine.{Engine}
use Rattle.engines.specs.declared.Engine.TheVariants.{Level, Lowered}
use Rattle.engines.specs.Engine.{plan_by}
use Rattle.engines.specs.Lowering.{lowered_rooms}
use Rattle.ring.specs.Sheet.{Sheet, sents, demands, sheet_of, split_peak, unsplit_peak, largest_split_of}
use Rattle.reasons.specs.Reasons.{number_of}
use Rattle.table.specs.ReadTable.{Table, table_of}
use Rattle.reasons.specs.declared.reason.Refusal.{Refusal}
use Rattle.sheet.specs.WriteSheet.{write_sheet}
use Rattle.sheet.specs.Read.{read_sheet}
use Rattle.checker.specs.Check.{check}
use Rattle.checker.specs.Printed.{printed}

infixl 70 ◌&◌
-- front & back, in halves
pub data FrontBack : Type 0 where
  ◌&◌ : ℕ → ℕ → FrontBack

infix 70 ◌at-most◌plus◌
infix 70 ◌above◌plus◌
-- what is stated of a sheet besides its text
pub data Claim : Type 0 where
  -- the largest across number of its demands
  M_is : ℕ → Claim
  -- fronts and backs as rule B sends its demands, before rule C
  sent_by_B : List FrontBack → Claim
  -- the split peak and the demand across the cut are the same, or (13) are not
  tight : ℕ → ℕ → Claim
  not_tight : ℕ → ℕ → Claim
  -- twice the unsplit peak is at most the split peak plus 3D, or (14) is above that
  ◌at-most◌plus◌ : ℕ → ℕ → ℕ → Claim
  ◌above◌plus◌ : ℕ → ℕ → ℕ → Claim
  -- the least unsplit peak over all choices of ways for its demands
  best_peak_is : ℕ → Claim

-- the lines of a text, with tabs shown as |
abbrev pub Text : Type 0
Text = List String

pub data Case : Type 0 where
  -- an engine and a table; the sheet that is routed for it by rule D, which the checker accepts; and what is stated of that sheet
  plan_case : Engine → Text → Text → List Claim → Case
  -- a sheet; the reason, the line and the byte that the checker refuses it with; and what is stated of it
  refusal_case : Text → ℕ → ℕ → ℕ → List Claim → Case

-- the list
unfoldable pub cases : List Case
cases =
    -- the square
    plan_case Level ("R|4|4" ∷ "D|1|3|1" ∷ "D|2|4|1" ∷ [])
    ("R|4|4" ∷ "D|1|3|1|1|1|F" ∷ "D|2|4|1|1|1|B" ∷ "C|1|3|2" ∷ "L|1|2|2" ∷ "L|2|2|1" ∷ "L|3|2|0" ∷ "L|4|2|1" ∷ "Z|2|3" ∷ [])
    (M_is 2 ∷ 4 at-most 2 plus 3 ∷ []) ∷
    -- n = 2, no rows
    plan_case Level ("R|2|4" ∷ [])
    ("R|2|4" ∷ "C|1|2|0" ∷ "L|1|0|0" ∷ "L|2|0|0" ∷ "Z|0|3" ∷ [])
    [] ∷
    -- n = 2, 1-2 of 5
    plan_case Level ("R|2|4" ∷ "D|1|2|5" ∷ [])
    ("R|2|4" ∷ "D|1|2|5|5|5|F" ∷ "C|1|2|5" ∷ "L|1|5|5" ∷ "L|2|5|0" ∷ "Z|5|12" ∷ [])
    [] ∷
    -- n = 4, 1-2 of 1
    plan_case Level ("R|4|4" ∷ "D|1|2|1" ∷ [])
    ("R|4|4" ∷ "D|1|2|1|1|1|F" ∷ "C|1|2|1" ∷ "L|1|1|1" ∷ "L|2|1|0" ∷ "L|3|1|0" ∷ "L|4|1|0" ∷ "Z|1|3" ∷ [])
    [] ∷
    -- six demands between five offices: rule B splits 1-4 as 6/4 and 2-4 as 4/18
    plan_case Level ("R|5|4" ∷ "D|1|2|2" ∷ "D|1|4|5" ∷ "D|2|3|9" ∷ "D|2|4|11" ∷ "D|3|4|4" ∷ "D|3|5|3" ∷ [])
    ("R|5|4" ∷ "D|1|2|2|4|0|F" ∷ "D|1|4|5|0|10|B" ∷ "D|2|3|9|18|0|F" ∷ "D|2|4|11|10|12|B" ∷ "D|3|4|4|8|0|F" ∷ "D|3|5|3|6|0|F" ∷
    "C|2|4|28" ∷ "L|1|16|13" ∷ "L|2|28|9" ∷ "L|3|24|7" ∷ "L|4|28|19" ∷ "L|5|22|16" ∷ "Z|19|48" ∷ [])
    (sent_by_B (4 & 0 ∷ 6 & 4 ∷ 18 & 0 ∷ 4 & 18 ∷ 8 & 0 ∷ 6 & 0 ∷ []) ∷ []) ∷
    -- two short rows inside two longer ones: the best possible peak is 3, ours is 4 and within the bound
    plan_case Level ("R|8|4" ∷ "D|1|4|1" ∷ "D|2|3|1" ∷ "D|5|8|2" ∷ "D|6|7|2" ∷ [])
    ("R|8|4" ∷ "D|1|4|1|2|0|F" ∷ "D|2|3|1|2|0|F" ∷ "D|5|8|2|4|0|F" ∷ "D|6|7|2|2|2|F" ∷ "C|2|6|6" ∷
    "L|1|4|1" ∷ "L|2|6|2" ∷ "L|3|4|1" ∷ "L|4|2|0" ∷ "L|5|6|2" ∷ "L|6|6|4" ∷ "L|7|6|2" ∷ "L|8|2|0" ∷ "Z|4|12" ∷ [])
    (best_peak_is 3 ∷ 8 at-most 6 plus 6 ∷ []) ∷
    -- the six and the four with lowered rooms: of the six the same sheet, of the four 5-8 is split and 6-7 is not
    plan_case Lowered ("R|5|4" ∷ "D|1|2|2" ∷ "D|1|4|5" ∷ "D|2|3|9" ∷ "D|2|4|11" ∷ "D|3|4|4" ∷ "D|3|5|3" ∷ [])
    ("R|5|4" ∷ "D|1|2|2|4|0|F" ∷ "D|1|4|5|0|10|B" ∷ "D|2|3|9|18|0|F" ∷ "D|2|4|11|10|12|B" ∷ "D|3|4|4|8|0|F" ∷ "D|3|5|3|6|0|F" ∷
    "C|2|4|28" ∷ "L|1|16|13" ∷ "L|2|28|9" ∷ "L|3|24|7" ∷ "L|4|28|19" ∷ "L|5|22|16" ∷ "Z|19|48" ∷ [])
    [] ∷
    plan_case Lowered ("R|8|4" ∷ "D|1|4|1" ∷ "D|2|3|1" ∷ "D|5|8|2" ∷ "D|6|7|2" ∷ [])
    ("R|8|4" ∷ "D|1|4|1|2|0|F" ∷ "D|2|3|1|2|0|F" ∷ "D|5|8|2|2|2|F" ∷ "D|6|7|2|4|0|F" ∷ "C|2|6|6" ∷
    "L|1|4|1" ∷ "L|2|6|2" ∷ "L|3|4|1" ∷ "L|4|2|0" ∷ "L|5|2|2" ∷ "L|6|6|4" ∷ "L|7|2|2" ∷ "L|8|2|0" ∷ "Z|4|12" ∷ [])
    [] ∷
    -- n = 2, 1-2 of 768
    plan_case Level ("R|2|4" ∷ "D|1|2|768" ∷ [])
    ("R|2|4" ∷ "D|1|2|768|768|768|F" ∷ "C|1|2|768" ∷ "L|1|768|768" ∷ "L|2|768|0" ∷ "Z|768|768" ∷ [])
    [] ∷
    -- of 769
    plan_case Level ("R|2|4" ∷ "D|1|2|769" ∷ [])
    ("R|2|4" ∷ "D|1|2|769|769|769|F" ∷ "C|1|2|769" ∷ "L|1|769|769" ∷ "L|2|769|0" ∷ "Z|769|0" ∷ [])
    [] ∷
    -- n = 4, 1-2 of 1 sent 0/2, B, with cut 1, 2 across 1 and true figures: 13
    refusal_case ("R|4|4" ∷ "D|1|2|1|0|2|B" ∷ "C|1|2|1" ∷ "L|1|0|0" ∷ "L|2|2|1" ∷ "L|3|2|1" ∷ "L|4|2|1" ∷ "Z|1|3" ∷ [])
    13 0 0
    (not_tight 2 1 ∷ 2 at-most 2 plus 0 ∷ []) ∷
    -- n = 8, rows k to k+4 for k = 1..4 of 1, each 1/1, all F, cut 4, 8 across 4, true figures: unsplit peak 4, 8 > 4 + 3, so 14
    refusal_case
    ("R|8|4" ∷ "D|1|5|1|1|1|F" ∷ "D|2|6|1|1|1|F" ∷ "D|3|7|1|1|1|F" ∷ "D|4|8|1|1|1|F" ∷ "C|4|8|4" ∷
    "L|1|4|1" ∷ "L|2|4|2" ∷ "L|3|4|3" ∷ "L|4|4|4" ∷ "L|5|4|3" ∷ "L|6|4|2" ∷ "L|7|4|1" ∷ "L|8|4|0" ∷ "Z|4|12" ∷ [])
    14 0 0
    (tight 4 4 ∷ 8 above 4 plus 3 ∷ []) ∷
    -- three circuits between offices 1 and 3 of the square, of which rule B splits the second
    plan_case Level ("R|4|4" ∷ "D|1|3|1" ∷ "D|1|3|1" ∷ "D|1|3|1" ∷ "D|2|4|1" ∷ [])
    ("R|4|4" ∷ "D|1|3|1|2|0|F" ∷ "D|1|3|1|1|1|F" ∷ "D|1|3|1|0|2|B" ∷ "D|2|4|1|1|1|B" ∷ "C|1|3|4" ∷
    "L|1|4|3" ∷ "L|2|4|2" ∷ "L|3|4|1" ∷ "L|4|4|2" ∷ "Z|3|3" ∷ [])
    (M_is 4 ∷ 6 at-most 4 plus 3 ∷ []) ∷
    -- a row below the row before, behind one of the same nodes: 6
    refusal_case ("R|4|4" ∷ "D|1|3|1|1|1|F" ∷ "D|1|3|1|1|1|B" ∷ "D|1|2|1|2|0|F" ∷ [])
    6 4 1
    [] ∷
    -- n = 2, 1-2 of 384 on two fibres: twice 384 is 768
    plan_case Level ("R|2|2" ∷ "D|1|2|384" ∷ [])
    ("R|2|2" ∷ "D|1|2|384|384|384|F" ∷ "C|1|2|384" ∷ "L|1|384|384" ∷ "L|2|384|0" ∷ "Z|384|768" ∷ [])
    [] ∷
    -- of 385: no size is at least 770
    plan_case Level ("R|2|2" ∷ "D|1|2|385" ∷ [])
    ("R|2|2" ∷ "D|1|2|385|385|385|F" ∷ "C|1|2|385" ∷ "L|1|385|385" ∷ "L|2|385|0" ∷ "Z|385|0" ∷ [])
    [] ∷
    -- the square on two fibres: only its R line and its Z line differ
    plan_case Level ("R|4|2" ∷ "D|1|3|1" ∷ "D|2|4|1" ∷ [])
    ("R|4|2" ∷ "D|1|3|1|1|1|F" ∷ "D|2|4|1|1|1|B" ∷ "C|1|3|2" ∷ "L|1|2|2" ∷ "L|2|2|1" ∷ "L|3|2|0" ∷ "L|4|2|1" ∷ "Z|2|12" ∷ [])
    [] ∷
    -- the square on two fibres with the size for four: 12
    refusal_case ("R|4|2" ∷ "D|1|3|1|1|1|F" ∷ "D|2|4|1|1|1|B" ∷ "C|1|3|2" ∷ "L|1|2|2" ∷ "L|2|2|1" ∷ "L|3|2|0" ∷ "L|4|2|1" ∷ "Z|2|3" ∷ [])
    12 9 1
    [] ∷
    -- three fibres: 20, but 3 where n is wrong too; without the number the line has the wrong shape: 2
    refusal_case ("R|4|3" ∷ [])
    20 1 5
    [] ∷
    refusal_case ("R|65|3" ∷ [])
    3 1 3
    [] ∷
    refusal_case ("R|4" ∷ "C|1|2|0" ∷ [])
    2 1 4
    [] ∷
    -- SDH, four fibres, n = 2, 1-2 of 256: size 256
    plan_case Level ("R|2|4|M" ∷ "D|1|2|256" ∷ [])
    ("R|2|4|M" ∷ "D|1|2|256|256|256|F" ∷ "C|1|2|256" ∷ "L|1|256|256" ∷ "L|2|256|0" ∷ "Z|256|256" ∷ [])
    [] ∷
    -- of 257: no SDH size is at least that
    plan_case Level ("R|2|4|M" ∷ "D|1|2|257" ∷ [])
    ("R|2|4|M" ∷ "D|1|2|257|257|257|F" ∷ "C|1|2|257" ∷ "L|1|257|257" ∷ "L|2|257|0" ∷ "Z|257|0" ∷ [])
    [] ∷
    -- on two fibres, of 128: twice 128 is 256
    plan_case Level ("R|2|2|M" ∷ "D|1|2|128" ∷ [])
    ("R|2|2|M" ∷ "D|1|2|128|128|128|F" ∷ "C|1|2|128" ∷ "L|1|128|128" ∷ "L|2|128|0" ∷ "Z|128|256" ∷ [])
    [] ∷
    -- of 129: no SDH size is at least 258
    plan_case Level ("R|2|2|M" ∷ "D|1|2|129" ∷ [])
    ("R|2|2|M" ∷ "D|1|2|129|129|129|F" ∷ "C|1|2|129" ∷ "L|1|129|129" ∷ "L|2|129|0" ∷ "Z|129|0" ∷ [])
    [] ∷
    -- the square as an SDH ring: only its R line and its Z line differ
    plan_case Level ("R|4|4|M" ∷ "D|1|3|1" ∷ "D|2|4|1" ∷ [])
    ("R|4|4|M" ∷ "D|1|3|1|1|1|F" ∷ "D|2|4|1|1|1|B" ∷ "C|1|3|2" ∷ "L|1|2|2" ∷ "L|2|2|1" ∷ "L|3|2|0" ∷ "L|4|2|1" ∷ "Z|2|4" ∷ [])
    [] ∷
    -- with the size of a SONET ring: 12
    refusal_case ("R|4|4|M" ∷ "D|1|3|1|1|1|F" ∷ "D|2|4|1|1|1|B" ∷ "C|1|3|2" ∷ "L|1|2|2" ∷ "L|2|2|1" ∷ "L|3|2|0" ∷ "L|4|2|1" ∷ "Z|2|3" ∷ [])
    12 9 1
    [] ∷
    -- an SDH ring of 65 offices: 3; of three fibres: 20; another letter, or none behind the tab: 2 where M should stand; M in front of the fibres: 2 there
    refusal_case ("R|65|4|M" ∷ [])
    3 1 3
    [] ∷
    refusal_case ("R|4|3|M" ∷ [])
    20 1 5
    [] ∷
    refusal_case ("R|4|4|m" ∷ [])
    2 1 7
    [] ∷
    refusal_case ("R|4|4|" ∷ [])
    2 1 7
    [] ∷
    refusal_case ("R|4|M|4" ∷ [])
    2 1 5
    [] ∷
    []

-- ---- what is true of a sheet, in place of a claim

-- the fronts and backs of a split routing
abbrev halves : List Sent → List FrontBack
halves ss = map (λ (s : Sent). s.front & s.back) ss

-- is the split peak the across number?
abbrev tightness : Sheet → Claim
tightness x =
    let s = split_peak x in
    let m = across (demands (sents x.rows)) x.cut.g x.cut.h in
    cond (eqb s m) (tight s m) (not_tight s m)

-- does the bound of rule D hold?
abbrev bound : Sheet → Claim
bound x =
    let u = 2 * unsplit_peak x in
    let s = split_peak x in
    let d = 3 * largest_split_of x in
    cond (leb u (s + d)) (u at-most s plus d) (u above s plus d)

-- the least peak over all ways of the demands ss, those of the rows rs being chosen
unfoldable pub best_peak : ℕ → List Routed → List Sent → ℕ
unfolding peak unsplit_load
best_peak n rs [] = peak (unsplit_load rs) n
best_peak n rs (s ∷ ss) = min (best_peak n (routed s Front ∷ rs) ss) (best_peak n (routed s Back ∷ rs) ss)

unfoldable pub truth : Sheet → Claim → Claim
unfolding across rule_a rule_b best_peak peak
truth x (M_is m) = M_is (rule_a x.ring.nodes (demands (sents x.rows))).across
truth x (sent_by_B hs) = sent_by_B (halves (rule_b x.ring.nodes (demands (sents x.rows))))
truth x (tight s m) = tightness x
truth x (not_tight s m) = tightness x
truth x (u at-most s plus d) = bound x
truth x (u above s plus d) = bound x
truth x (best_peak_is p) = best_peak_is (best_peak x.ring.nodes [] (sents x.rows))

-- ---- the answers

-- the text of a sheet; Y; E, a reason, a line and a byte; or a claim
pub data CaseAnswer : Type 0 where
  text : List ℕ → CaseAnswer
  Y : CaseAnswer
  E : ℕ → ℕ → ℕ → CaseAnswer
  claim : Claim → CaseAnswer

-- to what was read; or the refusal
unfoldable pub answer_to : {A : Type 0} → (A → CaseAnswer) → Result A Refusal → CaseAnswer
answer_to answer (Ok x) = answer x
answer_to answer (Err r) = E (number_of r.reason) r.line r.byte

-- the router's
unfoldable pub routing : Engine → Result Table Refusal → CaseAnswer
unfolding answer_to rule_a rule_b send_all lowered_rooms rule_c rule_d sheet_of write_sheet
routing engine read = answer_to (λ (x : Table). text (write_sheet (plan_by engine x.0 x.1))) read

-- the checker's
unfoldable pub checking : Result Sheet Refusal → CaseAnswer
unfolding answer_to
checking read = answer_to (λ x. Y) read

-- to a claim: any well-formed sheet can be asked, true or not
unfoldable pub claiming : Result Sheet Refusal → Claim → CaseAnswer
unfolding answer_to truth
claiming read c = answer_to (λ x. claim (truth x c)) read

-- all answers as they are stated
unfoldable pub stated : List Case → List CaseAnswer
unfolding printed
stated [] = []
stated (plan_case engine table sheet claims ∷ cs) = text (printed sheet) ∷ Y ∷ map claim claims ++ stated cs
stated (refusal_case sheet reason line byte claims ∷ cs) = E reason line byte ∷ map claim claims ++ stated cs

-- and as the definitions have them
unfoldable pub computed : List Case → List CaseAnswer
unfolding printed table_of routing check checking read_sheet claiming
computed [] = []
computed (plan_case engine table sheet claims ∷ cs) =
    routing engine (table_of desk (printed table)) ∷ checking (check desk (printed sheet)) ∷
    map (claiming (read_sheet desk (printed sheet))) claims ++ computed cs
computed (refusal_case sheet reason line byte claims ∷ cs) =
    checking (check desk (printed sheet)) ∷ map (claiming (read_sheet desk (printed sheet))) claims ++ computed cs

-- they are the same
abbrev pub CasesHold : Type 0
CasesHold = computed cases ≡ stated cases
