-- Examples: tables small enough to be turned by hand (Rules, one turn at a time): one list, each with its answer and the peak of rule D beside it; and the answers
-- to them all, as they are stated and as the definitions have them.
use Rattle.std.specs.Prelude.{ℕ, List, [], ◌∷◌, map, ◌≡◌}
use Rattle.ring.specs.declared.types.Demand.{Demand}
use Rattle.ring.specs.declared.types.Routed.{Routed}
use Rattle.ring.specs.declared.types.Way.{Way}
use Rattle.ring.specs.declared.types.Way.TheVariants.{Front, Back}
use Rattle.ring.specs.Demand.{demand}
use Rattle.ring.specs.RuleB.{rule_b}
use Rattle.ring.specs.RuleC.{rule_c}
use Rattle.ring.specs.RuleD.{rule_d}
use Rattle.ring.specs.Sheet.{unsplit_routing}
use Rattle.turns.specs.declared.Turned.{Turned}
use Rattle.turns.specs.Turns.{peak_of, least_start}

-- a table, its answer, and the peak that rule D gives it
pub record Case : Type 0 where
  pub nodes : ℕ
  pub rows : List Demand
  pub ways : List Way
  pub figures : Turned
  pub peak_of_rule_d : ℕ

infix 70 peak◌link◌turns◌
abbrev pub peak◌link◌turns◌ : ℕ → ℕ → ℕ → Turned
peak p link a turns t = record { peak = p; link = a; turns = t }

abbrev pub case : ℕ → List Demand → List Way → Turned → ℕ → Case
case n rs ways figures d = record { nodes = n; rows = rs; ways = ways; figures = figures; peak_of_rule_d = d }

-- the list
unfoldable pub cases : List Case
cases =
    -- six demands between five offices
    case 5 (demand 1 2 2 ∷ demand 1 4 5 ∷ demand 2 3 9 ∷ demand 2 4 11 ∷ demand 3 4 4 ∷ demand 3 5 3 ∷ [])
    (Back ∷ Front ∷ Front ∷ Back ∷ Front ∷ Front ∷ []) (peak 16 link 1 turns 4) 19 ∷
    -- two short rows inside two longer ones
    case 8 (demand 1 4 1 ∷ demand 2 3 1 ∷ demand 5 8 2 ∷ demand 6 7 2 ∷ [])
    (Back ∷ Front ∷ Back ∷ Front ∷ []) (peak 3 link 5 turns 1) 4 ∷
    -- of equal lists the earlier row is turned
    case 4 (demand 2 3 4 ∷ demand 2 3 4 ∷ []) (Back ∷ Front ∷ []) (peak 4 link 1 turns 1) 4 ∷
    -- a list that runs out first is the smaller
    case 3 (demand 1 2 2 ∷ demand 1 3 3 ∷ demand 1 3 2 ∷ []) (Front ∷ Back ∷ Front ∷ []) (peak 4 link 1 turns 2) 5 ∷
    -- of equal peaks the smallest link wins
    case 4 (demand 1 2 1 ∷ demand 1 4 2 ∷ []) (Front ∷ Back ∷ []) (peak 2 link 1 turns 1) 2 ∷
    -- no row, and an amount of 0
    case 3 [] [] (peak 0 link 1 turns 0) 0 ∷
    case 2 (demand 1 2 0 ∷ []) (Back ∷ []) (peak 0 link 1 turns 0) 0 ∷
    []

-- a case's table with what the definitions make of it
unfoldable pub computed : Case → Case
unfolding least_start rule_b rule_c rule_d peak_of
computed c =
    let x = least_start c.nodes c.rows in
    case c.nodes c.rows (map (λ (r : Routed). r.way) x.rows) x.figures (peak_of c.nodes (unsplit_routing c.nodes c.rows))

-- all cases hold
abbrev pub CasesHold : Type 0
CasesHold = map computed cases ≡ cases
