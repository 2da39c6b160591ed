-- The examples, computed; and that level rooms leave loads that can be lowered.
use Prim.Native.Nat.{ℕ, zero, suc, ◌*◌, ◌≤◌}
use mathlib.Core.List.{List, [], ◌∷◌}
use mathlib.Core.Path.{refl}
use native.Mathlib.Omega.{arith}
use Rattle.ring.specs.declared.types.Demand.{Demand}
use Rattle.ring.specs.Demand.{demand, OnRing}
use Rattle.ring.specs.Division.{Divides}
use Rattle.engines.specs.declared.Engine.TheVariants.{Level, Lowered}
use Rattle.engines.specs.Engine.{sent_by}
use Rattle.engines.specs.Laws.{LevelNotMinimal}
use Rattle.ring.specs.Lists.{Each, none, more, listed}
use Rattle.ring.specs.Routing.{split_load, unsplit_load}
use Rattle.ring.specs.RuleC.{rule_c}
use Rattle.ring.specs.RuleB.{send_all, rule_b}
use Rattle.ring.specs.RuleD.{rule_d}
use Rattle.engines.specs.Lowering.{lowered_rooms}
use Rattle.engines.specs.Cases.{CasesHold}

pub cases-hold : CasesHold
unfolding listed lowered_rooms send_all rule_c rule_d split_load unsplit_load
cases-hold =
    more (record { rooms = refl; sent = refl; split = refl; unsplit = refl })
    (more (record { rooms = refl; sent = refl; split = refl; unsplit = refl })
    (more (record { rooms = refl; sent = refl; split = refl; unsplit = refl }) none))

-- ---- on the ring of three offices the loads of lowered rooms are below those of level ones: on link 1, and nowhere above

abbrev three : List Demand
three = demand 1 3 4 ∷ demand 2 3 3 ∷ demand 2 3 3 ∷ []

on-ring : Each (OnRing 3) three
on-ring =
    more (record { low = omega arith; order = omega arith; high = omega arith })
    (more (record { low = omega arith; order = omega arith; high = omega arith })
    (more (record { low = omega arith; order = omega arith; high = omega arith }) none))

pub level-not-minimal : LevelNotMinimal
unfolding rule_b send_all lowered_rooms split_load
level-not-minimal least = least 3 three (omega arith) on-ring 2 (sent_by Lowered 3 three) divides (record { everywhere = everywhere; link = 1; low = omega arith; high = omega arith; smaller = omega arith })
  where
    divides : Divides 2 three (sent_by Lowered 3 three)
    divides = record { same = refl; sums = more refl (more refl (more refl none)) }

    everywhere : (k : ℕ) → 1 ≤ k → k ≤ 3 → 2 * split_load (sent_by Lowered 3 three) k ≤ 2 * split_load (sent_by Level 3 three) k
    everywhere zero a b = absurd (omega arith)
    everywhere (suc zero) a b = omega arith
    everywhere (suc (suc zero)) a b = omega arith
    everywhere (suc (suc (suc zero))) a b = omega arith
    everywhere (suc (suc (suc (suc k)))) a b = absurd (omega arith)
