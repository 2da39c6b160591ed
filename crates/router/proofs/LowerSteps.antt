-- The loops that put rooms down: where they stand, the largest difference so far, and the rooms of the links that have had their turn, which are final.
use Rattle.std.proofs.Common.{◌≡◌, ℕ, suc, ◌+◌, ◌-◌, ◌*◌, ◌≤◌, ◌<◌, max, List, length, refl, sym, ◌∙◌, arith}
use native.Mathlib.Decide.{ℕ_discrete}
use Rattle.ring.specs.Routing.{peak}
use Rattle.ring.specs.RuleB.{Room}
use Rattle.across.specs.Cells.{cell}
use Rattle.across.specs.Lines.{Pairwise, PutAt}
use Rattle.engines.specs.declared.Engine.{Engine}
use Rattle.engines.specs.declared.Engine.TheVariants.{Lowered}
use Rattle.engines.specs.Lowering.{lowest_room, lower_to}
use Rattle.engines.proofs.LinkByLink.{room-is, same-turn}
use Rattle.router.specs.Lowering.{rooms_from, room_on, RoomsPut}

module _ (number : ℕ → ℕ → ℕ) (m n : ℕ) where
  -- ---- one turn

  -- what link g needs for the links before it, and for those behind it
  abbrev before : Room → ℕ → ℕ → ℕ
  before room g h = 2 * number h g - room h

  abbrev behind : ℕ → ℕ → ℕ
  behind g x = 2 * number g (g + x) - m

  -- the links before h are passed
  pub record Before (room : Room) (g largest h : ℕ) : Type 0 where
    pub low : 1 ≤ h
    pub high : h ≤ g
    pub is : largest ≡ peak (before room g) (h - 1)

  -- and all before g, and those behind g before h
  pub record Behind (room : Room) (g largest h : ℕ) : Type 0 where
    pub low : g + 1 ≤ h
    pub high : h ≤ n + 1
    pub is : largest ≡ max (peak (before room g) (g - 1)) (peak (behind g) (h - (g + 1)))

  module _ (room : Room) (g : ℕ) where
    pub before_start : (x : ℕ) → 1 ≤ g → x ≡ 0 → Before room g x 1
    unfolding peak
    before_start x l e = record { low = omega arith; high = l; is = e }

    pub before-turn : (h largest x y z : ℕ) → h < g → Before room g largest h → x ≡ number h g → y ≡ 2 * x - room h → z ≡ max largest y → Before room g z (h + 1)
    unfolding peak
    before-turn h largest x y z l o e d f =
        let a : (h + 1) - 1 ≡ suc (h - 1) = omega (arith, o.low) in
        let b : suc (h - 1) ≡ h = omega (arith, o.low) in
        record { low = omega arith; high = omega arith; is = rw (a, b) (f ∙ (rw (d, o.is, e) refl)) }

    pub behind_start : (h largest : ℕ) → g ≤ n → g ≤ h → Before room g largest h → Behind room g largest (g + 1)
    unfolding peak
    behind_start h largest l k o =
        let a : h ≡ g = omega (arith, o.high) in
        let b : (g + 1) - (g + 1) ≡ 0 = omega arith in
        record { low = omega arith; high = omega arith; is = rw b (omega (arith, rw a at o.is)) }

    pub behind-turn : (h largest x z : ℕ) → h ≤ n → Behind room g largest h → x ≡ number g h → z ≡ max largest (2 * x - m) → Behind room g z (h + 1)
    unfolding peak
    behind-turn h largest x z l o e f =
        let a : (h + 1) - (g + 1) ≡ suc (h - (g + 1)) = omega (arith, o.low) in
        let b : g + suc (h - (g + 1)) ≡ h = omega (arith, o.low) in
        record { low = omega (arith, o.low); high = omega arith; is = rw (a, b) (omega (arith, o.is, rw e at f)) }

    pub behind-done : (h largest : ℕ) → n < h → Behind room g largest h → largest ≡ lowest_room number m n room g
    unfolding lowest_room
    behind-done h largest l o = let a : h - (g + 1) ≡ n - g = omega (arith, o.high) in rw a at o.is

-- ---- the turns

-- links before g have their rooms, and all numbers of pairs are as they were
pub record Putting (engine : Engine) (m n : ℕ) (old now : List ℕ) (g : ℕ) : Type 0 where
  pub size : length now ≡ length old
  pub rooms : (k : ℕ) → 1 ≤ k → k < g → room_on now k ≡ rooms_from engine (cell old) m n k
  pub pairs : Pairwise n (λ x y. cell now x y ≡ cell old x y)

module _ (engine : Engine) (m n : ℕ) (old : List ℕ) where
  pub put_start : Putting engine m n old old 1
  put_start = record { size = refl; rooms = λ k a b. absurd (omega arith); pairs = λ x y a b c. refl }

  module _ (now new : List ℕ) (g x : ℕ) (low : 1 ≤ g) (s : Putting engine m n old now g) where
    pub put-turn : x ≡ rooms_from engine (cell old) m n g → PutAt g (g + 1) x now new → Putting engine m n old new (g + 1)
    put-turn e p =
        record {
          size = p.size ∙ s.size;
          rooms = λ k a b. elim (ℕ_discrete k g) [ yes q ↦ rw q (p.here ∙ e) | no q ↦ p.others k (k + 1) a (omega arith) (λ o. q o.0) ∙ s.rooms k a (omega arith) ];
          pairs = λ y z a b c. p.others y (z + 1) a (omega arith) (λ o. omega (arith, o.0, o.1)) ∙ s.pairs y z a b c;
        }

  pub put-done : (now : List ℕ) (g : ℕ) → n + 1 ≤ g → Putting engine m n old now g → RoomsPut engine m n old now
  put-done now g l s = record { size = s.size; rooms = λ k a b. s.rooms k a (omega arith); pairs = s.pairs }

-- the turn looks at links before g alone
pub lowered-is : (m n : ℕ) (old now : List ℕ) (g x : ℕ) → 1 ≤ g → g ≤ n → Putting Lowered m n old now g → x ≡ lowest_room (cell now) m n (room_on now) g → x ≡ lower_to (cell old) m n n g
lowered-is m n old now g x low l s e = e ∙ same-turn (cell now) (cell old) m n s.pairs (room_on now) (lower_to (cell old) m n n) g s.rooms low l ∙ sym (room-is (cell old) m n g low l)
