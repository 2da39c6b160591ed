-- Internal: figures of a ring's links in a list, link k's at place k-1, and how a demand changes them.
use Rattle.std.specs.Prelude.{ℕ, ◌+◌, ◌-◌, ◌<◌, List, ◌≡◌, true, false, length, get_or}
use Rattle.ring.specs.Demand.{OnRing, in_front}
use Rattle.ring.specs.declared.types.Demand.{Demand}
use Rattle.ring.specs.declared.types.Link.{Link}

-- link k's figure
abbrev pub link_at : List ℕ → ℕ → ℕ
link_at links k = get_or links (k - 1) 0

-- each figure was changed as `step` says, and `can` says that it can be
pub record EachStep {T : Type 0} (step : T → T → Type 0) (old new : List T) : Type 0 where
  pub size : length new ≡ length old
  pub each : (x : ℕ) (d : T) → x < length old → step (get_or old x d) (get_or new x d)

-- and can be so changed
pub record EachFits {T : Type 0} (can : T → Type 0) (line : List T) : Type 0 where
  pub each : (x : ℕ) (d : T) → x < length line → can (get_or line x d)

-- each link was changed: those of a demand's front by `front`, all others by `back`
pub record OverStep {T : Type 0} (front back : T → T → Type 0) (r : Demand) (old new : List T) : Type 0 where
  pub size : length new ≡ length old
  pub ahead : (x : ℕ) (d : T) → x < length old → in_front r (x + 1) ≡ true → front (get_or old x d) (get_or new x d)
  pub behind : (x : ℕ) (d : T) → x < length old → in_front r (x + 1) ≡ false → back (get_or old x d) (get_or new x d)

-- and each can be so changed, of a demand on the ring
pub record OverFits {T : Type 0} (front back : T → Type 0) (r : Demand) (line : List T) : Type 0 where
  pub on : OnRing (length line) r
  pub ahead : (x : ℕ) (d : T) → x < length line → in_front r (x + 1) ≡ true → front (get_or line x d)
  pub behind : (x : ℕ) (d : T) → x < length line → in_front r (x + 1) ≡ false → back (get_or line x d)

-- a link that carries so much more of each load
abbrev pub loaded : Link → ℕ → ℕ → Link
loaded l split unsplit = record { link = l.link; split = l.split + split; unsplit = l.unsplit + unsplit }
