-- To believe: what the two calls answer that read a sheet and fill no buffer (Rules, the calls).
use Rattle.std.specs.Prelude.{ℕ, ◌≤◌, List, ◌↔◌, ◌≡◌, Result, Ok}
use Rattle.ring.specs.Limits.{desk}
use Rattle.ring.specs.Sheet.{Sheet, sents}
use Rattle.reasons.specs.declared.reason.Reason.{Reason}
use Rattle.reasons.specs.declared.reason.Refusal.{Refusal}
use Rattle.reasons.specs.Refusals.{refuse}
use Rattle.crossing.specs.Pair.{FirstPair, NoPair}
use Rattle.checker.specs.Says.{Given, Accepted}
use Rattle.crossing.specs.declared.pair.Pair.{Pair}
use Rattle.crossing.specs.declared.pair.Pair.TheVariants.{Are, None}
use Rattle.ringkit.specs.Texts.{SheetOf, SomeSheet}

-- ---- checking

-- the answer where a sheet is accepted, and where it is refused
abbrev pub Checked : Type 0
Checked = Result Unit Refusal

-- the sheet is accepted
abbrev pub yes : Checked
yes = Ok tt

-- yes, or the reason that is given
pub data CheckSays (t : List ℕ) : Checked → Type 0 where
  says_yes : Accepted desk t → CheckSays t yes
  says_no : {reason : Reason} {line byte : ℕ} → Given desk t reason line byte → CheckSays t (refuse reason line byte)

-- all that checking promises
pub record CheckPromise (t : List ℕ) (r : Checked) : Type 0 where
  pub cases : CheckSays t r
  pub accepts : (r ≡ yes) ↔ Accepted desk t
  pub sheet : (r ≡ yes) ↔ SomeSheet t
  pub refuses : (reason : Reason) (line byte : ℕ) → (r ≡ refuse reason line byte) ↔ Given desk t reason line byte

-- ---- the question: the first pair of split rows that are parallel

-- two places, counted from 1, or none; or why the sheet is refused
abbrev pub Asked : Type 0
Asked = Result Pair Refusal

-- these two are the first pair
abbrev pub paired : ℕ → ℕ → Asked
paired p q = Ok (Are p q)

-- there is none
abbrev pub unpaired : Asked
unpaired = Ok None

-- the first pair of an accepted sheet
pub record PairOf (t : List ℕ) (p q : ℕ) : Type 0 where
  pub x : Sheet
  pub of : SheetOf t x
  pub pair : FirstPair (sents x.rows) p q

-- an accepted sheet without one
pub record NoPairOf (t : List ℕ) : Type 0 where
  pub x : Sheet
  pub of : SheetOf t x
  pub none : NoPair (sents x.rows)

-- a pair, none, or the reason that is given
pub data PairSays (t : List ℕ) : Asked → Type 0 where
  a_pair : {p q : ℕ} → PairOf t p q → 1 ≤ p → PairSays t (paired p q)
  no_pair : NoPairOf t → PairSays t unpaired
  refused : {reason : Reason} {line byte : ℕ} → Given desk t reason line byte → PairSays t (refuse reason line byte)

-- all that the question promises
pub record PairPromise (t : List ℕ) (r : Asked) : Type 0 where
  pub cases : PairSays t r
  pub pair : (p q : ℕ) → (r ≡ paired p q) ↔ PairOf t p q
  pub none : (r ≡ unpaired) ↔ NoPairOf t
  pub refuses : (reason : Reason) (line byte : ℕ) → (r ≡ refuse reason line byte) ↔ Given desk t reason line byte
