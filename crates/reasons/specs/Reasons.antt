-- To believe: the numbers of the reasons (Rules, reasons), the order in which they are tried (Rules, the order of reasons), and which of them is given.
use Rattle.std.specs.Prelude.{ℕ, ◌<◌, ◌⊎◌, ◌≡◌}
use Rattle.reasons.specs.declared.reason.Reason.{Reason}
use Rattle.reasons.specs.declared.reason.Reason.TheVariants.{TooLong, Misshapen, RingSize, Fibres, NoRow, NoSuchNode, NotBelow, OutOfOrder, TooMany, TooMuch, Full, WrongSum, WrongWay, WrongCut, WrongLink, WrongLast, NotTight, OverBound, NotZero, NotSymmetric, SumTooMuch, TooManySplit, PlansTooLong, NoRoom}

-- the number of each, by which the texts of refusals and C name it
abbrev pub number_of : Reason → ℕ
-- text over 32,768 bytes
number_of TooLong = 1
-- line of the wrong shape, missing, or left over; a badly spelled number; no final LF
number_of Misshapen = 2
-- n outside 2..64
number_of RingSize = 3
-- fibres neither 2 nor 4
number_of Fibres = 20
-- the place named holds no row of the working table
number_of NoRow = 22
-- a node outside 1..n
number_of NoSuchNode = 4
-- first node not below second
number_of NotBelow = 5
-- row's nodes below the row before, by first node, then second
number_of OutOfOrder = 6
-- more than 1,024 rows
number_of TooMany = 16
-- amount over 9,999
number_of TooMuch = 7
-- no place of the working table is free
number_of Full = 21
-- front + back is not 2 x amount
number_of WrongSum = 8
-- direction of an unsplit row differs from rule D
number_of WrongWay = 9
-- not 1 <= g < h <= n, or across number false
number_of WrongCut = 10
-- link out of order, or either load false
number_of WrongLink = 11
-- unsplit peak or size false
number_of WrongLast = 12
-- split peak (halves) is not the across number
number_of NotTight = 13
-- the bound of rule D broken
number_of OverBound = 14
-- a matrix's entry on the diagonal is not 0
number_of NotZero = 17
-- a matrix's entry differs from its mirror entry
number_of NotSymmetric = 18
-- a pair's sum passes 9,999
number_of SumTooMuch = 19
-- more split rows than the best choice is made among
number_of TooManySplit = 23
-- text of many plans over 65,536 bytes
number_of PlansTooLong = 24
-- lent buffer shorter than the text to be written
number_of NoRoom = 15

-- their order: by rising number, but 20 and 22 stand behind 3, 16 between 6 and 7 (of a matrix behind 17 and 18), 21 behind 7, and 15 behind all
abbrev pub rank_of : Reason → ℕ
rank_of TooLong = 1
rank_of Misshapen = 2
rank_of RingSize = 3
rank_of Fibres = 4
rank_of NoRow = 5
rank_of NoSuchNode = 6
rank_of NotBelow = 7
rank_of OutOfOrder = 8
rank_of TooMany = 9
rank_of TooMuch = 10
rank_of Full = 11
rank_of WrongSum = 12
rank_of WrongWay = 13
rank_of WrongCut = 14
rank_of WrongLink = 15
rank_of WrongLast = 16
rank_of NotTight = 17
rank_of OverBound = 18
rank_of NotZero = 19
rank_of NotSymmetric = 20
rank_of SumTooMuch = 21
rank_of TooManySplit = 22
rank_of PlansTooLong = 23
rank_of NoRoom = 24

-- what is tried earlier: the line before, which is 0 for reason 1, and on the same line the reason before (Rules, the order of reasons)
abbrev pub Earlier : Reason → ℕ → Reason → ℕ → Type 0
Earlier r line s other = (line < other) ⊎ ((line ≡ other) × (rank_of r < rank_of s))

-- ---- which is given of a text, by what each reason says, with its line

module _ (Says : Reason → ℕ → Type 0) where
  -- by what is tried earlier: each is given exactly when it holds and nothing before it in the order does, and with it its byte
  pub record FirstReason (Earlier : Reason → ℕ → Reason → ℕ → Type 0) (ByteIs : Reason → ℕ → ℕ → Type 0) (r : Reason) (line byte : ℕ) : Type 0 where
    pub holds : Says r line
    pub first : (s : Reason) (other : ℕ) → Earlier s other r line → Says s other → ⊥
    pub byte_is : ByteIs r line byte

  -- none holds
  abbrev pub NoReason : Type 0
  NoReason = (r : Reason) (line : ℕ) → Says r line → ⊥
