-- To believe: bytes of tables and sheets (Rules, the grammar), each named once.
use Rattle.std.specs.Prelude.{ℕ}

-- fields are parted by one tab
abbrev pub tab : ℕ
tab = 9

-- lines end with LF, the last one too
abbrev pub lf : ℕ
lf = 10

-- the digits are the bytes from 0 ..
abbrev pub digit0 : ℕ
digit0 = 48

-- .. to 9
abbrev pub digit9 : ℕ
digit9 = 57

-- ---- the letters

-- R n fibres: how many nodes and fibres the ring has
abbrev pub letter_r : ℕ
letter_r = 82

-- M: the ring is an SDH ring
abbrev pub letter_m : ℕ
letter_m = 77

-- D: a demand
abbrev pub letter_d : ℕ
letter_d = 68

-- C: the cut
abbrev pub letter_c : ℕ
letter_c = 67

-- L: a link and its loads
abbrev pub letter_l : ℕ
letter_l = 76

-- Z: the unsplit peak and the size
abbrev pub letter_z : ℕ
letter_z = 90

-- F: a row that goes front
abbrev pub letter_f : ℕ
letter_f = 70

-- B: a row that goes back
abbrev pub letter_b : ℕ
letter_b = 66
