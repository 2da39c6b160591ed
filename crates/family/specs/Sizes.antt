-- To believe: the families of line sizes, the unit and the sizes of each (Rules, line sizes).
use Rattle.std.specs.Prelude.{ℕ, cond, ◌≡◌, Bool, true, List, [], ◌∷◌, eqb, codes}
use Rattle.family.specs.declared.family.Family.{Family}
use Rattle.family.specs.declared.family.Family.TheVariants.{Sonet, Sdh}

-- what one unit of the SONET family is called, in bytes
abbrev pub sonet_unit : List ℕ
sonet_unit = codes "STS-1"

-- and of the SDH family
abbrev pub sdh_unit : List ℕ
sdh_unit = codes "STM-1"

-- the sizes of the SONET family
abbrev pub sonet_sizes : List ℕ
sonet_sizes = 3 ∷ 12 ∷ 48 ∷ 192 ∷ 768 ∷ []

-- the sizes of the SDH family
abbrev pub sdh_sizes : List ℕ
sdh_sizes = 1 ∷ 4 ∷ 16 ∷ 64 ∷ 256 ∷ []

-- the sizes of a family
abbrev pub sizes_of : Family → List ℕ
sizes_of Sonet = sonet_sizes
sizes_of Sdh = sdh_sizes

-- a family by its number
abbrev pub family_of : ℕ → Family
family_of number = cond (eqb number 0) Sonet Sdh

-- the number of a family
abbrev pub family_number : Family → ℕ
family_number Sonet = 0
family_number Sdh = 1

-- which families there are: SONET; and SDH, where a ring's line may have the mark that says so
abbrev pub Known : Bool → Family → Type 0
Known marks Sonet = Unit {0}
Known marks Sdh = marks ≡ true
