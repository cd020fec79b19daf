-- The listing of document 01: its file's bytes, and what is to be printed.
-- Assumes nothing.
use Rattle.std.specs.Prelude.{List, [], ◌∷◌, ◌++◌, ℕ, ◌-◌, length, replicate}
use Rattle.base.specs.declared.config.Config.{Config}
use Rattle.base.specs.Flit.{head, tail, single}
use Rattle.base.specs.Sizes.{sized}

-- "configuration 3,1,2,2,1,1,1"
abbrev pub config : Config
config = sized 3 1 2 2 1 1 1

-- rows: nothing; a flit on VC 0 with a payload below 256; a credit for VC 0
abbrev nothing : List ℕ
nothing = replicate 8 0

abbrev brought : ℕ → ℕ → ℕ → List ℕ
brought kind destination payload = kind ∷ 0 ∷ destination ∷ 0 ∷ 0 ∷ 0 ∷ 0 ∷ payload ∷ []

abbrev paid : List ℕ
paid = 0 ∷ 0 ∷ 0 ∷ 1 ∷ 0 ∷ 0 ∷ 0 ∷ 0 ∷ []

abbrev part : List ℕ → List ℕ → List ℕ → List ℕ
part a b c = a ++ b ++ c ++ replicate 40 0

-- "Cycle 0: port 0 S to 1, 11 hex. Cycle 1: port 0 H to 1, 21; port 2 S to 1, 31. Cycle 2: port 0 T, 22. Cycle 3 empty."
abbrev pub cycle0 : List ℕ
cycle0 = part (brought single 1 0x11) nothing nothing

abbrev pub cycle1 : List ℕ
cycle1 = part (brought head 1 0x21) nothing (brought single 1 0x31)

abbrev pub cycle2 : List ℕ
cycle2 = part (brought tail 0 0x22) nothing nothing

abbrev pub cycle3 : List ℕ
cycle3 = part nothing nothing nothing

-- "Cycles 4 and 5: credit at port 1, VC 0."
abbrev pub cycle4 : List ℕ
cycle4 = part nothing paid nothing

abbrev pub cycle5 : List ℕ
cycle5 = cycle4

-- a block of these bytes, zeros, and this check
abbrev pub block : List ℕ → ℕ → ℕ → List ℕ
block bytes high low = bytes ++ replicate (510 - length bytes) 0 ++ (high ∷ low ∷ [])

-- "Blocks 0, 1, 2": the configuration, the six cycles, the end
abbrev pub block0 : List ℕ
block0 = block (1 ∷ 0 ∷ 0 ∷ 0 ∷ 0 ∷ 0 ∷ 0 ∷ 0 ∷ 3 ∷ 1 ∷ 2 ∷ 2 ∷ 1 ∷ 1 ∷ 1 ∷ []) 0 126

abbrev pub block1 : List ℕ
block1 = block ((2 ∷ 6 ∷ 0 ∷ 0 ∷ 0 ∷ 1 ∷ 0 ∷ 0 ∷ []) ++ cycle0 ++ cycle1 ++ cycle2 ++ cycle3 ++ cycle4 ++ cycle5) 55 121

abbrev pub block2 : List ℕ
block2 = block (3 ∷ 0 ∷ 0 ∷ 0 ∷ 0 ∷ 2 ∷ 0 ∷ 0 ∷ 0 ∷ 0 ∷ 0 ∷ 6 ∷ []) 0 87

abbrev pub file : List ℕ
file = block0 ++ block1 ++ block2

-- `F cycle 1 0 input 0 letter 000000..`, `C cycle input 0`: each number is one digit, a payload ends in two
abbrev left : ℕ → ℕ → ℕ → ℕ → ℕ → List ℕ
left cycle input letter x y =
    70 ∷ 32 ∷ cycle ∷ 32 ∷ 49 ∷ 32 ∷ 48 ∷ 32 ∷ input ∷ 32 ∷ 48 ∷ 32 ∷ letter ∷ 32 ∷ 48 ∷ 48 ∷ 48 ∷ 48 ∷ 48 ∷ 48 ∷ x ∷ y ∷ 10 ∷ []

abbrev reached : ℕ → ℕ → List ℕ
reached cycle input = 67 ∷ 32 ∷ cycle ∷ 32 ∷ input ∷ 32 ∷ 48 ∷ 10 ∷ []

-- "Printed:" the bytes of the lines of the six cycles, ..
abbrev pub cycle_lines : List ℕ
cycle_lines =
    -- F 1 1 0 0 0 S 00000011
    left 49 48 83 49 49 ++
    -- C 2 0 0
    reached 50 48 ++
    -- F 2 1 0 2 0 S 00000031
    left 50 50 83 51 49 ++
    -- C 3 2 0
    reached 51 50 ++
    -- F 4 1 0 0 0 H 00000021
    left 52 48 72 50 49 ++
    -- C 5 0 0
    reached 53 48 ++
    -- F 5 1 0 0 0 T 00000022
    left 53 48 84 50 50

-- .. and E 6 4
abbrev pub printed : List ℕ
printed = cycle_lines ++ (69 ∷ 32 ∷ 54 ∷ 32 ∷ 52 ∷ 10 ∷ [])
