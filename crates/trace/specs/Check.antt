-- "510..511 the check, big-endian: the sum over i = 0..509 of (i+1) times byte i, modulo 65,521." (01, blocks)
-- Assumes nothing.
use Rattle.std.specs.Prelude.{Bool, List, ℕ, zero, suc, ◌+◌, ◌*◌, ◌%◌, eqb}
use Rattle.trace.specs.Bytes.{byte, big_endian}

-- f 0 + f 1 + .., n of them
unfoldable pub sum : ℕ → (ℕ → ℕ) → ℕ
sum zero f = 0
sum (suc n) f = sum n f + f n

-- "(i+1) times byte i"
abbrev pub weighed : List ℕ → ℕ → ℕ
weighed block i = (i + 1) * byte block i

-- "the sum over i = 0..509 of (i+1) times byte i, modulo 65,521"
unfoldable pub check_value : List ℕ → ℕ
check_value block = sum 510 (weighed block) % 65521

-- "510..511 the check, big-endian"; it is compared as a value, so that a stored 65,521 or more is never right
unfoldable pub check_holds : List ℕ → Bool
check_holds block = eqb (check_value block) (big_endian block 510 2)
