-- The bytes of a block, and numbers and zeros among them.
-- Assumes nothing.
use Rattle.std.specs.Prelude.{Bool, List, ℕ, zero, suc, ◌+◌, ◌-◌, ◌*◌, ◌<◌, eqb, get_or}
use Rattle.base.specs.Search.{every}

-- byte i of a block; 0 past its end
abbrev pub byte : List ℕ → ℕ → ℕ
byte block i = get_or block i 0

-- a list of bytes, as every lent slice is
abbrev pub AreBytes : List ℕ → Type 0
AreBytes block = (i : ℕ) → byte block i < 256

-- "big-endian": the number that the n bytes from `from` on spell, the first the highest
unfoldable pub big_endian : List ℕ → ℕ → ℕ → ℕ
big_endian block from zero = 0
big_endian block from (suc n) = 256 * big_endian block from n + byte block (from + n)

-- each of the bytes from `from` on, and before `to`, is zero
unfoldable pub zeros : List ℕ → ℕ → ℕ → Bool
zeros block from to = every (to - from) (λ (k : ℕ). eqb (byte block (from + k)) 0)
