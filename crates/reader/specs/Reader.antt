-- "The block reader is a small view over one lent block that remembers its place" (01, blocks)
-- Assumes nothing.
use Rattle.std.specs.Prelude.{cond, List, ℕ, zero, suc, ◌+◌}
use Rattle.trace.specs.Cycles.{shows}

-- "After the last cycle held, or over a lent part that is under 512 bytes or has byte 1 above 7, it shows an empty part and stays."
unfoldable pub following_cycle : List ℕ → ℕ → ℕ
following_cycle block k = cond (shows block k) (k + 1) k

-- the place of a reader over this block after n moves
unfoldable pub walked : List ℕ → ℕ → ℕ
walked block zero = 0
walked block (suc n) = following_cycle block (walked block n)
