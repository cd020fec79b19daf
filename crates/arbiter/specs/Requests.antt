-- Who asks.
-- Assumes nothing.
use Rattle.std.specs.Prelude.{Bool, cond, ℕ, leb}
use Rattle.base.specs.Bits.{bit}
use Rattle.arbiter.specs.declared.Requests.{Requests}

-- requester i asks when bit i of the set is 1
unfoldable pub asks : Requests → ℕ → Bool
asks r i = bit r.set i

-- the width that counts: a word of 32 bits says who asks, so that with room for more there is none
abbrev pub width : ℕ → ℕ → ℕ
width places n = cond (leb places 32) n 0
