-- A channel's number stays small.
-- Assumes nothing.
use Prim.Native.Nat.{ℕ, zero, suc, ◌+◌, ◌*◌, ◌<◌}
use native.Mathlib.Omega.{arith}
use lib.Arith.{digits_lt}

-- a port and a VC count that each fit a byte
pub product_fits : (i n : ℕ) → i < 256 → n < 256 → i * n < 65536
product_fits i zero h g = omega arith
product_fits i (suc n) h g = let l : i * suc n + 0 < 256 * suc n = digits_lt h (omega arith) in omega arith
