-- `arbiter::asking::all` meets its contract: shifting 1 by at most 32 loses nothing at 64 bits.
-- Assumes nothing.
use Prim.Native.Nat.{◌^◌, ◌≤◌}
use native.Mathlib.Omega.{arith}
use lib.Pow.{pow_pos, pow_mono}
use Rattle.base.proofs.Bits.{shl_one}
use Rattle.arbiter.proofs.asking.all.Goals as goal

pub overflow_sub-result : goal.overflow_sub-result
overflow_sub-result c = rw (shl_one 64 c.args.n (omega arith)) (pow_pos c.args.n)

pub overflow_cast-result-2 : goal.overflow_cast-result-2
overflow_cast-result-2 c =
    let low : 2 ^ c.args.n ≤ 2 ^ 32 = pow_mono c.requires in
    rw (shl_one 64 c.args.n (omega arith)) (record { fits = omega (arith, pow_pos c.args.n) })

pub returns : goal.returns
returns c = rw (shl_one 64 c.args.n (omega arith))
