-- `arbiter::asking::above` meets its contract: all numbers below n less those up to i.
-- Assumes nothing.
use Prim.Native.Nat.{◌+◌, ◌^◌, ◌≤◌}
use native.Mathlib.Omega.{arith}
use lib.Pow.{pow_mono}
use Rattle.arbiter.proofs.Rows.{all_above, none_above}
use Rattle.arbiter.proofs.asking.above.Goals as goal

pub overflow_sub-result : goal.overflow_sub-result
overflow_sub-result c =
    let a = c.args in
    let le : 2 ^ (a.i + 1) ≤ 2 ^ a.n = pow_mono (omega arith) in
    omega arith

pub returns-then-i-n : goal.returns-then-i-n
returns-then-i-n c =
    rw (c.all.ensures, c.all-then-i-n.ensures)
    (all_above c.args.i c.args.n c.if-i-n.true)

pub returns-else-i-n : goal.returns-else-i-n
returns-else-i-n c = none_above c.args.i c.args.n c.if-i-n.false
