-- `router::blocks::blocks_in` meets its contract.
-- Assumes nothing.
use native.Mathlib.Omega.{arith}
use Rattle.router.proofs.blocks.blocks_in.Goals as goal

pub returns-then-bytes-eq0 : goal.returns-then-bytes-eq0
returns-then-bytes-eq0 c = omega (arith, c.if-bytes-eq0.true)
