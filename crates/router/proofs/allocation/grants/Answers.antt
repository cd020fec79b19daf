-- `router::allocation::grants` meets its contract.
-- Assumes nothing.
use Rattle.std.proofs.Common.{arith}
use Rattle.router.proofs.Granting.{granting_skip, granting_more}
use Rattle.router.proofs.allocation.grants.Goals as goal

pub loop-o-preserved-then-set-eq0 : goal.loop-o-preserved-then-set-eq0
loop-o-preserved-then-set-eq0 c = granting_skip _ _ _ _ _ _ c.loop-o.invariant c.if-set-eq0.true

pub loop-o-preserved : goal.loop-o-preserved
loop-o-preserved c = granting_more _ _ _ _ _ _ c.loop-o.invariant c.grant.result (omega arith) c.grant.ensures
