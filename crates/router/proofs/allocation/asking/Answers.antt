-- `router::allocation::asking` meets its contract.
-- Assumes nothing.
use Rattle.std.proofs.Common.{arith}
use Rattle.rules.specs.Allocation.{asks}
use Rattle.router.proofs.Asking.{askers_beyond}
use Rattle.router.proofs.allocation.asking.Goals as goal

pub loop-x-preserved-then-o-ge-PORT_PLACES : goal.loop-x-preserved-then-o-ge-PORT_PLACES
unfolding asks
loop-x-preserved-then-o-ge-PORT_PLACES c =
    let a = c.args in
    askers_beyond a.inputs a.store.now c.loop-x.x c.loop-x.sets c.loop-x.invariant c.in-Some.output c.in-Some.ensures (omega arith)
