-- `router::allocation::asking` meets its contract.
-- Assumes nothing.
use Rattle.std.proofs.Common.{◌≡◌}
use Rattle.router.proofs.Asking.{askers}
use Rattle.router.proofs.allocation.asking.Given as goal

abbrev pub invariant-loop-x : goal.invariant-loop-x
invariant-loop-x l = l.sets ≡ askers l.inputs l.store l.x
