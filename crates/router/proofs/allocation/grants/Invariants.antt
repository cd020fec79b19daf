-- `router::allocation::grants` meets its contract.
-- Assumes nothing.
use Rattle.router.proofs.Granting.{Granting}
use Rattle.router.proofs.allocation.grants.Given as goal

abbrev pub invariant-loop-o : goal.invariant-loop-o
invariant-loop-o l = Granting l.config l.outputs l.vcs l.sets l.made l.o
