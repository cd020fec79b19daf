-- `router::allocation::bind_outputs` meets its contract.
-- Assumes nothing.
use Rattle.router.proofs.Binding.{OutputsHeld}
use Rattle.router.proofs.allocation.bind_outputs.Given as goal

abbrev pub invariant-loop-o : goal.invariant-loop-o
invariant-loop-o l = OutputsHeld l.config l.made l.initial.outputs l.outputs l.o
