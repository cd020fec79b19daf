-- `router::allocation::bind_inputs` meets its contract.
-- Assumes nothing.
use Rattle.router.proofs.Binding.{InputsBound}
use Rattle.router.proofs.allocation.bind_inputs.Given as goal

abbrev pub invariant-loop-o : goal.invariant-loop-o
invariant-loop-o l = InputsBound l.made l.initial.inputs l.inputs l.o
