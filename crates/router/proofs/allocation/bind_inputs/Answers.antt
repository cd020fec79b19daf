-- `router::allocation::bind_inputs` meets its contract.
-- Assumes nothing.
use Rattle.router.proofs.Binding.{inputs_skip, inputs_more, inputs_past}
use Rattle.router.proofs.allocation.bind_inputs.Goals as goal

pub loop-o-preserved-in_default : goal.loop-o-preserved-in_default
loop-o-preserved-in_default c = inputs_skip _ _ _ _ c.loop-o.invariant c.in_default.not-Some

pub loop-o-preserved-then-x-ge-CHANNEL_PLACES : goal.loop-o-preserved-then-x-ge-CHANNEL_PLACES
loop-o-preserved-then-x-ge-CHANNEL_PLACES c =
    inputs_past _ _ _ _ c.loop-o.invariant c.in-Some.given c.in-Some.is c.if-x-ge-CHANNEL_PLACES.true

pub loop-o-preserved : goal.loop-o-preserved
loop-o-preserved c = rw c.bound.ensures (inputs_more _ _ _ _ c.loop-o.invariant c.in-Some.given c.in-Some.is)
