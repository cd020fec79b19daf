-- `router::allocation::bind_outputs` meets its contract.
-- Assumes nothing.
use Rattle.router.proofs.Binding.{outputs_skip, outputs_more, outputs_past}
use Rattle.router.proofs.allocation.bind_outputs.Goals as goal

pub loop-o-preserved-in_default : goal.loop-o-preserved-in_default
loop-o-preserved-in_default c = outputs_skip _ _ _ _ _ c.loop-o.invariant c.in_default.not-Some

pub loop-o-preserved-then-y-ge-CHANNEL_PLACES : goal.loop-o-preserved-then-y-ge-CHANNEL_PLACES
loop-o-preserved-then-y-ge-CHANNEL_PLACES c =
    outputs_past _ _ _ _ _ c.loop-o.invariant c.in-Some.given c.in-Some.is (rw (← c.number-y.ensures) c.if-y-ge-CHANNEL_PLACES.true)

pub loop-o-preserved : goal.loop-o-preserved
loop-o-preserved c =
    rw (c.held.ensures, c.requester.ensures, c.number-y.ensures)
    (outputs_more _ _ _ _ _ c.loop-o.invariant c.in-Some.given c.in-Some.is)
