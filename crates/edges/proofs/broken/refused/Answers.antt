-- `edges::broken::refused` meets its contract: each is not sound.
-- Assumes nothing.
use mathlib.Core.Path.{ap, ◌∙◌}
use Rattle.state.specs.Sound.{sound, the_configuration, the_cycles, the_wire, the_home, the_wire_rest, the_home_rest, the_credits}
use Rattle.state.specs.Sound.{the_queues}
use Rattle.state.specs.Sound.{the_output_credits, the_channels, the_slots, the_names, the_packets, the_arbiters, the_other_arbiters}
use Rattle.edges.proofs.Unsound.{unsound}
use Rattle.edges.proofs.broken.refused.Goals as goal

pub refuse-requires : goal.refuse-requires
refuse-requires c = ap sound c.configuration.ensures ∙ unsound the_configuration

pub refuse-requires-2 : goal.refuse-requires-2
refuse-requires-2 c = ap sound c.cycles.ensures ∙ unsound the_cycles

pub refuse-requires-3 : goal.refuse-requires-3
refuse-requires-3 c = ap sound c.wire.ensures ∙ unsound the_wire

pub refuse-requires-4 : goal.refuse-requires-4
refuse-requires-4 c = ap sound c.home.ensures ∙ unsound the_home

pub refuse-requires-5 : goal.refuse-requires-5
refuse-requires-5 c = ap sound c.wire_rest.ensures ∙ unsound the_wire_rest

pub refuse-requires-6 : goal.refuse-requires-6
refuse-requires-6 c = ap sound c.home_rest.ensures ∙ unsound the_home_rest

pub refuse-requires-7 : goal.refuse-requires-7
refuse-requires-7 c = ap sound c.credits.ensures ∙ unsound the_credits

pub refuse-requires-8 : goal.refuse-requires-8
refuse-requires-8 c = ap sound c.queues.ensures ∙ unsound the_queues

pub refuse-requires-9 : goal.refuse-requires-9
refuse-requires-9 c = ap sound c.output_credits.ensures ∙ unsound the_output_credits

pub refuse-requires-10 : goal.refuse-requires-10
refuse-requires-10 c = ap sound c.channels.ensures ∙ unsound the_channels

pub refuse-requires-11 : goal.refuse-requires-11
refuse-requires-11 c = ap sound c.slots.ensures ∙ unsound the_slots

pub refuse-requires-12 : goal.refuse-requires-12
refuse-requires-12 c = ap sound c.names.ensures ∙ unsound the_names

pub refuse-requires-13 : goal.refuse-requires-13
refuse-requires-13 c = ap sound c.packets.ensures ∙ unsound the_packets

pub refuse-requires-14 : goal.refuse-requires-14
refuse-requires-14 c = ap sound c.arbiters.ensures ∙ unsound the_arbiters

pub refuse-requires-15 : goal.refuse-requires-15
refuse-requires-15 c = ap sound c.other_arbiters.ensures ∙ unsound the_other_arbiters
