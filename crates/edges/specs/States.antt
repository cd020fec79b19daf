-- The routers that the program is run on.
-- Assumes nothing.
use Rattle.std.specs.Prelude.{true, false, [], ◌∷◌, ◌++◌}
use Rattle.base.specs.Sizes.{with_downstream}
use Rattle.state.specs.declared.Router.{Router}
use Rattle.state.specs.Fresh.{fresh_output}
use Rattle.state.specs.Setters.{with_config, with_cycle, with_store}
use Rattle.state.specs.Sound.{Clause, the_configuration, the_cycles, the_wire, the_home, the_wire_rest, the_home_rest, the_shape}
use Rattle.state.specs.Sound.{the_credits}
use Rattle.state.specs.Sound.{the_queues, the_output_credits, the_channels, the_slots, the_names, the_packets, the_arbiters}
use Rattle.state.specs.Sound.{the_other_arbiters}
use Rattle.state.proofs.SoundStates.{with_input, with_output, with_slot, with_wire_place, with_home_place, with_vc_arbiter}
use Rattle.state.proofs.SoundStates.{with_input_arbiter}
use Rattle.state.proofs.SoundStates.{config, turns, unbound, bound, held, head, single, body, on, pointer_at}

-- for each clause of soundness a router that breaks this clause alone
abbrev pub broken : Clause → Router
broken the_configuration = with_config (with_downstream 17 (config 1)) turns
broken the_cycles = with_cycle 1000000001 turns
broken the_wire = with_wire_place 0 0 (on 2 (single 1)) turns
broken the_home = with_home_place 0 0 3 turns
broken the_wire_rest = with_wire_place 2 0 (on 0 (single 1)) turns
broken the_home_rest = with_home_place 0 2 1 turns
broken the_shape = with_store (turns.store ++ (0 ∷ [])) turns
broken the_credits = with_input 0 (unbound 2 false 0) turns
broken the_queues = with_slot 0 (single 3) (with_input 0 (unbound 2 false 1) turns)
broken the_output_credits = with_output 0 (fresh_output 3) turns
broken the_channels = with_output 4 (fresh_output 1) turns
broken the_slots = with_slot 511 1 turns
broken the_names = with_output 2 (held 0 0 2) turns
broken the_packets = with_input 0 (unbound 3 true 0) turns
broken the_arbiters = with_vc_arbiter 0 (pointer_at 32 4) turns
broken the_other_arbiters = with_input_arbiter 2 (pointer_at 8 1) turns

-- a router in which each phase has something to do: a packet that is bound, with its head and two bodies queued, a flit that lands, and a
-- credit that reaches its sender
unfoldable pub busy_from : Router → Router
busy_from s =
    with_home_place 0 1 2 (with_input 3 (unbound 2 false 0) (with_wire_place 0 0 (on 1 (single 1)) (with_input 1 (unbound 2 false 0)
    (with_output 2 (held 0 0 2) (with_slot 2 body (with_slot 1 body (with_slot 0 (head 1) (with_input 0 (bound 1 0 0 true 3) s))))))))

unfoldable pub busy : Router
busy = busy_from turns
