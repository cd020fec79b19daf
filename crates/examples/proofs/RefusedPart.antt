-- The run of document 01's listing, with a part between cycles 2 and 3 that is refused: it leaves no trace, the other six are the history,
-- and the counts after cycle 5 are those of the document.
-- Assumes nothing.
use mathlib.Core.Path.{◌≡◌, refl}
use mathlib.Core.Bool.{xor}
use mathlib.Core.List.{List, [], ◌∷◌}
use Prim.Native.Nat.{ℕ}
use lib.ListN.{length}
use Rattle.base.specs.declared.flit.Flit.{Flit}
use Rattle.base.specs.Flit.{head, tail, single, flit_of, kind_of, destination_of, payload_of, starts_kind, ends_kind}
use Rattle.base.specs.Search.{first_from, every, or_else}
use Rattle.base.specs.Sizes.{in_range, first_illegal, illegal_field}
use Rattle.arbiter.specs.RoundRobin.{next_in_turn, pointer_after}
use Rattle.arbiter.specs.Matrix.{blank_from}
use Rattle.arbiter.specs.Arbiter as arbiter
use Rattle.model.specs.History.{accepted, left_from, flits}
use Rattle.state.specs.Fresh.{fresh_router}
use Rattle.state.specs.Views.{queue_at, places, wire_of, home_of, flat, total}
use Rattle.state.specs.Sound.{is_none, all, configuration_legal, cycles_fit, credits_whole, credits_add_up, legal_flit, wire_place_legal}
use Rattle.state.specs.Sound.{wire_legal, home_legal, queues_legal, output_credits_fit, names_agree, arbiters_sound, reading, reads}
use Rattle.state.specs.Sound.{packets_read, channels_unused, slots_empty, line_unused, arbiters_unused, shaped, sound}
use Rattle.store.specs.Store.{front_of, pushed, moved_up, popped}
use Rattle.trace.specs.Bytes.{big_endian}
use Rattle.rules.specs.Ports.{over_ports}
use Rattle.rules.specs.Rows.{row_zero, no_offer, legal_offer, row_legal}
use Rattle.rules.specs.Intake.{advanced, senders_paid, reported, credits_reached, outputs_paid, credits_returned, landings, landed, offers}
use Rattle.rules.specs.Intake.{offers_taken}
use Rattle.rules.specs.Allocation.{asks, lowest_free_vc, grant_of, bindings, arbiters_moved, allocated, is_ready, input_pick, request}
use Rattle.rules.specs.Allocation.{output_pick, switched, winner}
use Rattle.rules.specs.Departures.{departures, leaving_of}
use Rattle.rules.specs.Numbers.{run_full, part_wrong, row_wrong, credit_past_room, out_of_turn, no_sender_credit, first_of, judged}
use Rattle.rules.specs.Step.{taken_in, sent_out, router_after, reply_of, step_of}
use Rattle.history.specs.Run.{entry_of, Ran, run_from, run_of}
use Rattle.history.specs.Demand3.{stored_credits, buffered, on_wire, going_home}
use Rattle.examples.specs.Listing.{config, cycle0, cycle1, cycle2, cycle3, cycle4, cycle5}

-- a part that isn't 64 bytes long is refused
abbrev parts : List (List ℕ)
parts = cycle0 ∷ cycle1 ∷ cycle2 ∷ [] ∷ cycle3 ∷ cycle4 ∷ cycle5 ∷ []

-- of a run: its accepted cycles, what input 0 sent and what of it left, and the counts of input 0
pub record Seen : Type 0 where
  pub cycles : ℕ
  pub sent : List Flit
  pub left : List Flit
  pub stored : ℕ
  pub wire : List Flit
  pub queue : ℕ
  pub home : ℕ

abbrev pub seen_of : Ran → Seen
seen_of r =
    record {
      cycles = length r.history;
      sent = accepted 0 0 r.history;
      left = flits (left_from 0 0 r.history);
      stored = stored_credits config r.router 0 0;
      wire = on_wire config r.router 0 0;
      queue = buffered config r.router 0 0;
      home = going_home config r.router 0 0;
    }

abbrev packets : List Flit
packets = flit_of single 1 0x11 ∷ flit_of head 1 0x21 ∷ flit_of tail 0 0x22 ∷ []

-- "after cycle 5, 1, 0, 0, 1"
pub example : seen_of (run_of config parts)
    ≡ record { cycles = 6; sent = packets; left = packets; stored = 1; wire = []; queue = 0; home = 1 }
unfolding xor first_from every or_else in_range first_illegal illegal_field flit_of kind_of destination_of payload_of starts_kind ends_kind
    next_in_turn pointer_after blank_from arbiter.known arbiter.usable arbiter.choice arbiter.moved arbiter.after arbiter.fresh
    arbiter.sound queue_at places wire_of home_of flat total is_none all configuration_legal cycles_fit credits_whole credits_add_up legal_flit
    wire_place_legal wire_legal home_legal queues_legal output_credits_fit names_agree arbiters_sound reading reads packets_read channels_unused
    slots_empty line_unused arbiters_unused shaped sound front_of pushed moved_up popped big_endian over_ports part_wrong row_zero no_offer
    legal_offer row_legal advanced senders_paid reported credits_reached outputs_paid credits_returned landings landed offers offers_taken asks
    lowest_free_vc grant_of bindings arbiters_moved allocated is_ready input_pick request output_pick switched winner departures leaving_of
    run_full row_wrong credit_past_room out_of_turn no_sender_credit first_of judged taken_in sent_out router_after reply_of step_of fresh_router
    entry_of run_from run_of
example = refl
