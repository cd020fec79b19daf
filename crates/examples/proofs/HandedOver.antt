-- The listing handed over by the night floor: all of it is used and the run is over, so that the floor's contract is not empty.
-- Assumes nothing.
use mathlib.Core.Path.{refl}
use mathlib.Core.Bool.{xor}
use mathlib.Core.List.{[]}
use Rattle.base.specs.Flit.{flit_of, kind_of, destination_of, payload_of, starts_kind, ends_kind, letter_of}
use Rattle.base.specs.Search.{first_from, every, any, or_else}
use Rattle.base.specs.Sizes.{in_range, first_illegal, illegal_field}
use Rattle.arbiter.specs.RoundRobin.{next_in_turn, pointer_after}
use Rattle.arbiter.specs.Matrix.{blank_from}
use Rattle.arbiter.specs.Arbiter as arbiter
use Rattle.state.specs.Fresh.{fresh_router}
use Rattle.state.specs.Views.{queue_at, places, wire_of, home_of, flat, total}
use Rattle.state.specs.Sound.{is_none, all, configuration_legal, cycles_fit, credits_whole, credits_add_up, legal_flit, wire_place_legal}
use Rattle.state.specs.Sound.{wire_legal, home_legal, queues_legal, output_credits_fit, names_agree, arbiters_sound, reading, reads}
use Rattle.state.specs.Sound.{packets_read, channels_unused, slots_empty, line_unused, arbiters_unused, shaped, sound}
use Rattle.store.specs.Store.{front_of, pushed, moved_up, popped}
use Rattle.rules.specs.Ports.{over_ports}
use Rattle.rules.specs.Rows.{row_zero, no_offer, legal_offer, row_legal}
use Rattle.rules.specs.Intake.{advanced, senders_paid, reported, credits_reached, outputs_paid, credits_returned, landings, landed, offers}
use Rattle.rules.specs.Intake.{offers_taken}
use Rattle.rules.specs.Allocation.{asks, lowest_free_vc, grant_of, bindings, arbiters_moved, allocated, is_ready, input_pick, request}
use Rattle.rules.specs.Allocation.{output_pick, switched, winner}
use Rattle.rules.specs.Departures.{departures, leaving_of}
use Rattle.rules.specs.Numbers.{run_full, part_wrong, row_wrong, credit_past_room, out_of_turn, no_sender_credit, first_of, judged}
use Rattle.rules.specs.Step.{taken_in, sent_out, router_after, reply_of, step_of}
use Rattle.trace.specs.Bytes.{big_endian, zeros}
use Rattle.trace.specs.Check.{sum, check_value, check_holds}
use Rattle.trace.specs.Blocks.{end_of_body}
use Rattle.trace.specs.Place.{can_hold, good_place}
use Rattle.trace.specs.Rules.{place_unsound, block_short, check_wrong, has_wrong_kind, has_wrong_number, has_wrong_count, has_wrong_unused, has_wrong_order}
use Rattle.trace.specs.Rules.{has_wrong_total, form_wrong, bytes_follow, block_wrong, field_wrong}
use Rattle.trace.specs.Judged.{read_of, taken, judged_by_field}
use Rattle.trace.specs.Judged as trace
use Rattle.listing.specs.Digits.{glyph, decimal_within, decimal, last_digits, hex}
use Rattle.listing.specs.Lines.{spaced, print, text, by_port, credit_line, flit_line, cycle_lines, flit_lines}
use Rattle.night.specs.File.{cycles_then, file_from, cut_into, printed_of, list_of}
use Rattle.examples.specs.Listing.{file}
use native.Mathlib.Omega.{arith}
use lib.ListN.{replicate, drop}
use Rattle.listing.specs.Lines.{values_of, all_in_range, printable}
use Rattle.listing.specs.Writing.{put, lacks_room, written}
use Rattle.state.specs.Blank.{no_sizes, arbiters_shaped, blank}
use Rattle.runs.specs.Run.{started, between_blocks, stopped_inside, place_right, run_sound}
use Rattle.router.specs.Running.{wrote, ended_by, cycled, cycles_from, block_taken, lacks_block_room, going_on, ran_of}
use Rattle.trace.proofs.Sealed.{known_bytes}
use Rattle.std.specs.Prelude.{Ok}
use Rattle.floor.specs.Handing.{Handed, stops, goes, calls, ends, HandsOver, last}

abbrev started_with : Handed
started_with = record { run = started; buffer = replicate 3100 0 }

-- 1,536 bytes, read into a buffer of 2,048, so that the input has ended: behind the first call's lines there is too little room for the end
-- block, so it is handed over again, and a third call ends the run
pub listing_handed : HandsOver 2048 file started_with 3 (Ok (tt {0})) (calls 1 [] (calls 2 file started_with))
unfolding xor first_from every or_else in_range first_illegal illegal_field flit_of kind_of destination_of payload_of starts_kind ends_kind
    next_in_turn pointer_after blank_from arbiter.known arbiter.usable arbiter.choice arbiter.moved arbiter.after arbiter.fresh
    arbiter.sound queue_at places wire_of home_of flat total is_none all configuration_legal cycles_fit credits_whole credits_add_up legal_flit
    wire_place_legal wire_legal home_legal queues_legal output_credits_fit names_agree arbiters_sound reading reads packets_read channels_unused
    slots_empty line_unused arbiters_unused shaped sound front_of pushed moved_up popped over_ports part_wrong row_zero no_offer legal_offer
    row_legal advanced senders_paid reported credits_reached outputs_paid credits_returned landings landed offers offers_taken asks lowest_free_vc
    grant_of bindings arbiters_moved allocated is_ready input_pick request output_pick switched winner departures leaving_of run_full
    row_wrong credit_past_room out_of_turn no_sender_credit first_of judged taken_in sent_out router_after reply_of step_of fresh_router big_endian
    zeros sum check_value check_holds end_of_body can_hold good_place place_unsound block_short check_wrong has_wrong_kind has_wrong_number has_wrong_count
    has_wrong_unused has_wrong_order has_wrong_total form_wrong bytes_follow block_wrong field_wrong read_of taken judged_by_field trace.judged cycles_then file_from
    cut_into printed_of list_of glyph decimal_within decimal last_digits hex spaced print text by_port credit_line flit_line cycle_lines
    flit_lines letter_of values_of all_in_range printable put lacks_room written no_sizes arbiters_shaped blank started any
    between_blocks stopped_inside place_right run_sound wrote ended_by cycled cycles_from block_taken lacks_block_room going_on ran_of calls
listing_handed =
    last 2 (Ok (tt {0})) (calls 2 file started_with) 3 (Ok (tt {0})) (calls 1 [] (calls 2 file started_with)) refl (known_bytes file refl) (omega arith)
    (goes file started_with 1 (Ok (tt {0})) (calls 2 file started_with) refl (stops (drop 1024 file) (calls 1 file started_with) (Ok (tt {0})) refl))
    (ends 1 (Ok (tt {0})) (calls 1 [] (calls 2 file started_with)) refl refl (stops [] (calls 2 file started_with) (Ok (tt {0})) refl))
