-- Document 01's starred examples: one theorem, computed.
-- Assumes nothing.
use mathlib.Core.Path.{refl}
use mathlib.Core.Bool.{xor}
use Rattle.base.specs.Bits.{bit, word_of, with_bit}
use Rattle.base.specs.Flit.{flit_of, kind_of, destination_of, payload_of, starts_kind, ends_kind, letter_of}
use Rattle.base.specs.Search.{first_from, every, or_else}
use Rattle.base.specs.Sizes.{in_range, first_illegal, illegal_field}
use Rattle.arbiter.specs.RoundRobin.{next_in_turn, pointer_after}
use Rattle.arbiter.specs.Matrix as arbiters
use Rattle.arbiter.specs.Matrix.{beats, beats_every_other, champion, raised, defeated, fresh_row, fresh_rows, total_order, within, blank_from}
use Rattle.arbiter.specs.Arbiter as arbiter
use Rattle.state.specs.Fresh.{fresh_router}
use Rattle.state.specs.Views.{queue_at, places, wire_of, home_of, flat, total}
use Rattle.state.specs.Sound.{is_none, all, configuration_legal, cycles_fit, credits_whole, credits_add_up, legal_flit, wire_place_legal}
use Rattle.state.specs.Sound.{wire_legal, home_legal, queues_legal, output_credits_fit, names_agree, arbiters_sound, reading, reads}
use Rattle.state.specs.Sound.{packets_read, channels_unused, slots_empty, line_unused, arbiters_unused, shaped, sound}
use Rattle.store.specs.Store.{front_of, pushed, moved_up, popped}
use Rattle.rules.specs.Ports.{over_ports}
use Rattle.rules.specs.Rows.{row_zero, no_offer, legal_offer, row_legal}
use Rattle.rules.specs.Intake.{advanced, senders_paid, reported, credits_reached, outputs_paid, credits_returned, landings, landed, offers}
use Rattle.rules.specs.Intake.{offers_taken}
use Rattle.rules.specs.Allocation.{asks, lowest_free_vc, grant_of, bindings, arbiters_moved, allocated, is_ready, input_pick, request}
use Rattle.rules.specs.Allocation.{output_pick, switched, winner}
use Rattle.rules.specs.Departures.{departures, leaving_of}
use Rattle.rules.specs.Numbers.{run_full, part_wrong, row_wrong, credit_past_room, out_of_turn, no_sender_credit, first_of, judged}
use Rattle.rules.specs.Step.{taken_in, sent_out, router_after, reply_of, step_of}
use Rattle.trace.specs.Bytes.{AreBytes, big_endian, zeros}
use Rattle.trace.specs.Check.{sum, check_value, check_holds}
use Rattle.trace.specs.Blocks.{end_of_body}
use Rattle.trace.specs.Place.{can_hold, good_place}
use Rattle.trace.specs.Rules.{place_unsound, block_short, check_wrong, has_wrong_kind, has_wrong_number, has_wrong_count, has_wrong_unused, has_wrong_order}
use Rattle.trace.specs.Rules.{has_wrong_total, form_wrong, block_wrong, field_wrong}
use Rattle.trace.specs.Judged.{read_of, taken, judged_by_field}
use Rattle.trace.specs.Judged as trace
use Rattle.listing.specs.Digits.{glyph, decimal_within, decimal, last_digits, hex}
use Rattle.listing.specs.Lines.{spaced, print, text, by_port, credit_line, flit_line, cycle_lines, flit_lines}
use Rattle.history.specs.Run.{entry_of, run_from, run_of}
use Rattle.night.specs.File.{cycles_then, file_from, cut_into, printed_of, list_of}
use Rattle.trace.proofs.Sealed.{known_bytes}
use Rattle.night.proofs.Night.{file_listed, list_written}
use Rattle.examples.specs.Listing.{file}
use Rattle.examples.specs.Starred.{verdicts, Starred}

file_bytes : AreBytes file
file_bytes = known_bytes file refl

pub starred : Starred
unfolding xor first_from every or_else in_range first_illegal illegal_field flit_of kind_of destination_of payload_of starts_kind ends_kind
    next_in_turn pointer_after blank_from arbiter.known arbiter.usable arbiter.choice arbiter.moved arbiter.after arbiter.fresh
    arbiter.sound queue_at places wire_of home_of flat total is_none all configuration_legal cycles_fit credits_whole credits_add_up legal_flit
    wire_place_legal wire_legal home_legal queues_legal output_credits_fit names_agree arbiters_sound reading reads packets_read channels_unused
    slots_empty line_unused arbiters_unused shaped sound front_of pushed moved_up popped over_ports part_wrong row_zero no_offer legal_offer
    row_legal advanced senders_paid reported credits_reached outputs_paid credits_returned landings landed offers offers_taken asks lowest_free_vc
    grant_of bindings arbiters_moved allocated is_ready input_pick request output_pick switched winner departures leaving_of run_full
    row_wrong credit_past_room out_of_turn no_sender_credit first_of judged taken_in sent_out router_after reply_of step_of fresh_router big_endian
    zeros sum check_value check_holds end_of_body can_hold good_place place_unsound block_short check_wrong has_wrong_kind has_wrong_number has_wrong_count
    has_wrong_unused has_wrong_order has_wrong_total form_wrong block_wrong field_wrong read_of taken judged_by_field trace.judged cycles_then file_from cut_into
    printed_of list_of glyph decimal_within decimal last_digits hex spaced print text by_port credit_line flit_line cycle_lines flit_lines
    letter_of bit word_of with_bit beats beats_every_other champion raised defeated arbiters.list_of fresh_row fresh_rows total_order within
    entry_of run_from run_of verdicts
starred =
    record {
      list_printed = refl;
      written_always = file_listed file file_bytes;
      written_by_some = list_written file file_bytes;
      after3 = refl;
      after5 = refl;
      configuration_check = refl;
      end_check = refl;
      all_255 = refl;
      winner_after_pointer = refl;
      pointer_wraps = refl;
      winner_before_pointer = refl;
      pointer_moves = refl;
      lowest_first = refl;
      winner_now_loses = refl;
      both_now_lose = refl;
      six_take = (refl, refl);
      five_refuse = (refl, refl);
    }
