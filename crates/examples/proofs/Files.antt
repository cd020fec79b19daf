-- Files that document 01's listing leaves out, from their bytes to the printed bytes: a long payload, and other ends.
-- Assumes nothing.
use mathlib.Core.Path.{◌≡◌, refl}
use mathlib.Core.Bool.{xor}
use mathlib.Core.List.{List, [], ◌∷◌, ◌++◌}
use Prim.Native.Nat.{ℕ}
use lib.ListN.{set}
use Rattle.base.specs.Flit.{flit_of, kind_of, destination_of, payload_of, starts_kind, ends_kind, letter_of}
use Rattle.base.specs.Search.{first_from, every, or_else}
use Rattle.base.specs.Sizes.{in_range, first_illegal, illegal_field}
use Rattle.arbiter.specs.RoundRobin.{next_in_turn, pointer_after}
use Rattle.arbiter.specs.Matrix.{blank_from}
use Rattle.arbiter.specs.Arbiter as arbiter
use Rattle.state.specs.Fresh.{fresh_router}
use Rattle.state.specs.Views.{queue_at, places, wire_of, home_of, flat, total}
use Rattle.state.specs.Sound.{is_none, all, configuration_legal, cycles_fit, credits_whole, credits_add_up, legal_flit, wire_place_legal}
use Rattle.state.specs.Sound.{wire_legal, home_legal, queues_legal, output_credits_fit, names_agree, arbiters_sound, reading, reads}
use Rattle.state.specs.Sound.{packets_read, channels_unused, slots_empty, line_unused, arbiters_unused, shaped, sound}
use Rattle.store.specs.Store.{front_of, pushed, moved_up, popped}
use Rattle.rules.specs.Ports.{over_ports}
use Rattle.rules.specs.Rows.{row_zero, no_offer, legal_offer, row_legal}
use Rattle.rules.specs.Intake.{advanced, senders_paid, reported, credits_reached, outputs_paid, credits_returned, landings, landed, offers}
use Rattle.rules.specs.Intake.{offers_taken}
use Rattle.rules.specs.Allocation.{asks, lowest_free_vc, grant_of, bindings, arbiters_moved, allocated, is_ready, input_pick, request}
use Rattle.rules.specs.Allocation.{output_pick, switched, winner}
use Rattle.rules.specs.Departures.{departures, leaving_of}
use Rattle.rules.specs.Numbers.{run_full, part_wrong, row_wrong, credit_past_room, out_of_turn, no_sender_credit, first_of, judged}
use Rattle.rules.specs.Step.{taken_in, sent_out, router_after, reply_of, step_of}
use Rattle.trace.specs.Bytes.{big_endian, zeros}
use Rattle.trace.specs.Check.{sum, check_value, check_holds}
use Rattle.trace.specs.Blocks.{end_of_body}
use Rattle.trace.specs.Place.{can_hold, good_place}
use Rattle.trace.specs.Rules.{place_unsound, block_short, check_wrong, has_wrong_kind, has_wrong_number, has_wrong_count, has_wrong_unused, has_wrong_order}
use Rattle.trace.specs.Rules.{has_wrong_total, form_wrong, bytes_follow, block_wrong, field_wrong}
use Rattle.trace.specs.Judged.{read_of, taken, judged_by_field}
use Rattle.trace.specs.Judged as trace
use Rattle.listing.specs.Digits.{glyph, decimal_within, decimal, last_digits, hex}
use Rattle.listing.specs.Lines.{spaced, print, text, by_port, credit_line, flit_line, cycle_lines, flit_lines}
use Rattle.night.specs.File.{cycles_then, file_from, cut_into, printed_of, list_of}
use Rattle.examples.specs.Listing.{block, file, cycle_lines as listing_lines}

-- `R number cycle place`, each of one digit
abbrev refused_with : ℕ → ℕ → ℕ → List ℕ
refused_with number cycle place = 82 ∷ 32 ∷ number ∷ 32 ∷ cycle ∷ 32 ∷ place ∷ 10 ∷ []

-- the listing's configuration with this D
abbrev deep : ℕ → ℕ → ℕ → List ℕ
deep depth high low = block (1 ∷ 0 ∷ 0 ∷ 0 ∷ 0 ∷ 0 ∷ 0 ∷ 0 ∷ 3 ∷ 1 ∷ depth ∷ 2 ∷ 1 ∷ 1 ∷ 1 ∷ []) high low

-- P = V = D = E = F = B = 1: S with payload deadbeef in cycle 0, and cycle 1 empty
abbrev word : List ℕ
word =
    block (1 ∷ 0 ∷ 0 ∷ 0 ∷ 0 ∷ 0 ∷ 0 ∷ 0 ∷ 1 ∷ 1 ∷ 1 ∷ 1 ∷ 1 ∷ 1 ∷ 1 ∷ []) 0 85
    ++ block (2 ∷ 2 ∷ 0 ∷ 0 ∷ 0 ∷ 1 ∷ 0 ∷ 0 ∷ 4 ∷ 0 ∷ 0 ∷ 0 ∷ 0xde ∷ 0xad ∷ 0xbe ∷ 0xef ∷ []) 46 254
    ++ block (3 ∷ 0 ∷ 0 ∷ 0 ∷ 0 ∷ 2 ∷ 0 ∷ 0 ∷ 0 ∷ 0 ∷ 0 ∷ 2 ∷ []) 0 39

pub record Printed : Type 0 where
  -- "payload big-endian", "eight lower-case hex digits": F 1 0 0 0 0 S deadbeef, E 2 1
  pub whole_payload : list_of word
      ≡ 70 ∷ 32 ∷ 49 ∷ 32 ∷ 48 ∷ 32 ∷ 48 ∷ 32 ∷ 48 ∷ 32 ∷ 48 ∷ 32 ∷ 83 ∷ 32 ∷ 100 ∷ 101 ∷ 97 ∷ 100 ∷ 98 ∷ 101 ∷ 101 ∷ 102 ∷ 10
      ∷ 69 ∷ 32 ∷ 50 ∷ 32 ∷ 49 ∷ 10 ∷ []
  -- "input ends before the end block": R 9 0 0
  pub nothing_read : list_of [] ≡ refused_with 57 48 48
  -- "D 16 is legal, 17 and 0 give 1 with field 3": R 9 0 0, R 1 0 3
  pub depth_16 : list_of (deep 16 1 24) ≡ refused_with 57 48 48
  pub depth_17 : list_of (deep 17 1 35) ≡ refused_with 49 48 51
  pub depth_0 : list_of (deep 0 0 104) ≡ refused_with 49 48 51
  -- "Any byte after the end block, however few follow, gives 8.": R 8 6 0 in place of the E line
  pub byte_after : list_of (file ++ 0 ∷ []) ≡ listing_lines ++ refused_with 56 54 48
  -- "Any one byte changed, in a block whose check holds, must be noticed.": the payload of cycle 0, R 7 0 0; the end total, R 7 6 0
  pub payload_changed : list_of (set file 527 0x12) ≡ refused_with 55 48 48
  pub total_changed : list_of (set file 1035 7) ≡ listing_lines ++ refused_with 55 54 48

pub printed : Printed
unfolding xor first_from every or_else in_range first_illegal illegal_field flit_of kind_of destination_of payload_of starts_kind ends_kind
    next_in_turn pointer_after blank_from arbiter.known arbiter.usable arbiter.choice arbiter.moved arbiter.after arbiter.fresh
    arbiter.sound queue_at places wire_of home_of flat total is_none all configuration_legal cycles_fit credits_whole credits_add_up legal_flit
    wire_place_legal wire_legal home_legal queues_legal output_credits_fit names_agree arbiters_sound reading reads packets_read channels_unused
    slots_empty line_unused arbiters_unused shaped sound front_of pushed moved_up popped over_ports part_wrong row_zero no_offer legal_offer
    row_legal advanced senders_paid reported credits_reached outputs_paid credits_returned landings landed offers offers_taken asks lowest_free_vc
    grant_of bindings arbiters_moved allocated is_ready input_pick request output_pick switched winner departures leaving_of run_full
    row_wrong credit_past_room out_of_turn no_sender_credit first_of judged taken_in sent_out router_after reply_of step_of fresh_router big_endian
    zeros sum check_value check_holds end_of_body can_hold good_place place_unsound block_short check_wrong has_wrong_kind has_wrong_number has_wrong_count
    has_wrong_unused has_wrong_order has_wrong_total form_wrong bytes_follow block_wrong field_wrong read_of taken judged_by_field trace.judged cycles_then file_from
    cut_into printed_of list_of glyph decimal_within decimal last_digits hex spaced print text by_port credit_line flit_line cycle_lines
    flit_lines letter_of
printed =
    record {
      whole_payload = refl;
      nothing_read = refl;
      depth_16 = refl;
      depth_17 = refl;
      depth_0 = refl;
      byte_after = refl;
      payload_changed = refl;
      total_changed = refl;
    }
