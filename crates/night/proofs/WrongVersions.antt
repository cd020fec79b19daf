-- What each edit under must-fail makes of its definition, kept alone under a wrong name, and by value an argument where the two differ.
-- Assumes nothing.
use Rattle.std.specs.Prelude.{Result}
use Rattle.std.specs.Prelude.{Ok, Err}
use mathlib.Core.Path.{refl, ap}
use mathlib.Core.Bool.{true, false, cond, xor}
use mathlib.Core.List.{List, [], ◌∷◌, ◌++◌}
use Prim.Native.Nat.{ℕ, ◌+◌}
use lib.Dec.{eqb}
use lib.ListN.{length, set, replicate, take}
use borrow.Author.Tests.{eqb-false}
use Rattle.base.specs.declared.reply.Departure.{Departure}
use Rattle.base.specs.Flit.{flit_of, kind_of, destination_of, payload_of, starts_kind, ends_kind}
use Rattle.base.specs.Search.{first_from, every, or_else}
use Rattle.base.specs.Sizes.{in_range, first_illegal, illegal_field}
use Rattle.arbiter.specs.RoundRobin.{next_in_turn, pointer_after}
use Rattle.arbiter.specs.Matrix.{blank_from}
use Rattle.arbiter.specs.Arbiter as arbiter
use Rattle.state.specs.declared.Router.{Router}
use Rattle.state.specs.Fresh.{fresh_router}
use Rattle.state.specs.Setters.{with_cycle}
use Rattle.state.specs.Sound.{is_none, all, configuration_legal, cycles_fit, credits_whole, credits_add_up, legal_flit, wire_place_legal}
use Rattle.state.specs.Sound.{wire_legal, home_legal, queues_legal, output_credits_fit, names_agree, arbiters_sound, reading, reads}
use Rattle.state.specs.Sound.{packets_read, channels_unused, slots_empty, line_unused, arbiters_unused, shaped, sound}
use Rattle.state.specs.Views.{queue_at, places, wire_of, home_of, flat, total}
use Rattle.state.proofs.SoundStates.{with_input, with_home_place, config, turns, unbound}
use Rattle.store.specs.Store.{front_of, pushed, moved_up, popped}
use Rattle.trace.specs.declared.place.Place.{Place}
use Rattle.trace.specs.Bytes.{big_endian, zeros}
use Rattle.trace.specs.Place.{can_hold, good_place}
use Rattle.trace.specs.Rules.{place_unsound, bytes_follow, block_short, check_wrong, block_wrong, field_wrong}
use Rattle.trace.specs.declared.judging.Found.{Found}
use Rattle.base.specs.declared.refusal.Refusal.{Refusal}
use Rattle.trace.specs.declared.judging.Found.TheVariants as found
use Rattle.trace.specs.Judged.{accepted, taken, judged_by_field}
use Rattle.trace.specs.Judged as trace
use Rattle.listing.specs.Lines.{Line, credit, flit, finish, refusal, by_port, credit_line, flit_line, cycle_lines, flit_lines}
use Rattle.base.specs.Refusal.{Verdict}
use Rattle.rules.specs.declared.Stepped.{Stepped}
use Rattle.rules.specs.Ports.{over_ports}
use Rattle.rules.specs.Rows.{row_zero, no_offer, legal_offer, row_legal}
use Rattle.rules.specs.Intake.{advanced, senders_paid, reported, credits_reached, outputs_paid, credits_returned, landings, landed, offers}
use Rattle.rules.specs.Intake.{offers_taken}
use Rattle.rules.specs.Allocation.{asks, lowest_free_vc, grant_of, bindings, arbiters_moved, allocated, is_ready, input_pick, request}
use Rattle.rules.specs.Allocation.{output_pick, switched, winner}
use Rattle.rules.specs.Departures.{departures, leaving_of}
use Rattle.rules.specs.Numbers.{run_full, part_wrong, row_wrong, credit_past_room, out_of_turn, no_sender_credit, first_of, judged}
use Rattle.rules.specs.Step.{taken_in, sent_out, router_after, reply_of, step_of}
use Rattle.rules.proofs.Differ.{Differ}
use Rattle.night.specs.File.{Ending, finishes, refuses, Printed, ends_at, after, cycle_then, cycles_then, block_then, file_from, last_line}

-- THE WRONG VERSIONS, each named like its edit.

-- of the last line
abbrev wrong_c_lines_counted_as_flits : Printed → Ending → Line
wrong_c_lines_counted_as_flits p finishes = finish p.cycles (length p.lines)
wrong_c_lines_counted_as_flits p (refuses n k) = refusal n p.cycles k

abbrev wrong_flits_of_the_first_line_only : Printed → Ending → Line
wrong_flits_of_the_first_line_only p finishes = finish p.cycles (flit_lines (take 1 p.lines))
wrong_flits_of_the_first_line_only p (refuses n k) = refusal n p.cycles k

-- of a block
abbrev wrong_ends_before_the_input_does : Result Found Refusal → Place → List ℕ → Router → (Place → Router → Printed) → Printed
wrong_ends_before_the_input_does (Err r) q block s rest = ends_at s (refuses r.number r.place)
wrong_ends_before_the_input_does (Ok (found.Configuration c)) q block s rest = rest q (fresh_router c)
wrong_ends_before_the_input_does (Ok (found.Cycles n)) q block s rest = cycles_then (rest q) block 0 n s
wrong_ends_before_the_input_does (Ok found.End) q block s rest = ends_at s finishes
wrong_ends_before_the_input_does (Ok found.Done) q block s rest = ends_at s finishes

-- of a cycle
abbrev wrong_goes_on_after_a_refusal : Verdict → Stepped → Router → (Router → Printed) → Printed
wrong_goes_on_after_a_refusal (Ok _) x s rest = after (cycle_lines s.cycle x.reply) (rest x.router)
wrong_goes_on_after_a_refusal (Err r) x s rest = rest x.router

abbrev wrong_lines_of_a_cycle_twice : Verdict → Stepped → Router → (Router → Printed) → Printed
wrong_lines_of_a_cycle_twice (Ok _) x s rest =
    after (cycle_lines s.cycle x.reply ++ cycle_lines s.cycle x.reply) (rest x.router)
wrong_lines_of_a_cycle_twice (Err r) x s rest = ends_at s (refuses r.number r.place)

abbrev wrong_works_in_cycle_0_and_only_counts_afterwards : Verdict → Stepped → Router → (Router → Printed) → Printed
wrong_works_in_cycle_0_and_only_counts_afterwards (Ok _) x s rest =
    after (cycle_lines s.cycle x.reply) (rest (cond (eqb s.cycle 0) x.router (with_cycle (s.cycle + 1) s)))
wrong_works_in_cycle_0_and_only_counts_afterwards (Err r) x s rest = ends_at s (refuses r.number r.place)

-- BY VALUE.

-- an F line, then a C and an F line of the next cycle
abbrev departure : Departure
departure = record { out_vc = 0; input = 0; vc = 0; kind = 4; payload = 7 }

abbrev printed : Printed
printed = record { lines = flit 1 1 departure ∷ credit 2 0 0 ∷ flit 2 1 departure ∷ []; cycles = 3; ending = finishes }

-- P = 2, V = 2, D = 3, E = 2, F = 2, B = 2: a credit of VC 0 of input 0 is on its way home, `later` cycles from its sender
abbrev homing : ℕ → Router
homing later = with_home_place later 0 1 (with_input 0 (unbound 2 false 0) turns)

abbrev idle : List ℕ
idle = replicate 64 0

-- a cycle of that router, by one version of `cycle_then`; and then the list ends, or one more cycle without offers comes
abbrev by_cycle : (Verdict → Stepped → Router → (Router → Printed) → Printed) → List ℕ → Router → (Router → Printed) → Printed
by_cycle version part s rest = version (step_of s part).verdict (step_of s part) s rest

abbrev ends : Router → Printed
ends s = ends_at s finishes

abbrev one_more : Router → Printed
one_more s = cycles_then ends (replicate 512 0) 0 1 s

-- the end block of a file with one byte after it, by one version of `block_then`
abbrev at_the_end : (Result Found Refusal → Place → List ℕ → Router → (Place → Router → Printed) → Printed) → Printed
at_the_end version =
    version (Ok found.End) (record { number = 2; configured = true; ended = true }) [] turns (file_from ((7 ∷ []) ∷ []))

abbrev flits_in : Line → ℕ
flits_in (credit n i v) = 0
flits_in (flit n o d) = 0
flits_in (finish n k) = k
flits_in (refusal n c p) = 0

abbrev number_in : Ending → ℕ
number_in finishes = 0
number_in (refuses n k) = n

-- THE TABLE: a field for each edit; the value of the right definition stands before that of the wrong one.
pub record WrongVersions : Type 0 where
  -- the E line
  pub c_lines_counted_as_flits : Differ (last_line printed finishes) (wrong_c_lines_counted_as_flits printed finishes) (finish 3 2) (finish 3 3)
  pub flits_of_the_first_line_only : Differ (last_line printed finishes) (wrong_flits_of_the_first_line_only printed finishes) (finish 3 2)
      (finish 3 1)
  -- how the list of a file ends that has a byte after its end block
  pub ends_before_the_input_does : Differ (at_the_end block_then).ending (at_the_end wrong_ends_before_the_input_does).ending (refuses 8 0) finishes
  -- how a list ends whose last cycle has kind 5 at port 1
  pub goes_on_after_a_refusal : Differ (by_cycle cycle_then (set idle 8 5) turns ends).ending
      (by_cycle wrong_goes_on_after_a_refusal (set idle 8 5) turns ends).ending (refuses 3 1) finishes
  -- how many lines a cycle has in which one credit reaches its sender
  pub lines_of_a_cycle_twice : Differ (length (by_cycle cycle_then idle (homing 0) ends).lines)
      (length (by_cycle wrong_lines_of_a_cycle_twice idle (homing 0) ends).lines) 1 2
  -- how many lines cycles 1 and 2 have, in the second of which one credit reaches its sender
  pub works_in_cycle_0_and_only_counts_afterwards : Differ
      (length (by_cycle cycle_then idle (with_cycle 1 (homing 1)) one_more).lines)
      (length (by_cycle wrong_works_in_cycle_0_and_only_counts_afterwards idle (with_cycle 1 (homing 1)) one_more).lines) 1 0

pub wrong_versions : WrongVersions
unfolding with_input with_home_place config turns unbound fresh_router xor first_from every or_else in_range first_illegal illegal_field flit_of
    kind_of destination_of payload_of starts_kind ends_kind next_in_turn pointer_after blank_from arbiter.known arbiter.usable arbiter.choice
    arbiter.moved arbiter.after arbiter.fresh arbiter.sound queue_at places wire_of home_of flat total is_none all configuration_legal
    cycles_fit credits_whole credits_add_up legal_flit wire_place_legal wire_legal home_legal queues_legal output_credits_fit names_agree arbiters_sound
    reading reads packets_read channels_unused slots_empty line_unused arbiters_unused shaped sound front_of pushed moved_up popped big_endian
    over_ports row_zero no_offer legal_offer row_legal advanced senders_paid reported credits_reached outputs_paid credits_returned landings landed
    offers offers_taken asks lowest_free_vc grant_of bindings arbiters_moved allocated is_ready input_pick request output_pick switched winner
    departures leaving_of run_full part_wrong row_wrong credit_past_room out_of_turn no_sender_credit first_of judged taken_in sent_out router_after
    reply_of step_of zeros can_hold good_place place_unsound bytes_follow block_short check_wrong block_wrong field_wrong taken judged_by_field trace.judged
    by_port credit_line flit_line cycle_lines flit_lines cycles_then file_from
wrong_versions =
    record {
      c_lines_counted_as_flits = record { right_is = refl; wrong_is = refl; apart = λ e. eqb-false 2 3 refl (ap flits_in e) };
      flits_of_the_first_line_only = record { right_is = refl; wrong_is = refl; apart = λ e. eqb-false 2 1 refl (ap flits_in e) };
      ends_before_the_input_does = record { right_is = refl; wrong_is = refl; apart = λ e. eqb-false 8 0 refl (ap number_in e) };
      goes_on_after_a_refusal = record { right_is = refl; wrong_is = refl; apart = λ e. eqb-false 3 0 refl (ap number_in e) };
      lines_of_a_cycle_twice = record { right_is = refl; wrong_is = refl; apart = eqb-false 1 2 refl };
      works_in_cycle_0_and_only_counts_afterwards = record { right_is = refl; wrong_is = refl; apart = eqb-false 1 0 refl };
    }
