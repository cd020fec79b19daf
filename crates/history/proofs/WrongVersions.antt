-- What each edit under must-fail makes of its definition, kept alone under a wrong name, and by value a run or cycle where the two differ.
-- Assumes nothing.
use Rattle.std.specs.Prelude.{Ok, Err}
use mathlib.Core.Path.{◌≡◌, refl}
use mathlib.Core.Bool.{cond, xor}
use mathlib.Core.List.{List, [], ◌∷◌, map}
use Rattle.std.specs.Prelude.{Option, Some, None}
use Prim.Native.Nat.{ℕ, suc, ◌+◌}
use native.Mathlib.Omega.{arith}
use lib.ListN.{length, get_or, set, replicate}
use borrow.Author.Tests.{eqb-false}
use Rattle.base.specs.declared.config.Config.{Config}
use Rattle.base.specs.declared.flit.Flit.{Flit}
use Rattle.base.specs.declared.reply.Departure as reply
use Rattle.base.specs.declared.reply.Reply.{Reply}
use Rattle.base.specs.Flit as kinds
use Rattle.base.specs.Flit.{flit_of, kind_of, destination_of, payload_of, starts_kind, ends_kind}
use Rattle.base.specs.Reply.{empty_reply}
use Rattle.base.specs.Search.{first_from, every, or_else}
use Rattle.base.specs.Sizes.{sized, in_range, first_illegal, illegal_field}
use Rattle.arbiter.specs.RoundRobin.{next_in_turn, pointer_after}
use Rattle.arbiter.specs.Matrix.{blank_from}
use Rattle.arbiter.specs.Arbiter as arbiter
use Rattle.model.specs.Lists.{All, each}
use Rattle.model.specs.History.{Departure, Entry, History, up_to, after, accepted, left_from}
use Rattle.state.specs.declared.Router.{Router}
use Rattle.state.specs.Fresh.{fresh_router}
use Rattle.state.specs.Sound.{is_none, all, configuration_legal, cycles_fit, credits_whole, credits_add_up, legal_flit, wire_place_legal}
use Rattle.state.specs.Sound.{wire_legal, home_legal, queues_legal, output_credits_fit, names_agree, arbiters_sound, reading, reads}
use Rattle.state.specs.Sound.{packets_read, channels_unused, slots_empty, line_unused, arbiters_unused, shaped, sound}
use Rattle.state.specs.Views.{queue_at, places, wire_of, home_of, flat, total}
use Rattle.store.specs.Store.{front_of, pushed, moved_up, popped}
use Rattle.trace.specs.Bytes.{AreBytes, big_endian}
use Rattle.trace.proofs.Sealed.{known_bytes}
use Rattle.base.specs.Refusal.{Verdict}
use Rattle.rules.specs.declared.Stepped.{Stepped}
use Rattle.rules.specs.Ports.{over_ports}
use Rattle.rules.specs.Rows.{row_zero, no_offer, legal_offer, row_legal}
use Rattle.rules.specs.Intake.{advanced, senders_paid, reported, credits_reached, outputs_paid, credits_returned, landings, landed, offers}
use Rattle.rules.specs.Intake.{offers_taken}
use Rattle.rules.specs.Allocation.{asks, lowest_free_vc, grant_of, bindings, arbiters_moved, allocated, is_ready, input_pick, request}
use Rattle.rules.specs.Allocation.{output_pick, switched, winner}
use Rattle.rules.specs.Departures.{departures, leaving_of}
use Rattle.rules.specs.Numbers.{run_full, part_wrong, row_wrong, credit_past_room, out_of_turn, no_sender_credit, first_of, judged}
use Rattle.rules.specs.Step.{taken_in, sent_out, router_after, reply_of, step_of}
use Rattle.rules.proofs.Differ.{Differ}
use Rattle.history.specs.Run.{departure_in, departures_in, entry_of, Ran, recorded, run_from, run_of}
use Rattle.history.specs.Demand3.{stored_credits, buffered, on_wire, going_home, InputDemand}
use Rattle.history.proofs.Demand3.{demand3}

-- THE WRONG VERSIONS, each named like its edit.

-- of demand 3's counts, of VC v of input i after cycle t
module _ (c : Config) (s : Router) (h : History Flit) (t i v : ℕ) where
  abbrev OnTheWireOneCycleMore : Type 0
  OnTheWireOneCycleMore = length (on_wire c s i v) ≡ length (accepted i v (after t (suc c.forward) h))

  abbrev BufferedOneCycleLater : Type 0
  BufferedOneCycleLater = buffered c s i v + length (left_from i v (up_to t 0 h)) ≡ length (accepted i v (up_to t (suc c.forward) h))

  abbrev BufferedWhenAccepted : Type 0
  BufferedWhenAccepted = buffered c s i v + length (left_from i v (up_to t 0 h)) ≡ length (accepted i v (up_to t 0 h))

  abbrev ServesWhenTheFlitLeaves : Type 0
  ServesWhenTheFlitLeaves = stored_credits c s i v + length (accepted i v (up_to t 0 h)) ≡ c.depth + length (left_from i v (up_to t 0 h))

  abbrev CountedTwiceOnItsWay : Type 0
  CountedTwiceOnItsWay = going_home c s i v + going_home c s i v ≡ length (left_from i v (after t c.back h))

  abbrev CountedTwiceInTheDepth : Type 0
  CountedTwiceInTheDepth =
      stored_credits c s i v + length (on_wire c s i v) + buffered c s i v + (going_home c s i v + going_home c s i v) ≡ c.depth

-- of a departure
abbrev wrong_body_has_a_destination : ℕ → Option reply.Departure → List (Departure Flit)
wrong_body_has_a_destination o None = []
wrong_body_has_a_destination o (Some d) =
    record { output = o; out_vc = d.out_vc; input = d.input; vc = d.vc; flit = flit_of d.kind o d.payload } ∷ []

abbrev wrong_input_vc_for_output_vc : ℕ → Option reply.Departure → List (Departure Flit)
wrong_input_vc_for_output_vc o None = []
wrong_input_vc_for_output_vc o (Some d) =
    record {
      output = o;
      out_vc = d.vc;
      input = d.input;
      vc = d.vc;
      flit = flit_of d.kind (cond (starts_kind d.kind) o 0) d.payload;
    } ∷ []

abbrev wrong_departures_of_the_last_outputs_lost : Config → Reply → List (Departure Flit)
wrong_departures_of_the_last_outputs_lost c r =
    each c.vcs (λ o. departure_in o (get_or r.outputs o None))

-- of a cycle of a run
abbrev wrong_cycles_numbered_from_one : Config → List ℕ → Ran → Verdict → Stepped → Ran
wrong_cycles_numbered_from_one c part r (Ok _) x = record
    { router = x.router; history = entry_of c (suc (length r.history)) part x.reply ∷ r.history }
wrong_cycles_numbered_from_one c part r (Err n) x = r

abbrev wrong_refused_cycle_leaves_a_trace : Config → List ℕ → Ran → Verdict → Stepped → Ran
wrong_refused_cycle_leaves_a_trace c part r (Ok _) x = record
    { router = x.router; history = entry_of c (length r.history) part x.reply ∷ r.history }
wrong_refused_cycle_leaves_a_trace c part r (Err n) x = record
    { router = x.router; history = entry_of c (length r.history) part x.reply ∷ r.history }

abbrev wrong_run_only_counts : Config → List ℕ → Ran → Verdict → Stepped → Ran
wrong_run_only_counts c part r (Ok _) x = record
    { router = r.router; history = entry_of c (length r.history) part x.reply ∷ r.history }
wrong_run_only_counts c part r (Err n) x = r

-- BY VALUE: P = 3, V = 2, D = 2, E = 2, F = B = 1. VC 1 of input 0 offers H for output 2, then B, then T.
abbrev c : Config
c = sized 3 2 2 2 1 1 1

-- a part in which port 0 offers on its VC 1
abbrev offering : ℕ → ℕ → ℕ → List ℕ
offering kind destination payload = kind ∷ 1 ∷ destination ∷ 0 ∷ 0 ∷ 0 ∷ 0 ∷ payload ∷ replicate 56 0

abbrev parts : List (List ℕ)
parts = offering kinds.head 2 7 ∷ offering kinds.body 0 8 ∷ offering kinds.tail 0 9 ∷ []

bytes : All AreBytes parts
bytes = (
  known_bytes (offering kinds.head 2 7) refl,
  (known_bytes (offering kinds.body 0 8) refl, (known_bytes (offering kinds.tail 0 9) refl, tt)),
)

abbrev ran : Ran
ran = run_of c parts

-- a sentence of demand 3 of that VC, after cycle 2: T is on the wire, B's credit on its way home
abbrev Said : (Config → Router → History Flit → ℕ → ℕ → ℕ → Type 0) → Type 0
Said sentence = sentence c ran.router ran.history 2 0 1

-- the body that leaves in cycle 2, by VC 0 of output 2, and a reply with it
abbrev departing : reply.Departure
departing = record { out_vc = 0; input = 0; vc = 1; kind = kinds.body; payload = 8 }

abbrev reporting : Reply
reporting = record { senders = empty_reply.senders; outputs = set empty_reply.outputs 2 (Some departing) }

-- what is asked of the first departure
abbrev of_first : (Departure Flit → ℕ) → List (Departure Flit) → ℕ
of_first of ds = get_or (map of ds) 0 9

-- the first cycle of the run, by one version of `recorded`; and one whose part is refused
abbrev first : (Config → List ℕ → Ran → Verdict → Stepped → Ran) → List ℕ → Ran
first version part =
    version c part (record { router = fresh_router c; history = [] }) (step_of (fresh_router c) part).verdict (step_of (fresh_router c) part)

abbrev numbers : Ran → List ℕ
numbers r = map (λ (e : Entry Flit). e.cycle) r.history

-- THE TABLE: a field for each edit; the value of the right definition stands before that of the wrong one.
pub record WrongVersions : Type 0 where
  -- all of it as it is
  pub said : Said InputDemand
  -- the edits of demand 3 that are of two sentences have both
  pub arrival_after_one_cycle_more : (Said OnTheWireOneCycleMore → ⊥) × (Said BufferedOneCycleLater → ⊥)
  pub flit_buffered_when_accepted : Said BufferedWhenAccepted → ⊥
  pub credit_serves_when_the_flit_leaves : Said ServesWhenTheFlitLeaves → ⊥
  pub credit_counted_twice_on_its_way_home : (Said CountedTwiceOnItsWay → ⊥) × (Said CountedTwiceInTheDepth → ⊥)
  -- the destination of the body, and its output VC
  pub body_has_a_destination : Differ (of_first (λ (d : Departure Flit). destination_of d.flit) (departure_in 2 (Some departing)))
      (of_first (λ (d : Departure Flit). destination_of d.flit) (wrong_body_has_a_destination 2 (Some departing))) 0 2
  pub input_vc_for_output_vc : Differ (of_first (λ (d : Departure Flit). d.out_vc) (departure_in 2 (Some departing)))
      (of_first (λ (d : Departure Flit). d.out_vc) (wrong_input_vc_for_output_vc 2 (Some departing))) 0 1
  -- how many departures the reply has
  pub departures_of_the_last_outputs_lost : Differ (length (departures_in c reporting)) (length (wrong_departures_of_the_last_outputs_lost c reporting))
      1 0
  -- the number of the first accepted cycle
  pub cycles_numbered_from_one : Differ (get_or (numbers (first recorded (offering kinds.head 2 7))) 0 9)
      (get_or (numbers (first wrong_cycles_numbered_from_one (offering kinds.head 2 7))) 0 9) 0 1
  -- how many cycles the history has after an empty part, which is refused
  pub refused_cycle_leaves_a_trace : Differ (length (first recorded []).history) (length (first wrong_refused_cycle_leaves_a_trace []).history) 0 1
  -- the stored credits after an offer
  pub run_only_counts : Differ (stored_credits c (first recorded (offering kinds.head 2 7)).router 0 1)
      (stored_credits c (first wrong_run_only_counts (offering kinds.head 2 7)).router 0 1) 1 2

pub wrong_versions : WrongVersions
unfolding fresh_router xor first_from every or_else in_range first_illegal illegal_field flit_of kind_of destination_of payload_of starts_kind ends_kind
    next_in_turn pointer_after blank_from arbiter.known arbiter.usable arbiter.choice arbiter.moved arbiter.after arbiter.fresh arbiter.sound
    queue_at places wire_of home_of flat total is_none all configuration_legal cycles_fit credits_whole credits_add_up legal_flit wire_place_legal
    wire_legal home_legal queues_legal output_credits_fit names_agree arbiters_sound reading reads packets_read channels_unused slots_empty line_unused
    arbiters_unused shaped sound front_of pushed moved_up popped big_endian over_ports row_zero no_offer legal_offer row_legal advanced senders_paid
    reported credits_reached outputs_paid credits_returned landings landed offers offers_taken asks lowest_free_vc grant_of bindings arbiters_moved
    allocated is_ready input_pick request output_pick switched winner departures leaving_of run_full part_wrong row_wrong
    credit_past_room out_of_turn no_sender_credit first_of judged taken_in sent_out router_after reply_of step_of entry_of run_from run_of
wrong_versions =
    record {
      said = (demand3 c refl parts bytes 2 refl).inputs 0 1 (omega arith) (omega arith);
      arrival_after_one_cycle_more = (eqb-false 1 2 refl, eqb-false 2 1 refl);
      flit_buffered_when_accepted = eqb-false 2 3 refl;
      credit_serves_when_the_flit_leaves = eqb-false 3 4 refl;
      credit_counted_twice_on_its_way_home = (eqb-false 2 1 refl, eqb-false 3 2 refl);
      body_has_a_destination = record { right_is = refl; wrong_is = refl; apart = eqb-false 0 2 refl };
      input_vc_for_output_vc = record { right_is = refl; wrong_is = refl; apart = eqb-false 0 1 refl };
      departures_of_the_last_outputs_lost = record { right_is = refl; wrong_is = refl; apart = eqb-false 1 0 refl };
      cycles_numbered_from_one = record { right_is = refl; wrong_is = refl; apart = eqb-false 0 1 refl };
      refused_cycle_leaves_a_trace = record { right_is = refl; wrong_is = refl; apart = eqb-false 0 1 refl };
      run_only_counts = record { right_is = refl; wrong_is = refl; apart = eqb-false 1 2 refl };
    }
