-- What each edit under must-fail makes of its definition, kept alone under a wrong name, and by value a sound router or a part where the
-- two differ.
-- Assumes nothing.
use Rattle.std.specs.Prelude.{Ok, Err}
use mathlib.Core.Path.{◌≡◌, refl, sym}
use mathlib.Core.Bool.{Bool, true, false, cond, not, xor, ◌&&◌, true≢false, false≢true}
use mathlib.Core.List.{List, [], ◌∷◌}
use Rattle.std.specs.Prelude.{Option, Some, None}
use Rattle.std.proofs.lemmas.Option.{same_Some, none-some}
use Rattle.std.specs.Prelude.{option_map, unwrap_or}
use Prim.Native.Nat.{ℕ, ◌+◌, ◌-◌}
use lib.Dec.{eqb, leb}
use lib.ListN.{get_or, set, replicate}
use borrow.Author.Tests.{eqb-false}
use Rattle.base.specs.declared.config.Config.{Config}
use Rattle.base.specs.declared.reply.Departure.{Departure}
use Rattle.base.specs.Flit.{flit_of, kind_of, destination_of, payload_of, starts_kind, ends_kind}
use Rattle.base.specs.Numbers as numbers
use Rattle.base.specs.Reply.{empty_reply}
use Rattle.base.specs.Search.{first_from, every, or_else}
use Rattle.base.specs.Sizes.{in_range, first_illegal, illegal_field}
use Rattle.arbiter.specs.RoundRobin.{next_in_turn, pointer_after}
use Rattle.arbiter.specs.Matrix.{blank_from}
use Rattle.arbiter.specs.Arbiter as arbiter
use Rattle.arbiter.specs.Arbiter.{choice}
use Rattle.state.specs.declared.InVc.{InVc}
use Rattle.state.specs.declared.Binding.{Binding}
use Rattle.state.specs.declared.Binding.TheVariants.{Unbound, Bound}
use Rattle.state.specs.declared.InputVc.{InputVc}
use Rattle.state.specs.declared.OutputVc.{OutputVc}
use Rattle.state.specs.declared.Router.{Router}
use Rattle.state.specs.Fresh.{fresh_router, fresh_output}
use Rattle.state.specs.Setters.{set_binding, with_queued, with_cycle, with_inputs, with_outputs, with_store, with_home, with_arbiters}
use Rattle.state.specs.Sound.{is_none, is_vc_free, all, configuration_legal, cycles_fit, credits_whole, credits_add_up, legal_flit, wire_place_legal}
use Rattle.state.specs.Sound.{wire_legal, home_legal, queues_legal, output_credits_fit, names_agree, arbiters_sound, reading, reads}
use Rattle.state.specs.Sound.{packets_read, channels_unused, slots_empty, line_unused, arbiters_unused, shaped, sound}
use Rattle.state.specs.Views.{channel_number, input_at, output_at, output_arbiter, vc_arbiter, home_place, wire_place, wire_vc}
use Rattle.state.specs.Views.{queue_at, places, wire_of, home_of, flat, total}
use Rattle.state.proofs.SoundStates.{with_input, with_output, with_slot, with_wire_place, with_home_place, config, turns, unbound, bound}
use Rattle.state.proofs.SoundStates.{held, single, body, on, stored, queue}
use Rattle.store.specs.Store.{front_of, pushed, moved_up, popped}
use Rattle.trace.specs.Bytes.{big_endian}
use Rattle.base.specs.Refusal.{Verdict}
use Rattle.rules.specs.declared.Stepped.{Stepped}
use Rattle.rules.specs.Ports.{over_ports}
use Rattle.rules.specs.Rows.{row_zero, no_offer, legal_offer, row_legal}
use Rattle.rules.specs.Intake.{newest, advanced, senders_paid, credits_reached, outputs_paid, credits_returned, landings, landed, offers}
use Rattle.rules.specs.Intake.{offers_taken}
use Rattle.rules.specs.Allocation.{asks, lowest_free_vc, grant_of, bindings, arbiters_moved, allocated, is_ready, ready, input_pick}
use Rattle.rules.specs.Allocation.{is_for, request, output_pick, switched, vc_of, winner}
use Rattle.rules.specs.Departures.{Leaving, input_left, departed, goes_out, departures, leaving_of}
use Rattle.base.specs.Refusal.{refusing, number_of}
use Rattle.rules.specs.Numbers.{Rule, rule2, rules_for, rules_of, first_of, run_full, part_wrong, row_wrong}
use Rattle.rules.specs.Numbers.{credit_past_room, out_of_turn, no_sender_credit}
use Rattle.rules.specs.Step.{taken_in, sent_out, router_after, reply_of, step_by}
use Rattle.rules.proofs.Differ.{Differ}

-- THE WRONG VERSIONS, each named like its edit.

-- of phase 7
abbrev wrong_body_on_another_output_vc : Config → ℕ → ℕ → ℕ → Binding → Leaving → Leaving
wrong_body_on_another_output_vc c o i v Unbound l = l
wrong_body_on_another_output_vc c o i v (Bound b) l =
    departed c o (cond (starts_kind (kind_of (front_of l.store (channel_number c i v)))) b.vc (c.vcs - 1 - b.vc)) i v
    (front_of l.store (channel_number c i v)) l

abbrev wrong_departure_stays_in_its_queue : Bool → InputVc → InputVc
wrong_departure_stays_in_its_queue ends x = set_binding (cond ends Unbound x.binding) (with_queued x.queued x)

abbrev wrong_departure_stays_in_the_store : Router → Router
wrong_departure_stays_in_the_store s =
    with_cycle (s.cycle + 1) (with_arbiters (switched s)
    (with_inputs (leaving_of s).inputs (with_outputs (leaving_of s).outputs
    (with_store s.store (with_home (leaving_of s).home s)))))

-- of phase 6
abbrev wrong_body_routed_by_its_destination : Router → ℕ → ℕ → Bool
wrong_body_routed_by_its_destination s i o =
    ready s.config s.inputs s.outputs i (unwrap_or (input_pick s i) 0)
    && eqb (destination_of (front_of s.store (channel_number s.config i (unwrap_or (input_pick s i) 0)))) o

abbrev wrong_two_vcs_of_one_input_leave : Router → ℕ → Option InVc
wrong_two_vcs_of_one_input_leave s o = vc_of pick (choice 8 s.config.arbiter s.config.ports (λ (i : ℕ). not (is_none (pick i)))
    (output_arbiter s.arbiters o))
  where
    pick : ℕ → Option ℕ
    pick i =
        first_from (λ (v : ℕ). ready s.config s.inputs s.outputs i v && is_for o (input_at s.config s.inputs i v).binding)
        s.config.vcs 0

-- of phase 5
abbrev wrong_credit_needed_to_bind : Config → List OutputVc → ℕ → Option ℕ
wrong_credit_needed_to_bind c outputs o =
    first_from (λ (w : ℕ). is_vc_free (output_at c outputs o w).holder && leb 1 (output_at c outputs o w).credit) c.vcs 0

abbrev wrong_highest_free_vc : Config → List OutputVc → ℕ → Option ℕ
wrong_highest_free_vc c outputs o =
    option_map (λ (w : ℕ). c.vcs - (1 + w)) (first_from (λ (w : ℕ). is_vc_free (output_at c outputs o (c.vcs - (1 + w))).holder) c.vcs 0)

-- of the cycle
abbrev wrong_credit_home_when_queued : List ℕ → Router → Router
wrong_credit_home_when_queued part s =
    with_home (over_ports s.config.ports
    (λ home i. cond (eqb (wire_place s.wire 0 i) 0) home
    (set home (newest s.config.back i) (wire_vc (wire_place s.wire 0 i) + 1))) (taken_in part s).home)
    (sent_out (allocated (taken_in part s)))

abbrev wrong_freed_and_given_out_in_one_cycle : List ℕ → Router → Router
wrong_freed_and_given_out_in_one_cycle part s = allocated (sent_out (allocated (taken_in part s)))

abbrev wrong_refused_cycle_moves_a_pointer : Verdict → List ℕ → Router → Stepped
wrong_refused_cycle_moves_a_pointer (Ok _) part s = record { verdict = Ok tt; router = router_after part s; reply = reply_of part s }
wrong_refused_cycle_moves_a_pointer (Err r) part s = record { verdict = Err r; router = allocated s; reply = empty_reply }

-- of the numbers
abbrev wrong_five_before_phase_1 : Router → List ℕ → List Rule
wrong_five_before_phase_1 s part = rule2 s ∷ rules_for s.config s.cycle s.inputs s.inputs s.outputs part

abbrev wrong_idle_row_not_looked_at : List ℕ → ℕ → Bool
wrong_idle_row_not_looked_at part i = true

abbrev wrong_ports_beyond_p_not_looked_at : List ℕ → ℕ → Bool
wrong_ports_beyond_p_not_looked_at part i = true

-- SOUND ROUTERS, P = 2, V = 2, D = 3, E = 2, F = 2, B = 2, and what is looked at.
abbrev c : Config
c = config 1

-- VC 0 of input 0 is bound to VC 0 of output 1, its head has left, a body is queued
abbrev under_way : Router
under_way = with_output 2 (held 0 0 2) (queue (body ∷ []) (with_input 0 (bound 1 0 2 true 1) turns))

abbrev channel : InputVc
channel = input_at c under_way.inputs 0 0

-- phase 7 before anything has left
abbrev leaving : Leaving
leaving =
    record {
      inputs = under_way.inputs;
      outputs = under_way.outputs;
      store = under_way.store;
      home = under_way.home;
      left = replicate 8 None;
    }

-- the VC that a flit has left by at output 1
abbrev left_by : Leaving → Option ℕ
left_by l = option_map (λ (d : Departure). d.out_vc) (get_or l.left 1 None)

-- VC 0 of input 0 has a single for output 1 queued, VC 1 one for output 0
abbrev both_ready : Router
both_ready = with_slot 16 (single 0) (with_input 1 (unbound 2 false 1) (queue (single 1 ∷ []) (with_input 0 (unbound 2 false 1) turns)))

-- VC 0 of input 0 has a single for output 1 queued, and another lands at VC 0 of input 1
abbrev rivals : Router
rivals =
    with_wire_place 0 1 (on 0 (single 1)) (with_input 2 (unbound 2 false 0) (queue (single 1 ∷ []) (with_input 0 (unbound 2 false 1) turns)))

-- output 1 has no credit left
abbrev spent : Router
spent = with_output 3 (fresh_output 0) (with_output 2 (fresh_output 0) turns)

-- VC 0 of input 0 has no sender credit, and one comes home just now
abbrev coming_home : Router
coming_home = with_home_place 0 0 1 (queue (single 1 ∷ single 1 ∷ []) (with_input 0 (unbound 0 false 2) turns))

-- a part in which nobody brings anything, and one in which port 0 brings a single for output 1
abbrev idle : List ℕ
idle = replicate 64 0

abbrev offering : List ℕ
offering = set (set idle 0 4) 2 1

-- THE TABLE: a field for each edit; the value of the right definition stands before that of the wrong one.
pub record WrongVersions : Type 0 where
  pub routers_sound : (sound under_way ≡ true) × (sound both_ready ≡ true) × (sound rivals ≡ true) × (sound spent ≡ true)
      × (sound coming_home ≡ true)
  -- the VC that the body leaves by; its head left by VC 0
  pub body_on_another_output_vc : Differ (left_by (goes_out c 1 0 0 channel.binding leaving))
      (left_by (wrong_body_on_another_output_vc c 1 0 0 channel.binding leaving)) (Some 0) (Some 1)
  -- whether the body asks for output 1, that it is bound to
  pub body_routed_by_its_destination : Differ (request under_way 0 1) (wrong_body_routed_by_its_destination under_way 0 1) true false
  -- how many are queued behind the one that leaves, and the slot that it left: the edit is of two definitions
  pub departure_stays_in_its_queue : Differ (input_left false channel).queued (wrong_departure_stays_in_its_queue false channel).queued 0 1
      × Differ (get_or (sent_out under_way).store 0 0) (get_or (wrong_departure_stays_in_the_store under_way).store 0 0) 0 body
  -- who wins output 0, where VC 0 of input 0 wins output 1
  pub two_vcs_of_one_input_leave : Differ (winner (allocated both_ready) 0) (wrong_two_vcs_of_one_input_leave (allocated both_ready) 0)
      None (Some (record { input = 0; vc = 1 }))
  -- which VC of output 1 is given out
  pub credit_needed_to_bind : Differ (lowest_free_vc c spent.outputs 1) (wrong_credit_needed_to_bind c spent.outputs 1) (Some 0) None
  pub highest_free_vc : Differ (lowest_free_vc c turns.outputs 1) (wrong_highest_free_vc c turns.outputs 1) (Some 0) (Some 1)
  -- the newest credit of input 1 on its way home; its flit has landed and stays
  pub credit_home_when_queued : Differ (home_place (router_after idle rivals).home 1 1)
      (home_place (wrong_credit_home_when_queued idle rivals).home 1 1) 0 1
  -- whether VC 0 of output 1 is free after the cycle in which a single has left by it
  pub freed_and_given_out_in_one_cycle : Differ (is_vc_free (output_at c (router_after idle rivals).outputs 1 0).holder)
      (is_vc_free (output_at c (wrong_freed_and_given_out_in_one_cycle idle rivals).outputs 1 0).holder) true false
  -- the pointer of output 1's VC arbiter after a refused cycle
  pub refused_cycle_moves_a_pointer : Differ (vc_arbiter (step_by (refusing numbers.row_wrong 0) idle rivals).router.arbiters 1).pointer
      (vc_arbiter (wrong_refused_cycle_moves_a_pointer (refusing numbers.row_wrong 0) idle rivals).router.arbiters 1).pointer 0 1
  -- the number of an offer that the credit just come home pays for
  pub five_before_phase_1 : Differ (number_of (first_of (rules_of coming_home offering)))
      (number_of (first_of (wrong_five_before_phase_1 coming_home offering))) numbers.done numbers.no_sender_credit
  -- whether the row of port 1, which brings no flit but a VC, is right; and that of port 2, with a credit
  pub idle_row_not_looked_at : Differ (no_offer (set idle 9 1) 1) (wrong_idle_row_not_looked_at (set idle 9 1) 1) false true
  pub ports_beyond_p_not_looked_at : Differ (row_zero (set idle 19 1) 2) (wrong_ports_beyond_p_not_looked_at (set idle 19 1) 2) false true

unlike : (m n : ℕ) → eqb m n ≡ false → Some m ≡ Some n → ⊥
unlike m n e q = eqb-false m n e (same_Some m n q)

pub wrong_versions : WrongVersions
unfolding with_input with_output with_slot with_wire_place with_home_place config turns unbound bound held single body on stored queue fresh_router
    xor first_from every or_else in_range first_illegal illegal_field flit_of kind_of destination_of payload_of starts_kind ends_kind next_in_turn
    pointer_after blank_from arbiter.known arbiter.usable arbiter.choice arbiter.moved arbiter.after arbiter.fresh arbiter.sound queue_at
    places wire_of home_of flat total is_none all configuration_legal cycles_fit credits_whole credits_add_up legal_flit wire_place_legal wire_legal
    home_legal queues_legal output_credits_fit names_agree arbiters_sound reading reads packets_read channels_unused slots_empty line_unused
    arbiters_unused shaped sound front_of pushed moved_up popped big_endian over_ports row_zero no_offer legal_offer row_legal advanced senders_paid
    credits_reached outputs_paid credits_returned landings landed offers offers_taken asks lowest_free_vc grant_of bindings arbiters_moved
    allocated is_ready input_pick request output_pick switched winner departures leaving_of run_full part_wrong row_wrong credit_past_room out_of_turn
    no_sender_credit first_of taken_in sent_out router_after
wrong_versions =
    record {
      routers_sound = (refl, refl, refl, refl, refl);
      body_on_another_output_vc = record { right_is = refl; wrong_is = refl; apart = unlike 0 1 refl };
      body_routed_by_its_destination = record { right_is = refl; wrong_is = refl; apart = true≢false };
      departure_stays_in_its_queue = (
        record { right_is = refl; wrong_is = refl; apart = eqb-false 0 1 refl },
        record { right_is = refl; wrong_is = refl; apart = eqb-false 0 _ refl },
      );
      two_vcs_of_one_input_leave = record { right_is = refl; wrong_is = refl; apart = none-some _ };
      credit_needed_to_bind = record { right_is = refl; wrong_is = refl; apart = λ e. none-some _ (sym e) };
      highest_free_vc = record { right_is = refl; wrong_is = refl; apart = unlike 0 1 refl };
      credit_home_when_queued = record { right_is = refl; wrong_is = refl; apart = eqb-false 0 1 refl };
      freed_and_given_out_in_one_cycle = record { right_is = refl; wrong_is = refl; apart = true≢false };
      refused_cycle_moves_a_pointer = record { right_is = refl; wrong_is = refl; apart = eqb-false 0 1 refl };
      five_before_phase_1 = record { right_is = refl; wrong_is = refl; apart = eqb-false 0 5 refl };
      idle_row_not_looked_at = record { right_is = refl; wrong_is = refl; apart = false≢true };
      ports_beyond_p_not_looked_at = record { right_is = refl; wrong_is = refl; apart = false≢true };
    }
