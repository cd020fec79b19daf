-- The end of a run, parts of a wrong length, and offers that are refused, by value.
-- Assumes nothing.
use Rattle.std.specs.Prelude.{Ok}
use mathlib.Core.Path.{◌≡◌, refl, sym, ap, ◌∙◌}
use mathlib.Core.Bool.{true, false, not, xor}
use mathlib.Core.List.{List}
use Rattle.std.specs.Prelude.{Some}
use Prim.Native.Nat.{ℕ}
use native.Mathlib.Omega.{arith}
use lib.Dec.{eqb}
use lib.ListN.{length, replicate, set}
use borrow.Author.Tests.{eqb-false}
use Rattle.base.specs.Flit.{flit_of, kind_of, destination_of, payload_of, starts_kind, ends_kind}
use Rattle.base.specs.Numbers as numbers
use Rattle.base.specs.Reply.{empty_reply}
use Rattle.base.specs.Search.{first_from, every, or_else}
use Rattle.base.specs.Sizes.{illegal_field, first_illegal, in_range}
use Rattle.arbiter.specs.RoundRobin.{next_in_turn, pointer_after}
use Rattle.arbiter.specs.Matrix.{blank_from}
use Rattle.arbiter.specs.Arbiter as arbiter
use Rattle.state.specs.declared.Router.{Router}
use Rattle.state.specs.Fresh.{fresh_router}
use Rattle.state.specs.Views.{queue_at, places, wire_of, home_of, flat, total}
use Rattle.state.specs.Sound.{is_none, all, configuration_legal, cycles_fit, credits_whole, credits_add_up, legal_flit, wire_place_legal}
use Rattle.state.specs.Sound.{wire_legal, home_legal, queues_legal, output_credits_fit, names_agree, arbiters_sound, reading, reads}
use Rattle.state.specs.Sound.{packets_read, channels_unused, slots_empty, line_unused, arbiters_unused, shaped, sound}
use Rattle.store.specs.Store.{front_of, pushed, moved_up, popped}
use Rattle.state.proofs.SoundStates.{with_input, with_output, with_slot, with_wire_place, with_home_place, config, turns, unbound, bound}
use Rattle.state.proofs.SoundStates.{held, head, single, body, on}
use Rattle.trace.specs.Bytes.{big_endian}
use Rattle.state.specs.Setters.{with_cycle}
use Rattle.rules.specs.declared.Stepped.{Stepped}
use Rattle.rules.specs.Ports.{over_ports}
use Rattle.rules.specs.Rows.{row_zero, no_offer, legal_offer, row_legal}
use Rattle.rules.specs.Intake.{advanced, senders_paid, reported, credits_reached, outputs_paid, credits_returned, landings, landed, offers}
use Rattle.rules.specs.Intake.{offers_taken}
use Rattle.rules.specs.Allocation.{asks, lowest_free_vc, grant_of, bindings, arbiters_moved, allocated, is_ready, input_pick, request}
use Rattle.rules.specs.Allocation.{output_pick, switched, winner}
use Rattle.rules.specs.Departures.{departures, leaving_of}
use Rattle.base.specs.Refusal.{refusing}
use Rattle.rules.specs.Numbers.{run_full, part_wrong, row_wrong, rule3, credit_past_room, out_of_turn, no_sender_credit, first_of}
use Rattle.rules.specs.Numbers.{judged}
use Rattle.rules.specs.Step.{taken_in, sent_out, router_after, reply_of, step_of}
use Rattle.rules.proofs.FirstRule.{also, done, found}
use Rattle.rules.proofs.Exactness.{NoneBefore, ten_exactly, part_exactly, row_exactly}
use Rattle.edges.specs.States.{busy, busy_from}

abbrev idle : List ℕ
idle = replicate 64 0

-- the last cycle of a run
pub last_accepted : step_of (with_cycle 999999999 turns) idle ≡ record
    { verdict = Ok tt; router = with_cycle 1000000000 turns; reply = empty_reply }
unfolding config turns xor first_from every or_else in_range first_illegal illegal_field flit_of kind_of destination_of payload_of starts_kind
    ends_kind next_in_turn pointer_after blank_from arbiter.known arbiter.usable arbiter.choice arbiter.moved arbiter.after arbiter.fresh
    arbiter.sound queue_at places wire_of home_of flat total is_none all configuration_legal cycles_fit credits_whole credits_add_up legal_flit
    wire_place_legal wire_legal home_legal queues_legal output_credits_fit names_agree arbiters_sound reading reads packets_read channels_unused
    slots_empty line_unused arbiters_unused shaped sound front_of pushed moved_up popped big_endian over_ports row_zero no_offer legal_offer
    row_legal advanced senders_paid reported credits_reached outputs_paid credits_returned landings landed offers offers_taken asks lowest_free_vc
    grant_of bindings arbiters_moved allocated is_ready input_pick request output_pick switched winner departures leaving_of run_full
    part_wrong row_wrong credit_past_room out_of_turn no_sender_credit first_of judged taken_in sent_out router_after reply_of step_of fresh_router
last_accepted = refl

module _ (t : Router) (e : t ≡ turns) (x : Stepped) (f : x ≡ step_of (with_cycle 999999999 t) idle) where
  last_is : x ≡ record { verdict = Ok tt; router = with_cycle 1000000000 turns; reply = empty_reply }
  last_is = f ∙ ap (λ (s : Router). step_of (with_cycle 999999999 s) idle) e ∙ last_accepted

  pub last_verdict : x.verdict ≡ Ok tt
  last_verdict = ap (λ (y : Stepped). y.verdict) last_is

  pub last_router : (r : Router) → r ≡ turns → x.router ≡ with_cycle 1000000000 r
  last_router r g = ap (λ (y : Stepped). y.router) last_is ∙ ap (with_cycle 1000000000) (sym g)

  pub last_reply : x.reply ≡ empty_reply
  last_reply = ap (λ (y : Stepped). y.reply) last_is

full_sound : sound (with_cycle 1000000000 turns) ≡ true
unfolding config turns xor every in_range first_illegal illegal_field flit_of kind_of destination_of starts_kind ends_kind blank_from
    arbiter.known arbiter.fresh arbiter.sound queue_at places wire_of home_of flat total is_none all configuration_legal cycles_fit
    credits_whole credits_add_up legal_flit wire_place_legal wire_legal home_legal queues_legal output_credits_fit names_agree arbiters_sound reading
    reads packets_read channels_unused slots_empty line_unused arbiters_unused shaped sound fresh_router
full_sound = refl

busy_sound : sound busy ≡ true
unfolding busy busy_from with_input with_output with_slot with_wire_place with_home_place unbound bound held head single body on config turns xor
    every in_range first_illegal illegal_field flit_of kind_of destination_of starts_kind ends_kind blank_from arbiter.known arbiter.fresh
    arbiter.sound queue_at places wire_of home_of flat total is_none all configuration_legal cycles_fit credits_whole credits_add_up legal_flit
    wire_place_legal wire_legal home_legal queues_legal output_credits_fit names_agree arbiters_sound reading reads packets_read channels_unused
    slots_empty line_unused arbiters_unused shaped sound fresh_router
busy_sound = refl

busy_early : run_full busy.cycle ≡ false
unfolding busy busy_from with_input with_output with_slot with_wire_place with_home_place turns fresh_router run_full
busy_early = refl

-- 10 after the last cycle, whatever the part
pub full_refused : (t : Router) → t ≡ turns → (part : List ℕ) → (step_of (with_cycle 1000000000 t) part).verdict ≡ refusing numbers.run_full 0
unfolding run_full
full_refused t e part =
    (ten_exactly (with_cycle 1000000000 t) part 0).1 (
      also (λ i h. ap (λ (x : Router). not (sound (with_cycle 1000000000 x))) e ∙ ap not full_sound) done,
      record { inside = omega arith; here = refl; lower = λ i h. absurd (omega arith) },
    )

-- neither 2 nor 10
busy_passes : (s : Router) → s ≡ busy → (part : List ℕ) → NoneBefore s part numbers.row_wrong
busy_passes s e part =
    also (λ i h. ap (λ (x : Router). not (sound x)) e ∙ ap not busy_sound)
    (also (λ i h. ap (λ (x : Router). run_full x.cycle) e ∙ busy_early) done)

-- 3 with port 0 where the part is not 64 bytes long
pub length_refused : (s : Router) → s ≡ busy → (part : List ℕ) → eqb (length part) 64 ≡ false → (step_of s part).verdict
    ≡ refusing numbers.row_wrong 0
length_refused s e part h = (part_exactly s part (eqb-false (length part) 64 h) 0).1 (busy_passes s e part, refl)

-- 3 with port p where row p is the first that is wrong
row_refused : (s : Router) → s ≡ busy → (part : List ℕ) → length part ≡ 64 → (p : ℕ)
    → first_from (row_wrong busy.config part) 8 0 ≡ Some p → (step_of s part).verdict ≡ refusing numbers.row_wrong p
row_refused s e part long p f =
    (row_exactly s part long p).1
    (busy_passes s e part, found (rule3 s.config part) p (ap (λ (x : Router). first_from (row_wrong x.config part) 8 0) e ∙ f))

-- a byte of an idle row, and of a port at or beyond P
pub bytes_refused : (s : Router) → s ≡ busy → ((step_of s (set idle 9 1)).verdict ≡ refusing numbers.row_wrong 1)
    × ((step_of s (set idle 10 1)).verdict ≡ refusing numbers.row_wrong 1)
    × ((step_of s (set idle 15 1)).verdict ≡ refusing numbers.row_wrong 1)
    × ((step_of s (set idle 19 1)).verdict ≡ refusing numbers.row_wrong 2)
    × ((step_of s (set idle 63 1)).verdict ≡ refusing numbers.row_wrong 7)
unfolding busy busy_from with_input with_output with_slot with_wire_place with_home_place config turns fresh_router first_from every starts_kind
    big_endian row_zero no_offer legal_offer row_legal row_wrong
bytes_refused s e = (
  row_refused s e (set idle 9 1) refl 1 refl,
  row_refused s e (set idle 10 1) refl 1 refl,
  row_refused s e (set idle 15 1) refl 1 refl,
  row_refused s e (set idle 19 1) refl 2 refl,
  row_refused s e (set idle 63 1) refl 7 refl,
)

-- offers that are refused
pub offers_refused : (s : Router) → s ≡ busy → ((step_of s (set idle 8 5)).verdict ≡ refusing numbers.row_wrong 1)
    × ((step_of s (set idle 3 1)).verdict ≡ refusing numbers.credit_past_room 0)
    × ((step_of s (set idle 8 3)).verdict ≡ refusing numbers.out_of_turn 1)
    × ((step_of s (set idle 0 2)).verdict ≡ refusing numbers.no_sender_credit 0)
unfolding busy busy_from with_input with_output with_slot with_wire_place with_home_place unbound bound held head single body on config turns xor
    first_from every or_else in_range first_illegal illegal_field flit_of kind_of destination_of payload_of starts_kind ends_kind blank_from
    arbiter.known arbiter.fresh arbiter.sound queue_at places wire_of home_of flat total is_none all configuration_legal cycles_fit
    credits_whole credits_add_up legal_flit wire_place_legal wire_legal home_legal queues_legal output_credits_fit names_agree arbiters_sound reading
    reads packets_read channels_unused slots_empty line_unused arbiters_unused shaped sound big_endian over_ports row_zero no_offer
    legal_offer row_legal senders_paid run_full part_wrong row_wrong credit_past_room out_of_turn no_sender_credit first_of judged step_of fresh_router
offers_refused s e = (
  ap (λ (x : Router). (step_of x (set idle 8 5)).verdict) e,
  ap (λ (x : Router). (step_of x (set idle 3 1)).verdict) e,
  ap
      (λ (x : Router). (step_of x (set idle 8 3)).verdict) e,
  ap (λ (x : Router). (step_of x (set idle 0 2)).verdict) e,
)
