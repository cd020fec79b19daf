-- The routers that break one clause of soundness each are not sound, so each is refused with 2.
-- Assumes nothing.
use mathlib.Core.Path.{◌≡◌, refl, ap}
use mathlib.Core.Bool.{false, not, xor}
use mathlib.Core.List.{List}
use Prim.Native.Nat.{ℕ}
use native.Mathlib.Omega.{arith}
use Rattle.base.specs.Bits.{bit, word_of, with_bit}
use Rattle.base.specs.Flit.{flit_of, kind_of, destination_of, starts_kind, ends_kind}
use Rattle.base.specs.Numbers as numbers
use Rattle.base.specs.Search.{every}
use Rattle.base.specs.Sizes.{illegal_field, first_illegal, in_range}
use Rattle.arbiter.specs.Arbiter as arbiter
use Rattle.arbiter.specs.Matrix.{list_of, blank_from}
use Rattle.state.specs.declared.Router.{Router}
use Rattle.state.specs.Fresh.{fresh_router}
use Rattle.state.specs.Views.{queue_at, wire_of, home_of, places, flat, total}
use Rattle.state.specs.Sound.{is_none, all, configuration_legal, cycles_fit, credits_whole, credits_add_up, legal_flit, wire_place_legal, Clause}
use Rattle.state.specs.Sound.{wire_legal, home_legal, queues_legal, output_credits_fit, names_agree, arbiters_sound, reading, reads}
use Rattle.state.specs.Sound.{packets_read, channels_unused, slots_empty, line_unused, arbiters_unused, shaped, sound}
use Rattle.state.proofs.SoundStates.{with_input, with_output, with_slot, with_wire_place, with_home_place, with_vc_arbiter}
use Rattle.state.proofs.SoundStates.{with_input_arbiter, config, turns, unbound, held, single, on, pointer_at}
use Rattle.state.specs.Sound.{the_configuration, the_cycles, the_wire, the_home, the_wire_rest, the_home_rest, the_shape, the_credits}
use Rattle.state.specs.Sound.{the_queues, the_output_credits, the_channels, the_slots, the_names, the_packets, the_arbiters, the_other_arbiters}
use Rattle.base.specs.Refusal.{refusing}
use Rattle.rules.specs.Step.{step_of}
use Rattle.rules.proofs.Exactness.{two_exactly}
use Rattle.edges.specs.States.{broken}

-- each router that breaks a clause is not sound, by value
pub unsound : (k : Clause) → sound (broken k) ≡ false
unfolding every xor all sound with_input with_output with_slot with_wire_place with_home_place with_vc_arbiter with_input_arbiter config turns
    unbound held single on pointer_at configuration_legal is_none illegal_field first_illegal in_range cycles_fit credits_add_up
    credits_whole legal_flit wire_place_legal wire_legal home_legal queues_legal output_credits_fit names_agree arbiters_sound reading reads
    packets_read channels_unused slots_empty line_unused arbiters_unused shaped fresh_router queue_at wire_of home_of places flat total flit_of
    kind_of destination_of starts_kind ends_kind bit word_of with_bit arbiter.sound arbiter.known arbiter.fresh list_of blank_from
unsound the_configuration = refl
unsound the_cycles = refl
unsound the_wire = refl
unsound the_home = refl
unsound the_wire_rest = refl
unsound the_home_rest = refl
unsound the_shape = refl
unsound the_credits = refl
unsound the_queues = refl
unsound the_output_credits = refl
unsound the_channels = refl
unsound the_slots = refl
unsound the_names = refl
unsound the_packets = refl
unsound the_arbiters = refl
unsound the_other_arbiters = refl

-- an unsound router is refused with 2, whatever the part
pub refused_unsound : (s : Router) (part : List ℕ) → sound s ≡ false → (step_of s part).verdict ≡ refusing numbers.not_sound 0
refused_unsound s part e = (two_exactly s part 0).1 (record { inside = omega arith; here = ap not e; lower = λ i h. absurd (omega arith) })
