-- Inputs contend for output 1, under either arbiter, on a router of 3 ports with 2 VCs, D = E = F = B = 2: 11 parts, of which one is
-- refused with 5 and one with 6 in the middle. What is expected is worked out by hand from document 01's phases; the run computes the
-- same.
-- Assumes nothing.
use mathlib.Core.Path.{◌≡◌, refl}
use mathlib.Core.Bool.{Bool, true, cond, xor, ◌&&◌}
use mathlib.Core.List.{List, [], ◌∷◌, ◌++◌, map}
use Prim.Native.Nat.{ℕ, suc}
use lib.ListN.{length, replicate}
use Rattle.base.specs.Bits.{bit, word_of, with_bit}
use Rattle.base.specs.declared.config.Config.{Config}
use Rattle.base.specs.declared.flit.Flit.{Flit}
use Rattle.base.specs.Flit.{head, tail, single, flit_of, kind_of, destination_of, payload_of, starts_kind, ends_kind}
use Rattle.base.specs.Search.{first_from, every, or_else}
use Rattle.base.proofs.Search as search
use Rattle.base.specs.Sizes.{Field, in_range, first_illegal, illegal_field, sized}
use Rattle.arbiter.specs.RoundRobin.{next_in_turn, pointer_after}
use Rattle.arbiter.specs.Matrix.{beats, beats_every_other, champion, raised, defeated, list_of, fresh_row, fresh_rows, total_order, within}
use Rattle.arbiter.specs.Matrix.{blank_from}
use Rattle.arbiter.specs.Arbiter as arbiter
use Rattle.listing.specs.Lines.{Line, credit, flit, finish, refusal, letter_of_line, values_of}
use Rattle.model.specs.Router.{InVc}
use Rattle.model.specs.History.{Departure, Entry, gather}
use Rattle.state.specs.declared.Binding.{Binding}
use Rattle.state.specs.declared.Binding.TheVariants.{Unbound, Bound}
use Rattle.state.specs.declared.InputVc.{InputVc}
use Rattle.state.specs.declared.Router.{Router}
use Rattle.state.specs.Fresh.{fresh_router, fresh_input}
use Rattle.state.specs.Views.{input_at, queue_at, places, wire_of, home_of, flat, total}
use Rattle.state.specs.Sound.{is_none, all, configuration_legal, cycles_fit, credits_whole, credits_add_up, legal_flit, wire_place_legal}
use Rattle.state.specs.Sound.{wire_legal, home_legal, queues_legal, output_credits_fit, names_agree, arbiters_sound, reading, reads}
use Rattle.state.specs.Sound.{packets_read, channels_unused, slots_empty, line_unused, arbiters_unused, shaped, sound}
use Rattle.store.specs.Store.{front_of, pushed, moved_up, popped}
use Rattle.trace.specs.Bytes.{big_endian}
use Rattle.state.specs.Setters.{set_binding, with_opened}
use Rattle.base.specs.Refusal.{Verdict}
use Rattle.rules.specs.Ports.{over_ports}
use Rattle.rules.specs.Rows.{row_zero, no_offer, legal_offer, row_legal}
use Rattle.rules.specs.Intake.{advanced, senders_paid, reported, credits_reached, outputs_paid, credits_returned, landings, landed, offers}
use Rattle.rules.specs.Intake.{offers_taken}
use Rattle.rules.specs.Allocation.{asks, lowest_free_vc, grant_of, bindings, arbiters_moved, allocated, is_ready, input_pick, request}
use Rattle.rules.specs.Allocation.{output_pick, switched, winner}
use Rattle.rules.specs.Departures.{departures, leaving_of}
use Rattle.base.specs.Refusal.{number_of, place_of, refusing}
use Rattle.rules.specs.Numbers.{run_full, part_wrong, row_wrong, credit_past_room, out_of_turn, no_sender_credit}
use Rattle.rules.specs.Numbers.{first_of, judged}
use Rattle.rules.specs.Step.{taken_in, sent_out, router_after, reply_of, step_of}
use Rattle.history.specs.Run.{entry_of, Ran, run_from, run_of}
use Rattle.history.specs.Demand3.{stored_credits, buffered, on_wire, going_home}
use Rattle.examples.proofs.Same.{same, same_is}

abbrev config : ℕ → Config
config code = sized 3 2 2 2 2 2 code

-- rows: a flit with a payload below 256 and a credit, a flit, a credit for output VC w, nothing
abbrev both : ℕ → ℕ → ℕ → ℕ → ℕ → List ℕ
both kind vc destination back payload = kind ∷ vc ∷ destination ∷ back ∷ 0 ∷ 0 ∷ 0 ∷ payload ∷ []

abbrev brought : ℕ → ℕ → ℕ → ℕ → List ℕ
brought kind vc destination payload = both kind vc destination 0 payload

abbrev paid : ℕ → List ℕ
paid w = both 0 0 0 (suc w) 0

abbrev nothing : List ℕ
nothing = replicate 8 0

abbrev part : List ℕ → List ℕ → List ℕ → List ℕ
part a b c = a ++ b ++ c ++ replicate 40 0

-- cycles 0 and 1: both credits of VC 1 of input 2 are spent
abbrev at_first : List (List ℕ)
at_first =
    part (brought head 0 1 0xa1) nothing (brought single 1 1 0xc1) ∷ part (brought single 1 1 0xb1) nothing (brought single 1 1 0xc2) ∷ []

-- so this one is refused with 5, and T of input 0 in it does not count either
abbrev unpaid : List ℕ
unpaid = part (brought tail 0 0 0xa2) nothing (brought single 1 1 0xc3)

-- refused with 6, after cycle 2: VC 1 of output 1 still has its E credits
abbrev overpaid : List ℕ
overpaid = part nothing (both single 0 1 2 0xd1) nothing

-- cycle 2, and cycles 3 to 8
abbrev next : List (List ℕ)
next = part nothing nothing nothing ∷ []

abbrev at_last : List (List ℕ)
at_last =
    part nothing (brought single 0 1 0xd1) nothing ∷ part (brought tail 0 0 0xa2) nothing nothing ∷ part nothing nothing nothing
    ∷ part nothing (paid 1) nothing ∷ part nothing nothing nothing ∷ part nothing (paid 0) (brought head 1 0 0xc3) ∷ []

-- an entry of the history as lines of the list
abbrev lines_of : Entry Flit → List Line
lines_of e =
    map (λ (r : InVc). credit e.cycle r.input r.vc) e.reached
    ++ map (λ (d : Departure Flit).
    flit e.cycle d.output (record {
      out_vc = d.out_vc;
      input = d.input;
      vc = d.vc;
      kind = kind_of d.flit;
      payload = payload_of d.flit;
    }))
    e.departures

-- stored credits, flits on the wire, buffered flits, credits on the way home
abbrev counts : Config → Router → ℕ → ℕ → List ℕ
counts c s i v = stored_credits c s i v ∷ length (on_wire c s i v) ∷ buffered c s i v ∷ going_home c s i v ∷ []

pub record Seen : Type 0 where
  pub cycles : ℕ  -- accepted, of 11 parts
  pub lines : List Line
  pub unpaid : Verdict
  pub overpaid : Verdict
  pub waiting : InputVc  -- VC 0 of input 0 after cycle 2
  pub zero_zero : List ℕ  -- the counts of VC 0 of input 0, and of VC 1 of input 2, after cycle 8
  pub two_one : List ℕ

-- of a run after cycle 1, after cycle 2 and after cycle 8
abbrev seen_of : Config → Ran → Ran → Ran → Seen
seen_of c early middle late =
    record {
      cycles = length late.history;
      lines = gather lines_of late.history;
      unpaid = (step_of early.router unpaid).verdict;
      overpaid = (step_of middle.router overpaid).verdict;
      waiting = input_at c middle.router.inputs 0 0;
      zero_zero = counts c late.router 0 0;
      two_one = counts c late.router 2 1;
    }

-- one run, each stretch from where the one before has come to
abbrev seen_late : Config → Ran → Ran → Seen
seen_late c early middle = seen_of c early middle (run_from c middle (overpaid ∷ at_last))

abbrev seen_next : Config → Ran → Seen
seen_next c early = seen_late c early (run_from c early (unpaid ∷ next))

abbrev seen_in : Config → Seen
seen_in c = seen_next c (run_of c at_first)

-- `F cycle 1 outvc input invc kind payload`
abbrev left1 : ℕ → ℕ → ℕ → ℕ → ℕ → ℕ → Line
left1 cycle w i v kind payload = flit cycle 1 (record { out_vc = w; input = i; vc = v; kind = kind; payload = payload })

-- Cycle 2: H of (0,0) beats S of (2,1), is bound and leaves. Cycle 3: (0,1) beats (2,1). Cycle 4: (2,1) has VC 1 at last.
abbrev alike : List Line
alike =
    left1 2 0 0 0 head 0xa1 ∷ left1 3 1 0 1 single 0xb1 ∷ credit 4 0 0 ∷ left1 4 1 2 1 single 0xc1 ∷ credit 5 0 1 ∷ credit 6 2 1 ∷ []

-- H has left, T is not offered yet: bound to VC 0 of output 1, a packet open, nothing queued
abbrev empty_bound : InputVc
empty_bound = set_binding (Bound (record { output = 1; vc = 0 })) (with_opened true (fresh_input 1))

-- Cycle 6: inputs 0 and 1 ask for output 1, whose winners were 0, 0 and 2. The pointer is at 0 again, so T leaves before S of (1,0), and
-- 0xc2 is bound to VC 0, which T freed; in cycle 8 that VC has a credit again. 0xc3 is on the wire.
abbrev by_round_robin : Seen
by_round_robin =
    record {
      cycles = 9;
      lines = alike ++ (left1 6 0 0 0 tail 0xa2 ∷ left1 7 1 1 0 single 0xd1 ∷ credit 8 0 0 ∷ left1 8 0 2 1 single 0xc2 ∷ []);
      unpaid = refusing 5 2;
      overpaid = refusing 6 1;
      waiting = empty_bound;
      zero_zero = 2 ∷ 0 ∷ 0 ∷ 0 ∷ [];
      two_one = 0 ∷ 1 ∷ 0 ∷ 1 ∷ [];
    }

-- In the matrix input 1, which has not won yet, beats 0. So 0xc2 is bound to VC 1, which S of (1,0) freed and whose credits are spent.
abbrev by_matrix : Seen
by_matrix =
    record {
      cycles = 9;
      lines = alike ++ (left1 6 1 1 0 single 0xd1 ∷ left1 7 0 0 0 tail 0xa2 ∷ credit 8 1 0 ∷ []);
      unpaid = refusing 5 2;
      overpaid = refusing 6 1;
      waiting = empty_bound;
      zero_zero = 1 ∷ 0 ∷ 0 ∷ 1 ∷ [];
      two_one = 0 ∷ 1 ∷ 1 ∷ 0 ∷ [];
    }

-- all numbers of what is seen
abbrev binding_numbers : Binding → List ℕ
binding_numbers Unbound = 0 ∷ 0 ∷ 0 ∷ []
binding_numbers (Bound b) = 1 ∷ b.output ∷ b.vc ∷ []

abbrev payloads : Line → List ℕ
payloads (credit cycle i v) = []
payloads (flit cycle o d) = d.payload ∷ []
payloads (finish cycles flits) = []
payloads (refusal number cycle place) = []

abbrev line_numbers : List Line → List ℕ
line_numbers [] = []
line_numbers (l ∷ ls) = letter_of_line l ∷ (map (λ (f : Field). f.value) (values_of l) ++ (payloads l ++ line_numbers ls))

abbrev numbers_of : Seen → List ℕ
numbers_of x =
    x.cycles ∷ number_of x.unpaid ∷ place_of x.unpaid ∷ number_of x.overpaid ∷ place_of x.overpaid
    ∷ (binding_numbers x.waiting.binding
    ++ (x.waiting.credit ∷ cond x.waiting.opened 1 0 ∷ x.waiting.queued ∷ (x.zero_zero ++ (x.two_one ++ line_numbers x.lines))))

abbrev agrees : ℕ → Seen → Bool
agrees code expected = same (numbers_of (seen_in (config code))) (numbers_of expected)

computed : (agrees 1 by_round_robin && agrees 2 by_matrix) ≡ true
unfolding xor first_from every or_else in_range first_illegal illegal_field flit_of kind_of destination_of payload_of starts_kind ends_kind
    next_in_turn pointer_after bit word_of with_bit beats beats_every_other champion raised defeated list_of fresh_row fresh_rows total_order
    within blank_from arbiter.known arbiter.usable arbiter.choice arbiter.moved arbiter.after arbiter.fresh arbiter.sound queue_at places
    wire_of home_of flat total is_none all configuration_legal cycles_fit credits_whole credits_add_up legal_flit wire_place_legal wire_legal
    home_legal queues_legal output_credits_fit names_agree arbiters_sound reading reads packets_read channels_unused slots_empty line_unused
    arbiters_unused shaped sound front_of pushed moved_up popped big_endian over_ports part_wrong row_zero no_offer legal_offer row_legal advanced
    senders_paid reported credits_reached outputs_paid credits_returned landings landed offers offers_taken asks lowest_free_vc grant_of bindings
    arbiters_moved allocated is_ready input_pick request output_pick switched winner departures leaving_of run_full row_wrong
    credit_past_room out_of_turn no_sender_credit first_of judged taken_in sent_out router_after reply_of step_of fresh_router entry_of run_from run_of
    values_of
computed = refl

pub contention_round_robin : numbers_of (seen_in (config 1)) ≡ numbers_of by_round_robin
contention_round_robin = same_is _ _ (search.both (agrees 1 by_round_robin) (agrees 2 by_matrix) computed).0

pub contention_matrix : numbers_of (seen_in (config 2)) ≡ numbers_of by_matrix
contention_matrix = same_is _ _ (search.both (agrees 1 by_round_robin) (agrees 2 by_matrix) computed).1
