-- Sound is neither too weak nor too strong, by value: for each clause a state that breaks this clause alone, and states that a run
-- reaches and that are not fresh.
-- Assumes nothing.
use mathlib.Core.Path.{◌≡◌, refl, sym, ap, ap₂, ◌∙◌}
use mathlib.Core.Bool.{Bool, true, false, xor, ◌&&◌, cond, not}
use mathlib.Core.List.{List, [], ◌∷◌}
use mathlib.Core.Logic.{inr}
use Prim.Native.Nat.{ℕ, suc, ◌+◌, ◌^◌, ◌≤◌}
use native.Mathlib.Omega.{arith}
use lib.ListN.{set, get_or-replicate}
use Rattle.std.specs.Prelude.{Option, Some, None}
use lib.Dec.{eqb}
use borrow.Author.Tests.{eqb-true, ne_eqb}
use Rattle.base.specs.Bits.{bit, word_of, with_bit}
use Rattle.base.specs.Flit.{flit_of, kind_of, destination_of, starts_kind, ends_kind}
use Rattle.base.specs.Search.{every}
use Rattle.base.specs.Sizes.{illegal_field, first_illegal, in_range, with_downstream}
use Rattle.base.proofs.Search.{all_every, both}
use Rattle.arbiter.specs.Arbiter as arbiter
use Rattle.arbiter.specs.Arbiter.{arbiter_of}
use Rattle.arbiter.proofs.ByKind.{Known}
use Rattle.arbiter.proofs.Soundness as arbiters
use Rattle.arbiter.specs.RoundRobin.{pointer_after}
use Rattle.arbiter.specs.Matrix.{beats, raised, defeated, list_of, fresh_row, fresh_rows, total_order, within, blank_from}
use Rattle.state.specs.declared.Router.{Router}
use Rattle.state.specs.Fresh.{fresh_output, past_arbiter, fresh_router}
use Rattle.state.specs.Views.{queue_at, wire_of, home_of, places, flat, total}
use Rattle.state.specs.Sound
use Rattle.state.specs.Sound.{is_none, all, configuration_legal, cycles_fit, credits_whole, credits_add_up, legal_flit, wire_place_legal}
use Rattle.state.specs.Sound.{wire_legal, home_legal, queues_legal, output_credits_fit, names_agree, arbiters_sound, reading, reads}
use Rattle.state.specs.Sound.{packets_read, channels_unused, slots_empty, line_unused, arbiters_unused, shaped, sound}
use Rattle.state.specs.Sound.{Clause, passes, clauses, the_configuration, the_cycles, the_wire, the_home, the_wire_rest, the_home_rest, the_credits}
use Rattle.state.specs.Sound.{the_queues, the_output_credits, the_channels, the_slots, the_names, the_packets, the_arbiters, the_other_arbiters}
use Rattle.state.proofs.Exact.{sound_passes}
use Rattle.state.proofs.SoundStates.{with_input, with_output, with_slot, with_wire_place, with_home_place, with_vc_arbiter}
use Rattle.state.proofs.SoundStates.{with_input_arbiter, with_output_arbiter, config, turns, orders, unbound}
use Rattle.state.proofs.SoundStates.{bound, held, head, single, body, tail, on, pointer_at, ordered, stored, queue}
use Rattle.state.proofs.SoundStates.{middle, fronted, full_wire, homing, deep, picked, picked_arbiters, large}
use Rattle.state.specs.Setters.{with_config, with_cycle}

-- how many of these clauses a state breaks
failing : Router → List Clause → ℕ
failing s [] = 0
failing s (k ∷ ks) = cond (passes s k) (failing s ks) (suc (failing s ks))

-- each row: a state, and the clause that it breaks, if it breaks one
pub record Row : Type 0 where
  pub state : Router
  pub breaks : Option Clause

sound_row : Router → Row
sound_row s = record { state = s; breaks = None }

row : Router → Clause → Row
row s k = record { state = s; breaks = Some k }

-- it breaks this clause and no other, or none
abbrev rightly : Router → Option Clause → Bool
rightly s None = eqb (failing s clauses) 0
rightly s (Some k) = not (passes s k) && eqb (failing s clauses) 1

pub right : Row → Bool
right r = rightly r.state r.breaks

-- all but the large router
others : List Row
others =
    -- accepted
    sound_row turns ∷ sound_row orders ∷ sound_row middle ∷ sound_row fronted ∷ sound_row full_wire ∷ sound_row homing ∷ sound_row
    (deep 16) ∷
    -- the configuration, the cycle count, the credits
    row (with_config (with_downstream 17 (config 1)) turns) the_configuration ∷
    row (with_cycle 1000000001 turns) the_cycles ∷
    row (with_input 0 (unbound 2 false 0) turns) the_credits ∷
    row (with_input 0 (unbound 4 false 0) turns) the_credits ∷
    -- a count of queued flits that no channel has room for
    row (deep 17) the_credits ∷
    row (deep 255) the_credits ∷
    -- a wire place to a port that there is not, on a VC that there is not; a home place of a VC that there is not
    row (with_wire_place 0 0 (on 0 (single 3)) (with_input 0 (unbound 2 false 0) turns)) the_wire ∷
    row (with_wire_place 0 0 (on 2 (single 1)) turns) the_wire ∷
    row (with_home_place 0 0 3 turns) the_home ∷
    -- queued: to a port that there is not, B with a destination, bits above a flit's
    row (queue (single 3 ∷ []) (with_input 0 (unbound 2 false 1) turns)) the_queues ∷
    row (queue (head 1 ∷ (body + 2 ^ 32) ∷ []) (with_input 0 (unbound 1 true 2) turns)) the_queues ∷
    row (queue ((single 1 + 2 ^ 38) ∷ []) (with_input 0 (unbound 2 false 1) turns)) the_queues ∷
    row (with_output 0 (fresh_output 3) turns) the_output_credits ∷
    -- bound and not held, held and not bound, held by another, beyond P, beyond V, two bound to one
    row (with_input 0 (bound 1 0 3 true 0) turns) the_names ∷
    row (with_output 2 (held 0 0 2) turns) the_names ∷
    row (with_output 2 (held 0 1 2) (with_input 0 (bound 1 0 3 true 0) turns)) the_names ∷
    row (with_input 0 (bound 2 0 3 true 0) turns) the_names ∷
    row (with_input 0 (bound 1 2 3 true 0) turns) the_names ∷
    row (with_output 2 (held 2 0 2) turns) the_names ∷
    row (with_input 1 (bound 1 0 3 true 0) middle) the_names ∷
    -- a pointer equal to its width, rows under round robin, a pointer under a matrix
    row (with_vc_arbiter 0 (pointer_at 32 4) turns) the_arbiters ∷
    row (with_input_arbiter 0 (pointer_at 8 2) turns) the_arbiters ∷
    row (with_output_arbiter 0 (pointer_at 8 2) turns) the_arbiters ∷
    row (with_vc_arbiter 0 (ordered 0 0 14) turns) the_arbiters ∷
    row (with_vc_arbiter 0 (ordered 1 0 14) orders) the_arbiters ∷
    -- a bit beyond the width, a row beyond it, two equals, one that beats itself
    row (with_vc_arbiter 0 (ordered 0 0 30) orders) the_arbiters ∷
    row (with_vc_arbiter 0 (ordered 0 4 1) orders) the_arbiters ∷
    row (with_vc_arbiter 0 (ordered 0 0 12) orders) the_arbiters ∷
    row (with_vc_arbiter 0 (ordered 0 0 15) orders) the_arbiters ∷
    -- 0 beats 1, 1 beats 2, 2 beats 0
    row (with_vc_arbiter 0 (arbiter_of 0 (set (set (fresh_rows 32 4) 0 0b1010) 2 0b1001)) orders) the_arbiters ∷
    -- a front for another output, the open mark wrong (three times), a reading from inside a packet that is not bound, H first on the
    -- wire of a bound VC with an empty queue
    row (with_output 2 (held 0 0 2) (queue (head 0 ∷ body ∷ []) (with_input 0 (bound 1 0 1 true 2) turns))) the_packets ∷
    row (with_input 0 (bound 1 0 1 false 2) fronted) the_packets ∷
    row (with_input 0 (bound 1 0 3 false 0) middle) the_packets ∷
    row (with_input 0 (unbound 3 true 0) turns) the_packets ∷
    row (queue (body ∷ []) (with_input 0 (unbound 2 true 1) turns)) the_packets ∷
    row (with_wire_place 0 0 (on 0 (head 1)) (with_input 0 (bound 1 0 2 true 0) middle)) the_packets ∷
    -- channels beyond P and V
    row (with_input 4 (unbound 1 false 0) turns) the_channels ∷
    row (with_input 31 (unbound 0 true 0) turns) the_channels ∷
    row (with_output 4 (fresh_output 1) turns) the_channels ∷
    -- a slot past the queue's end, and of a channel that there is not
    row (with_slot 0 (single 1) turns) the_slots ∷
    row (with_slot 2 (single 1) fronted) the_slots ∷
    row (with_slot 511 1 turns) the_slots ∷
    -- stages at F and at B, ports at P
    row (with_wire_place 2 0 (on 0 (single 1)) turns) the_wire_rest ∷
    row (with_wire_place 0 2 (on 0 (single 1)) turns) the_wire_rest ∷
    row (with_home_place 2 0 1 turns) the_home_rest ∷
    row (with_home_place 0 2 1 turns) the_home_rest ∷
    -- arbiters beyond P
    row (with_vc_arbiter 2 (pointer_at 32 1) turns) the_other_arbiters ∷
    row (with_input_arbiter 2 (pointer_at 8 1) turns) the_other_arbiters ∷
    row (with_output_arbiter 7 (pointer_at 8 1) orders) the_other_arbiters ∷ []

others_right : all right others ≡ true
unfolding xor all right failing others row sound_row with_input with_output with_slot with_wire_place with_home_place
    with_vc_arbiter with_input_arbiter with_output_arbiter config turns orders unbound bound held head single body
    tail on pointer_at ordered stored queue middle fronted full_wire homing deep configuration_legal is_none illegal_field
    first_illegal in_range cycles_fit credits_add_up credits_whole legal_flit wire_place_legal wire_legal home_legal queues_legal output_credits_fit
    names_agree arbiters_sound reading reads packets_read channels_unused slots_empty line_unused arbiters_unused shaped every fresh_router
    queue_at wire_of home_of places flat total flit_of kind_of destination_of starts_kind ends_kind bit word_of with_bit arbiter.sound
    arbiter.known arbiter.fresh beats list_of fresh_row fresh_rows total_order within blank_from
others_right = refl

-- so the test of soundness accepts just the rows that break none
pub is_nothing : Option Clause → Bool
is_nothing None = true
is_nothing (Some k) = false

all_none : (s : Router) (ks : List Clause) → all (passes s) ks ≡ eqb (failing s ks) 0
unfolding all failing
all_none s [] = refl
all_none s (k ∷ ks) = go (passes s k) (all_none s ks)
  where
    go : (b : Bool) → all (passes s) ks ≡ eqb (failing s ks) 0 → (b && all (passes s) ks)
        ≡ eqb (cond b (failing s ks) (suc (failing s ks))) 0
    go true e = e
    go false e = sym (ne_eqb (suc (failing s ks)) 0 (λ q. omega (arith, q)))

pub right_sound : (r : Row) → right r ≡ true → sound r.state ≡ is_nothing r.breaks
unfolding right sound is_nothing
right_sound r e = all_none r.state clauses ∙ go r.breaks e
  where
    go : (b : Option Clause) → rightly r.state b ≡ true → eqb (failing r.state clauses) 0 ≡ is_nothing b
    go None q = q
    go (Some k) q =
        ap (λ (n : ℕ). eqb n 0) (eqb-true (failing r.state clauses) 1 (both (not (passes r.state k)) _ q).1)

-- picks keep a matrix sound
picks : (places n : ℕ) (ws : List ℕ) → Known places 2 n → arbiters.Sound places 2 n (picked places n ws)
unfolding picked
picks places n [] k = arbiters.fresh_sound places 2 n k
picks places n (w ∷ ws) k = arbiters.moved_sound places 2 n w (picked places n ws) (picks places n ws k)

-- the large router: its arbiters are sound since picks keep them so, all else is computed
picks_sound : (places n : ℕ) (ws : List ℕ) → 1 ≤ n → n ≤ places → arbiter.sound places 2 n (picked places n ws) ≡ true
picks_sound places n ws h g =
    arbiters.sound_holds places 2 n (picked places n ws) (picks places n ws (record { some = h; room = g; kind = inr refl }))

large_arbiters : arbiters_sound large.config large.arbiters ≡ true
unfolding arbiters_sound large picked_arbiters with_home_place with_wire_place with_output stored queue with_slot with_input fresh_router
large_arbiters =
    all_every 8 _ (λ i h.
    ap₂ ◌&&◌
    (ap₂ ◌&&◌
    (ap (λ a. arbiter.sound 32 2 32 a) (get_or-replicate 8 i (picked 32 32 (9 ∷ 0 ∷ 31 ∷ [])) past_arbiter h)
    ∙ picks_sound 32 32 (9 ∷ 0 ∷ 31 ∷ []) (omega arith) (omega arith))
    (ap (λ a. arbiter.sound 8 2 4 a) (get_or-replicate 8 i (picked 8 4 (2 ∷ 0 ∷ 3 ∷ [])) past_arbiter h)
    ∙ picks_sound 8 4 (2 ∷ 0 ∷ 3 ∷ []) (omega arith) (omega arith)))
    (ap (λ a. arbiter.sound 8 2 8 a) (get_or-replicate 8 i (picked 8 8 (5 ∷ 0 ∷ 7 ∷ [])) past_arbiter h)
    ∙ picks_sound 8 8 (5 ∷ 0 ∷ 7 ∷ []) (omega arith) (omega arith)))

large_sound : Sound.Sound large
unfolding all picked_arbiters xor with_input with_output with_slot with_wire_place with_home_place with_vc_arbiter with_input_arbiter
    with_output_arbiter config unbound bound held head single body tail on pointer_at ordered
    stored queue large configuration_legal is_none illegal_field first_illegal in_range cycles_fit credits_add_up credits_whole legal_flit
    wire_place_legal wire_legal home_legal queues_legal output_credits_fit names_agree reading reads packets_read channels_unused slots_empty
    line_unused arbiters_unused shaped every fresh_router queue_at wire_of home_of places flat total flit_of kind_of destination_of starts_kind
    ends_kind bit word_of with_bit
large_sound =
    record {
      sizes =
          record {
            configuration = refl;
            cycles = refl;
            wire = refl;
            home = refl;
            wire_rest = refl;
            home_rest = refl;
            shape = refl;
          };
      flow =
          record {
            credits = refl;
            queues = refl;
            output_credits = refl;
            channels = refl;
            slots = refl;
          };
      naming =
          record {
            names = refl;
            packets = refl;
          };
      arbitration =
          record {
            arbiters = large_arbiters;
            others = refl;
          };
    }

large_right : right (sound_row large) ≡ true
unfolding right sound_row sound
large_right = sym (all_none large clauses) ∙ sound_passes large large_sound

pub table : List Row
table = sound_row large ∷ others

-- each row breaks just the clauses that it names
pub table_right : all right table ≡ true
unfolding all table
table_right = ap₂ ◌&&◌ large_right others_right

-- of one of its arbiters the test is computed too
pub picked_computed : arbiter.sound 32 2 32 (picked 32 32 (9 ∷ 0 ∷ 31 ∷ [])) ≡ true
unfolding picked xor every bit word_of with_bit arbiter.sound arbiter.known arbiter.usable arbiter.moved arbiter.fresh pointer_after beats
    raised defeated list_of fresh_row fresh_rows total_order within blank_from
picked_computed = refl
