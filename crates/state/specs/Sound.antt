-- "Sound states" (01): "A state handed in is sound when ..", clause by clause, in the document's order. Each clause is a test that
-- computes, over the parts of a router that it reads; `Sound` says that all of them pass.
-- Assumes nothing.
use Rattle.state.specs.declared.InVc.{InVc}
use Rattle.arbiter.specs.declared.Arbiter.{Arbiter}
use Rattle.std.specs.Prelude.{◌≡◌, Bool, true, false, cond, not, ◌&&◌, ◌||◌, List, [], ◌∷◌, ◌++◌, ℕ, ◌+◌, ◌*◌, ◌^◌, eqb, leb, ltb, length}
use Rattle.std.specs.Prelude.{get_or}
use Rattle.std.specs.Bool.{xor, beq}
use Rattle.std.specs.Prelude.{Option, Some, None}
use Rattle.base.specs.declared.config.Config.{Config}
use Rattle.base.specs.declared.flit.Flit.{Flit}
use Rattle.base.specs.Flit.{kind_of, destination_of, starts_kind, ends_kind, head, single}
use Rattle.base.specs.Search.{every}
use Rattle.base.specs.Sizes.{illegal_field, cycle_limit, most_ports, most_channels}
use Rattle.arbiter.specs.Arbiter as arbiter
use Rattle.arbiter.specs.Matrix.{blank_from}
use Rattle.state.specs.declared.Binding.{Binding}
use Rattle.state.specs.declared.Binding.TheVariants.{Unbound, Bound}
use Rattle.state.specs.declared.InputVc.{InputVc}
use Rattle.state.specs.declared.OutputVc.{OutputVc}
use Rattle.state.specs.declared.Arbiters.{Arbiters}
use Rattle.state.specs.declared.Router.{Router}
use Rattle.state.specs.Fresh.{fresh_input, fresh_output}
use Rattle.store.specs.Store.{slot}
use Rattle.state.specs.Views.{input_at, output_at, queue_of, wire_place, wire_flit, wire_vc, wire_of, home_of, home_place, flat, total}
use Rattle.state.specs.Views.{vc_arbiter, input_arbiter, output_arbiter}

unfoldable pub is_none : Option ℕ → Bool
is_none None = true
is_none (Some k) = false

unfoldable pub all : {A : Type 0} → (A → Bool) → List A → Bool
all test [] = true
all test (x ∷ xs) = test x && all test xs

-- for each VC of each port that there are
abbrev pub every_channel : Config → (ℕ → ℕ → Bool) → Bool
every_channel c test = every c.ports (λ (i : ℕ). every c.vcs (test i))

-- "the configuration is legal"
unfoldable pub configuration_legal : Config → Bool
configuration_legal c = is_none (illegal_field c)

-- "the cycle count at most the limit"
unfoldable pub cycles_fit : ℕ → Bool
cycles_fit cycle = leb cycle cycle_limit

-- "sender credit + wire + queue + credits going home = D", of one input VC
unfoldable pub credits_whole : Config → List ℕ → List ℕ → ℕ → ℕ → InputVc → Bool
credits_whole c wire home i v input =
    eqb (input.credit + length (flat (wire_of c wire i v)) + input.queued + total (home_of c home i v)) c.depth

-- "for each input VC, sender credit + wire + queue + credits going home = D"
unfoldable pub credits_add_up : Config → List InputVc → List ℕ → List ℕ → Bool
credits_add_up c inputs wire home = every_channel c (λ i v. credits_whole c wire home i v (input_at c inputs i v))

-- a flit that some row can bring: "kind (1 head H, 2 body B, 3 tail T, 4 single S), a destination port", "Destination is 0 on B and T."
unfoldable pub legal_flit : Config → Flit → Bool
legal_flit c f =
    leb head (kind_of f) && leb (kind_of f) single
    && cond (starts_kind (kind_of f)) (ltb (destination_of f) c.ports) (eqb (destination_of f) 0) && ltb f.word (2 ^ 38)

unfoldable pub wire_place_legal : Config → ℕ → Bool
wire_place_legal c place = eqb place 0 || legal_flit c (wire_flit place) && ltb (wire_vc place) c.vcs

-- "wire .. places are empty or legal"
unfoldable pub wire_legal : Config → List ℕ → Bool
wire_legal c wire = every c.forward (λ (k : ℕ). every c.ports (λ (i : ℕ). wire_place_legal c (wire_place wire k i)))

-- "and home places are empty or legal"
unfoldable pub home_legal : Config → List ℕ → Bool
home_legal c home = every c.back (λ (k : ℕ). every c.ports (λ (i : ℕ). leb (home_place home k i) c.vcs))

-- "queued flits are legal (destinations too)". "any queue place kept is below D": none is kept.
unfoldable pub queues_legal : Config → List InputVc → List ℕ → Bool
queues_legal c inputs store =
    every_channel c (λ i v. all (legal_flit c) (queue_of c store i v (input_at c inputs i v).queued))

-- "output credits are at most E"
unfoldable pub output_credits_fit : Config → List OutputVc → Bool
output_credits_fit c outputs = every_channel c (λ o w. leb (output_at c outputs o w).credit c.downstream)

abbrev pub binding_is : ℕ → ℕ → Binding → Bool
binding_is o w Unbound = false
binding_is o w (Bound b) = eqb b.output o && eqb b.vc w

abbrev pub holder_is : ℕ → ℕ → Option InVc → Bool
holder_is i v None = false
holder_is i v (Some h) = eqb h.input i && eqb h.vc v

abbrev pub input_named : Config → List OutputVc → ℕ → ℕ → Binding → Bool
input_named c outputs i v Unbound = true
input_named c outputs i v (Bound b) =
    ltb b.output c.ports && ltb b.vc c.vcs && holder_is i v (output_at c outputs b.output b.vc).holder

abbrev pub output_named : Config → List InputVc → ℕ → ℕ → Option InVc → Bool
output_named c inputs o w None = true
output_named c inputs o w (Some h) =
    ltb h.input c.ports && ltb h.vc c.vcs && binding_is o w (input_at c inputs h.input h.vc).binding

-- "input VC and output VC name each other or neither does"
unfoldable pub names_agree : Config → List InputVc → List OutputVc → Bool
names_agree c inputs outputs =
    every_channel c (λ i v. input_named c outputs i v (input_at c inputs i v).binding)
    && every_channel c (λ o w. output_named c inputs o w (output_at c outputs o w).holder)

-- "round-robin pointers are below their width and matrices are a total order, no requester beating itself"
unfoldable pub arbiters_sound : Config → Arbiters → Bool
arbiters_sound c a =
    every c.ports (λ (i : ℕ).
    arbiter.sound 32 c.arbiter (c.ports * c.vcs) (vc_arbiter a i)
    && arbiter.sound 8 c.arbiter c.vcs (input_arbiter a i)
    && arbiter.sound 8 c.arbiter c.ports (output_arbiter a i))

-- Flits read as packets, from between packets or from inside one: what follows the last, or none where they do not read.
-- "A packet is S alone, or H, any number of B, then T."
unfoldable pub reading : Bool → List Flit → Option Bool
reading inside [] = Some inside
reading inside (f ∷ fs) = cond (xor inside (starts_kind (kind_of f))) (reading (not (ends_kind (kind_of f))) fs) None

abbrev pub ends_as : Bool → Option Bool → Bool
ends_as inside None = false
ends_as inside (Some after) = beq after inside

-- "the queue's front is H or S for the bound output"
abbrev pub front_is_for : ℕ → List Flit → Bool
front_is_for o [] = false
front_is_for o (f ∷ fs) = starts_kind (kind_of f) && eqb (destination_of f) o

-- "For an unbound VC that reading starts between packets. For a bound VC either the queue's front is H or S for the bound output, or the
-- reading starts inside a packet."
abbrev pub begins_inside : List Flit → Binding → Bool
begins_inside queue Unbound = false
begins_inside queue (Bound b) = not (front_is_for b.output queue)

-- one input VC's "queue followed by wire"
unfoldable pub reads : List Flit → List Flit → Binding → Bool → Bool
reads queue wire binding inside = ends_as inside (reading (begins_inside queue binding) (queue ++ wire))

-- "queue followed by wire, oldest first, reads as packets. .. Its end agrees with whether the sender has a packet open."
unfoldable pub packets_read : Config → List InputVc → List ℕ → List ℕ → Bool
packets_read c inputs store wire =
    every_channel c (λ i v.
    reads (queue_of c store i v (input_at c inputs i v).queued) (flat (wire_of c wire i v)) (input_at c inputs i v).binding
    (input_at c inputs i v).opened)

abbrev pub is_unbound : Binding → Bool
is_unbound Unbound = true
is_unbound (Bound b) = false

abbrev pub is_vc_free : Option InVc → Bool
is_vc_free None = true
is_vc_free (Some h) = false

abbrev pub input_unused : InputVc → Bool
input_unused x = is_unbound x.binding && eqb x.credit 0 && not x.opened && eqb x.queued 0

abbrev pub output_unused : OutputVc → Bool
output_unused y = is_vc_free y.holder && eqb y.credit 0

-- pointer and rows are zero
abbrev pub arbiter_unused : (places : ℕ) → Arbiter places → Bool
arbiter_unused places a = eqb (length a.rows) places && (eqb a.pointer 0 && blank_from 0 places a.rows)

-- channels "beyond P and V .. are as on a fresh router of this configuration"
unfoldable pub channels_unused : Config → List InputVc → List OutputVc → Bool
channels_unused c inputs outputs =
    every most_channels (λ (x : ℕ).
    ltb x (c.ports * c.vcs) || input_unused (get_or inputs x (fresh_input 0)) && output_unused (get_or outputs x (fresh_output 0)))

-- "an empty slot is zero": those behind each queue, and all of a channel that is not in use
unfoldable pub slots_empty : List InputVc → List ℕ → Bool
slots_empty inputs store =
    every most_channels
    (λ (x : ℕ). every 16 (λ (k : ℕ). ltb k (get_or inputs x (fresh_input 0)).queued || eqb (get_or store (slot x k) 0) 0))

-- "Places not in use" of the lines: those of ports from P on, and those past the delay
unfoldable pub line_unused : ℕ → ℕ → List ℕ → Bool
line_unused delay ports line =
    every 8 (λ (k : ℕ). every 8 (λ (i : ℕ). ltb k delay && ltb i ports || eqb (get_or line (8 * k + i) 0) 0))

-- arbiters of ports from P on
unfoldable pub arbiters_unused : Config → Arbiters → Bool
arbiters_unused c a =
    every most_ports (λ (i : ℕ).
    ltb i c.ports
    || arbiter_unused 32 (vc_arbiter a i) && arbiter_unused 8 (input_arbiter a i)
    && arbiter_unused 8 (output_arbiter a i))

-- the arrays are as long as the struct has them; of a struct that is always so
unfoldable pub shaped : Router → Bool
shaped s =
    eqb (length s.inputs) 32 && eqb (length s.outputs) 32 && eqb (length s.store) 512 && eqb (length s.wire) 64
    && eqb (length s.home) 64

-- The clauses by name, in four topics, and what each of them tests.
pub data Clause : Type 0 where
  the_configuration : Clause
  the_cycles : Clause
  the_wire : Clause
  the_home : Clause
  the_wire_rest : Clause
  the_home_rest : Clause
  the_shape : Clause
  the_credits : Clause
  the_queues : Clause
  the_output_credits : Clause
  the_channels : Clause
  the_slots : Clause
  the_names : Clause
  the_packets : Clause
  the_arbiters : Clause
  the_other_arbiters : Clause

abbrev pub passes : Router → Clause → Bool
passes s the_configuration = configuration_legal s.config
passes s the_cycles = cycles_fit s.cycle
passes s the_wire = wire_legal s.config s.wire
passes s the_home = home_legal s.config s.home
passes s the_wire_rest = line_unused s.config.forward s.config.ports s.wire
passes s the_home_rest = line_unused s.config.back s.config.ports s.home
passes s the_shape = shaped s
passes s the_credits = credits_add_up s.config s.inputs s.wire s.home
passes s the_queues = queues_legal s.config s.inputs s.store
passes s the_output_credits = output_credits_fit s.config s.outputs
passes s the_channels = channels_unused s.config s.inputs s.outputs
passes s the_slots = slots_empty s.inputs s.store
passes s the_names = names_agree s.config s.inputs s.outputs
passes s the_packets = packets_read s.config s.inputs s.store s.wire
passes s the_arbiters = arbiters_sound s.config s.arbiters
passes s the_other_arbiters = arbiters_unused s.config s.arbiters

abbrev pub Passes : Router → Clause → Type 0
Passes s k = passes s k ≡ true

-- sizes and lines
pub record SizesAndLines (s : Router) : Type 0 where
  pub configuration : Passes s the_configuration
  pub cycles : Passes s the_cycles
  pub wire : Passes s the_wire
  pub home : Passes s the_home
  pub wire_rest : Passes s the_wire_rest
  pub home_rest : Passes s the_home_rest
  pub shape : Passes s the_shape

abbrev pub sizes_and_lines : List Clause
sizes_and_lines = the_configuration ∷ the_cycles ∷ the_wire ∷ the_home ∷ the_wire_rest ∷ the_home_rest ∷ the_shape ∷ []

-- credits and queues
pub record CreditsAndQueues (s : Router) : Type 0 where
  pub credits : Passes s the_credits
  pub queues : Passes s the_queues
  pub output_credits : Passes s the_output_credits
  pub channels : Passes s the_channels
  pub slots : Passes s the_slots

abbrev pub credits_and_queues : List Clause
credits_and_queues = the_credits ∷ the_queues ∷ the_output_credits ∷ the_channels ∷ the_slots ∷ []

-- names and packets
pub record NamesAndPackets (s : Router) : Type 0 where
  pub names : Passes s the_names
  pub packets : Passes s the_packets

abbrev pub names_and_packets : List Clause
names_and_packets = the_names ∷ the_packets ∷ []

-- arbiters
pub record ArbitersInOrder (s : Router) : Type 0 where
  pub arbiters : Passes s the_arbiters
  pub others : Passes s the_other_arbiters

abbrev pub arbiters_in_order : List Clause
arbiters_in_order = the_arbiters ∷ the_other_arbiters ∷ []

-- "A state handed in is sound when": all clauses
pub record Sound (s : Router) : Type 0 where
  pub sizes : SizesAndLines s
  pub flow : CreditsAndQueues s
  pub naming : NamesAndPackets s
  pub arbitration : ArbitersInOrder s

-- the same, as a test that computes
abbrev pub clauses : List Clause
clauses = sizes_and_lines ++ (credits_and_queues ++ (names_and_packets ++ arbiters_in_order))

unfoldable pub sound : Router → Bool
sound s = all (passes s) clauses
