-- Phases 5 and 6 (01, "One cycle, in this order"): who is bound, and who may leave.
-- Assumes nothing.
use Rattle.arbiter.specs.declared.Arbiter.{Arbiter}
use Rattle.std.specs.Prelude.{Bool, false, not, ◌&&◌, List, ℕ, ◌*◌, ◌/◌, ◌%◌, eqb, get_or, set}
use Rattle.std.specs.Prelude.{Option, Some, None}
use Rattle.base.specs.declared.config.Config.{Config}
use Rattle.base.specs.Search.{first_from}
use Rattle.arbiter.specs.Arbiter.{choice, after}
use Rattle.state.specs.declared.InVc.{InVc}
use Rattle.state.specs.declared.Binding.{Binding}
use Rattle.state.specs.declared.Binding.TheVariants.{Unbound, Bound}
use Rattle.state.specs.declared.InputVc.{InputVc}
use Rattle.state.specs.declared.OutputVc.{OutputVc}
use Rattle.state.specs.declared.Arbiters.{Arbiters}
use Rattle.state.specs.declared.Router.{Router}
use Rattle.state.specs.Fresh.{fresh_input, past_arbiter}
use Rattle.state.specs.Sound.{is_unbound, is_vc_free, front_is_for}
use Rattle.store.specs.Store.{first_slot}
use Rattle.state.specs.Views.{channel_number, input_at, output_at, queue_at, vc_arbiter, input_arbiter, output_arbiter}
use Rattle.state.specs.Setters.{set_binding, set_holder, with_inputs, with_outputs, with_arbiters, with_vc_arbiters, with_input_arbiters}
use Rattle.state.specs.Setters.{with_output_arbiters}
use Rattle.rules.specs.Ports.{over_ports}

-- Phase 5. "An unbound one whose front flit is H or S asks at its destination", here output o; "requester number i·V+v" is its place.
unfoldable pub asks : List InputVc → List ℕ → ℕ → ℕ → Bool
asks inputs store o x =
    is_unbound (get_or inputs x (fresh_input 0)).binding
    && front_is_for o (queue_at store (first_slot x) (get_or inputs x (fresh_input 0)).queued)

-- "the lowest-numbered free VC" of output o, "if some VC of that output is free"
unfoldable pub lowest_free_vc : Config → List OutputVc → ℕ → Option ℕ
lowest_free_vc c outputs o = first_from (λ (w : ℕ). is_vc_free (output_at c outputs o w).holder) c.vcs 0

-- the requester that is bound, and the VC that it is bound to
pub record Grant : Type 0 where
  pub requester : ℕ
  pub vc : ℕ

abbrev pub granted : Option ℕ → Option ℕ → Option Grant
granted None winner = None
granted (Some w) None = None
granted (Some w) (Some x) = Some (record { requester = x; vc = w })

-- "One arbiter per output, P·V wide, .. picks one; it is bound to the lowest-numbered free VC." What output o grants: at most one a cycle.
unfoldable pub grant_of : Router → ℕ → Option Grant
grant_of s o =
    granted (lowest_free_vc s.config s.outputs o)
    (choice 32 s.config.arbiter (s.config.ports * s.config.vcs) (asks s.inputs s.store o)
    (vc_arbiter s.arbiters o))

abbrev pub requester_of : Option Grant → Option ℕ
requester_of None = None
requester_of (Some g) = Some g.requester

abbrev pub bind_to : ℕ → ℕ → InputVc → InputVc
bind_to o w x = set_binding (Bound (record { output = o; vc = w })) x

abbrev pub held_by : ℕ → ℕ → OutputVc → OutputVc
held_by i v y = set_holder (Some (record { input = i; vc = v })) y

pub record Vcs : Type 0 where
  pub inputs : List InputVc
  pub outputs : List OutputVc

-- input VC and output VC name each other; requester i·V+v is VC v of input i
abbrev pub bound_by : Config → ℕ → Option Grant → Vcs → Vcs
bound_by c o None n = n
bound_by c o (Some g) n =
    record {
      inputs = set n.inputs g.requester (bind_to o g.vc (get_or n.inputs g.requester (fresh_input 0)));
      outputs = set n.outputs (channel_number c o g.vc) (held_by (g.requester / c.vcs) (g.requester % c.vcs)
          (output_at c n.outputs o g.vc));
    }

unfoldable pub bindings : Config → (ℕ → Option Grant) → Vcs → Vcs
bindings c grant = over_ports c.ports (λ n o. bound_by c o (grant o) n)

-- each arbiter of the ports that there are after its own pick, n wide
unfoldable pub arbiters_moved : (places : ℕ) → Config → ℕ → (ℕ → Option ℕ) → List (Arbiter places) → List (Arbiter places)
arbiters_moved places c n pick =
    over_ports c.ports (λ arbiters i. set arbiters i (after places c.arbiter n (pick i) (get_or arbiters i past_arbiter)))

unfoldable pub allocated : Router → Router
allocated s =
    with_arbiters
    (with_vc_arbiters
    (arbiters_moved 32 s.config (s.config.ports * s.config.vcs) (λ (o : ℕ). requester_of (grant_of s o)) s.arbiters.vcs) s.arbiters)
    (with_inputs (bindings s.config (grant_of s) (record { inputs = s.inputs; outputs = s.outputs })).inputs
    (with_outputs (bindings s.config (grant_of s) (record { inputs = s.inputs; outputs = s.outputs })).outputs s))

-- Phase 6. "A bound input VC (also one bound just now) is ready when its queue is not empty and its output VC has credit."
abbrev pub has_credit : Config → List OutputVc → Binding → Bool
has_credit c outputs Unbound = false
has_credit c outputs (Bound b) = not (eqb (output_at c outputs b.output b.vc).credit 0)

unfoldable pub is_ready : Config → List OutputVc → InputVc → Bool
is_ready c outputs x = has_credit c outputs x.binding && not (eqb x.queued 0)

abbrev pub ready : Config → List InputVc → List OutputVc → ℕ → ℕ → Bool
ready c inputs outputs i v = is_ready c outputs (input_at c inputs i v)

-- "Each input's V-wide arbiter picks one ready VC."
unfoldable pub input_pick : Router → ℕ → Option ℕ
input_pick s i =
    choice 8 s.config.arbiter s.config.vcs (ready s.config s.inputs s.outputs i) (input_arbiter s.arbiters i)

abbrev pub is_for : ℕ → Binding → Bool
is_for o Unbound = false
is_for o (Bound b) = eqb b.output o

abbrev pub picked : Config → List InputVc → ℕ → ℕ → Option ℕ → Bool
picked c inputs i o None = false
picked c inputs i o (Some v) = is_for o (input_at c inputs i v).binding

-- "Switch requests form a table, one row for each input and one column for each output": whether input i asks for output o
unfoldable pub request : Router → ℕ → ℕ → Bool
request s i o = picked s.config s.inputs i o (input_pick s i)

-- "each output's P-wide arbiter picks one row."
unfoldable pub output_pick : Router → ℕ → Option ℕ
output_pick s o = choice 8 s.config.arbiter s.config.ports (λ (i : ℕ). request s i o) (output_arbiter s.arbiters o)

-- "Both arbiters move on after their own pick."
unfoldable pub switched : Router → Arbiters
switched s =
    with_input_arbiters (arbiters_moved 8 s.config s.config.vcs (input_pick s) s.arbiters.inputs)
    (with_output_arbiters (arbiters_moved 8 s.config s.config.ports (output_pick s) s.arbiters.outputs) s.arbiters)

abbrev pub winning : ℕ → Option ℕ → Option InVc
winning i None = None
winning i (Some v) = Some (record { input = i; vc = v })

abbrev pub vc_of : (ℕ → Option ℕ) → Option ℕ → Option InVc
vc_of pick None = None
vc_of pick (Some i) = winning i (pick i)

-- the input VC that wins output o: of the row picked there, the VC that its input picked
unfoldable pub winner : Router → ℕ → Option InVc
winner s o = vc_of (input_pick s) (output_pick s o)
