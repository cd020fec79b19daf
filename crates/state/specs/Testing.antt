-- What the sound test looks at in one turn: the clauses of one input VC, of one channel and of one port's arbiters together.
-- Assumes nothing.
use Rattle.std.specs.Prelude.{Option, Some, None}
use Rattle.state.specs.declared.InVc.{InVc}
use Rattle.arbiter.specs.declared.Arbiter.{Arbiter}
use Rattle.std.specs.Prelude.{Bool, true, ◌&&◌, List, ℕ, ◌*◌, ◌%◌, leb, ltb}
use Rattle.base.specs.declared.config.Config.{Config}
use Rattle.arbiter.specs.Arbiter as arbiter
use Rattle.state.specs.declared.Binding.{Binding}
use Rattle.state.specs.declared.Binding.TheVariants.{Unbound, Bound}
use Rattle.state.specs.declared.InputVc.{InputVc}
use Rattle.state.specs.declared.OutputVc.{OutputVc}
use Rattle.state.specs.Views.{channel_number, input_at, output_at, queue_of, wire_of, flat}
use Rattle.state.specs.Sound.{all, legal_flit, credits_whole, reads, binding_is, holder_is, input_named, output_named, arbiter_unused}

-- credits, queue and packets of input VC v of port i
unfoldable pub input_sound : Config → List ℕ → List ℕ → List ℕ → ℕ → ℕ → InputVc → Bool
input_sound c store wire home i v input =
    credits_whole c wire home i v input
    && (all (legal_flit c) (queue_of c store i v input.queued)
    && reads (queue_of c store i v input.queued) (flat (wire_of c wire i v)) input.binding input.opened)

-- the place of channel v of port i; beyond P and V some place
abbrev pub place_of : Config → ℕ → ℕ → ℕ
place_of c i v = channel_number c i v % 32

-- the place of what an input VC names, and of what an output VC names
abbrev pub place_bound : Config → Binding → ℕ
place_bound c Unbound = 0
place_bound c (Bound b) = place_of c b.output b.vc

abbrev pub place_held : Config → Option InVc → ℕ
place_held c None = 0
place_held c (Some h) = place_of c h.input h.vc

-- what input VC v of port i names is held by it; what output VC w of port o names is bound to it
abbrev pub input_names : Config → ℕ → ℕ → Binding → Option InVc → Bool
input_names c i v Unbound holder = true
input_names c i v (Bound b) holder = ltb b.output c.ports && ltb b.vc c.vcs && holder_is i v holder

abbrev pub output_names : Config → ℕ → ℕ → Option InVc → Binding → Bool
output_names c o w None binding = true
output_names c o w (Some h) binding = ltb h.input c.ports && ltb h.vc c.vcs && binding_is o w binding

-- output credit and names of a channel, where the VCs that it names have this holder and this binding
unfoldable pub names_pass : Config → ℕ → ℕ → InputVc → OutputVc → Option InVc → Binding → Bool
names_pass c i v input output holder binding =
    leb output.credit c.downstream && (input_names c i v input.binding holder && output_names c i v output.holder binding)

-- output credit and names of channel v of port i
unfoldable pub names_sound : Config → List InputVc → List OutputVc → ℕ → ℕ → Bool
names_sound c inputs outputs i v =
    leb (output_at c outputs i v).credit c.downstream
    && (input_named c outputs i v (input_at c inputs i v).binding && output_named c inputs i v (output_at c outputs i v).holder)

-- all clauses of channel v of port i
unfoldable pub channel_sound : Config → List InputVc → List OutputVc → List ℕ → List ℕ → List ℕ → ℕ → ℕ → Bool
channel_sound c inputs outputs store wire home i v =
    names_sound c inputs outputs i v && input_sound c store wire home i v (input_at c inputs i v)

-- the arbiters of a port that there is, and of one that there is not
unfoldable pub port_arbiters : Config → Arbiter 32 → Arbiter 8 → Arbiter 8 → Bool
port_arbiters c vcs input output =
    arbiter.sound 32 c.arbiter (c.ports * c.vcs) vcs && arbiter.sound 8 c.arbiter c.vcs input
    && arbiter.sound 8 c.arbiter c.ports output

unfoldable pub no_arbiters : Arbiter 32 → Arbiter 8 → Arbiter 8 → Bool
no_arbiters vcs input output =
    arbiter_unused 32 vcs && arbiter_unused 8 input && arbiter_unused 8 output
