-- What a record of a grant stands for.
-- Assumes nothing.
use Rattle.std.specs.Prelude.{List, ℕ, ◌/◌, ◌%◌, get_or, set}
use Rattle.std.specs.Prelude.{Option, Some, None, option_map}
use Rattle.base.specs.declared.config.Config.{Config}
use Rattle.state.specs.declared.InputVc.{InputVc}
use Rattle.state.specs.declared.OutputVc.{OutputVc}
use Rattle.state.specs.Fresh.{fresh_input}
use Rattle.state.specs.Views.{channel_number, output_at}
use Rattle.rules.specs.Ports.{over_ports}
use Rattle.rules.specs.Allocation.{Grant, bind_to, held_by}
use Rattle.router.specs.declared.allocation.Granted.{Granted}

abbrev pub grant_in : Granted → Grant
grant_in g = record { requester = g.requester; vc = g.vc }

-- what output o granted
abbrev pub grant_at : List (Option Granted) → ℕ → Option Grant
grant_at made o = option_map grant_in (get_or made o None)

-- `bindings` by its two lists: the input VC that output o binds
abbrev pub input_bound : ℕ → Option Grant → List InputVc → List InputVc
input_bound o None inputs = inputs
input_bound o (Some g) inputs = set inputs g.requester (bind_to o g.vc (get_or inputs g.requester (fresh_input 0)))

-- and the VC of output o that is held from then on
abbrev pub output_held : Config → ℕ → Option Grant → List OutputVc → List OutputVc
output_held c o None outputs = outputs
output_held c o (Some g) outputs =
    set outputs (channel_number c o g.vc) (held_by (g.requester / c.vcs) (g.requester % c.vcs) (output_at c outputs o g.vc))

unfoldable pub inputs_bound : Config → (ℕ → Option Grant) → List InputVc → List InputVc
inputs_bound c grant = over_ports c.ports (λ inputs o. input_bound o (grant o) inputs)

unfoldable pub outputs_held : Config → (ℕ → Option Grant) → List OutputVc → List OutputVc
outputs_held c grant = over_ports c.ports (λ outputs o. output_held c o (grant o) outputs)
