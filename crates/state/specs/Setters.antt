-- One field of a struct changed, all others kept: what a phase does not name it does not change. A new field is written here and in Fresh.
-- Assumes nothing.
use Rattle.std.specs.Prelude.{Option}
use Rattle.state.specs.declared.InVc.{InVc}
use Rattle.arbiter.specs.declared.Arbiter.{Arbiter}
use Rattle.std.specs.Prelude.{Bool, List, ℕ}
use Rattle.base.specs.declared.config.Config.{Config}
use Rattle.state.specs.declared.Binding.{Binding}
use Rattle.state.specs.declared.InputVc.{InputVc}
use Rattle.state.specs.declared.OutputVc.{OutputVc}
use Rattle.state.specs.declared.Arbiters.{Arbiters}
use Rattle.state.specs.declared.Router.{Router}

-- an input VC and an output VC
abbrev pub set_binding : Binding → InputVc → InputVc
set_binding b x = record { binding = b; credit = x.credit; opened = x.opened; queued = x.queued }

abbrev pub with_sender_credit : ℕ → InputVc → InputVc
with_sender_credit n x = record { binding = x.binding; credit = n; opened = x.opened; queued = x.queued }

abbrev pub with_opened : Bool → InputVc → InputVc
with_opened b x = record { binding = x.binding; credit = x.credit; opened = b; queued = x.queued }

abbrev pub with_queued : ℕ → InputVc → InputVc
with_queued n x = record { binding = x.binding; credit = x.credit; opened = x.opened; queued = n }

abbrev pub set_holder : Option InVc → OutputVc → OutputVc
set_holder h y = record { holder = h; credit = y.credit }

abbrev pub with_output_credit : ℕ → OutputVc → OutputVc
with_output_credit n y = record { holder = y.holder; credit = n }

-- the arbiters
abbrev pub with_vc_arbiters : List (Arbiter 32) → Arbiters → Arbiters
with_vc_arbiters l a = record { vcs = l; inputs = a.inputs; outputs = a.outputs }

abbrev pub with_input_arbiters : List (Arbiter 8) → Arbiters → Arbiters
with_input_arbiters l a = record { vcs = a.vcs; inputs = l; outputs = a.outputs }

abbrev pub with_output_arbiters : List (Arbiter 8) → Arbiters → Arbiters
with_output_arbiters l a = record { vcs = a.vcs; inputs = a.inputs; outputs = l }

-- the router
abbrev pub with_config : Config → Router → Router
with_config c s =
    record {
      config = c;
      cycle = s.cycle;
      inputs = s.inputs;
      outputs = s.outputs;
      store = s.store;
      wire = s.wire;
      home = s.home;
      arbiters = s.arbiters;
    }

abbrev pub with_cycle : ℕ → Router → Router
with_cycle n s =
    record {
      config = s.config;
      cycle = n;
      inputs = s.inputs;
      outputs = s.outputs;
      store = s.store;
      wire = s.wire;
      home = s.home;
      arbiters = s.arbiters;
    }

abbrev pub with_inputs : List InputVc → Router → Router
with_inputs l s =
    record {
      config = s.config;
      cycle = s.cycle;
      inputs = l;
      outputs = s.outputs;
      store = s.store;
      wire = s.wire;
      home = s.home;
      arbiters = s.arbiters;
    }

abbrev pub with_outputs : List OutputVc → Router → Router
with_outputs l s =
    record {
      config = s.config;
      cycle = s.cycle;
      inputs = s.inputs;
      outputs = l;
      store = s.store;
      wire = s.wire;
      home = s.home;
      arbiters = s.arbiters;
    }

abbrev pub with_store : List ℕ → Router → Router
with_store l s =
    record {
      config = s.config;
      cycle = s.cycle;
      inputs = s.inputs;
      outputs = s.outputs;
      store = l;
      wire = s.wire;
      home = s.home;
      arbiters = s.arbiters;
    }

abbrev pub with_wire : List ℕ → Router → Router
with_wire l s =
    record {
      config = s.config;
      cycle = s.cycle;
      inputs = s.inputs;
      outputs = s.outputs;
      store = s.store;
      wire = l;
      home = s.home;
      arbiters = s.arbiters;
    }

abbrev pub with_home : List ℕ → Router → Router
with_home l s =
    record {
      config = s.config;
      cycle = s.cycle;
      inputs = s.inputs;
      outputs = s.outputs;
      store = s.store;
      wire = s.wire;
      home = l;
      arbiters = s.arbiters;
    }

abbrev pub with_arbiters : Arbiters → Router → Router
with_arbiters a s =
    record {
      config = s.config;
      cycle = s.cycle;
      inputs = s.inputs;
      outputs = s.outputs;
      store = s.store;
      wire = s.wire;
      home = s.home;
      arbiters = a;
    }
