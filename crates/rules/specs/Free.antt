-- The router in the words of crates/model, where choices are free.
-- Assumes nothing.
use Rattle.std.specs.Prelude.{cond, ◌&&◌, List, ℕ, ltb}
use Rattle.std.specs.Prelude.{Option, Some, None}
use Rattle.base.specs.declared.config.Config.{Config}
use Rattle.base.specs.declared.flit.Flit.{Flit}
use Rattle.base.specs.Flit.{kind_of, destination_of, starts_kind, ends_kind}
use Rattle.model.specs.Sizes as model
use Rattle.model.specs.Flit.{Look}
use Rattle.model.specs.Channel.{Channel}
use Rattle.model.specs.Router as free
use Rattle.model.specs.Cycle.{Event}
use Rattle.state.specs.declared.OutVc.{OutVc}
use Rattle.state.specs.declared.Router.{Router}
use Rattle.state.specs.Channels.{ChannelView, view_of, out_credit_of}
use Rattle.rules.specs.Ports.{named}
use Rattle.rules.specs.Rows.{credit_at, brings, vc_at, flit_at}

-- "1 head H, 2 body B, 3 tail T, 4 single S"; "the head names its output port"
abbrev pub look : Look Flit
look = record { starts = λ (f : Flit). starts_kind (kind_of f); ends = λ (f : Flit). ends_kind (kind_of f); port = destination_of }

abbrev pub sizes_of : Config → model.Config
sizes_of c =
    record { ports = c.ports; vcs = c.vcs; depth = c.depth; downstream = c.downstream; forward = c.forward; back = c.back }

abbrev pub channel_of : ChannelView → Channel Flit
channel_of ch = record { taken = ch.taken; wire = ch.wire; queue = ch.queue; home = ch.home }

abbrev pub name_of : Option OutVc → Option free.OutVc
name_of None = None
name_of (Some b) = Some (record { output = b.output; vc = b.vc })

-- what a router holds
unfoldable pub free_of : Router → free.Router Flit
free_of s =
    record {
      cycle = s.cycle;
      channel = λ (i v : ℕ). channel_of (view_of s i v);
      opened = λ (i v : ℕ). (view_of s i v).opened;
      bound = λ (i v : ℕ). name_of (view_of s i v).bound;
      out_credit = out_credit_of s;
    }

-- what a cycle's part brings at the ports that there are
unfoldable pub event_of : Config → List ℕ → Event Flit
event_of c part =
    record {
      offer = λ (i : ℕ). cond (ltb i c.ports && brings part i) (Some (record { vc = vc_at part i; flit = flit_at part i })) None;
      credit = λ (o : ℕ). cond (ltb o c.ports) (named (credit_at part o)) None;
    }
