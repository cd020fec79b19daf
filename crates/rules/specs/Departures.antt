-- Phase 7 (01, "One cycle, in this order"): what goes out.
-- Assumes nothing.
use Rattle.std.specs.Prelude.{Bool, cond, List, ℕ, ◌+◌, ◌-◌, set, replicate}
use Rattle.std.specs.Prelude.{Option, Some, None}
use Rattle.base.specs.declared.reply.Departure.{Departure}
use Rattle.base.specs.declared.config.Config.{Config}
use Rattle.base.specs.declared.flit.Flit.{Flit}
use Rattle.base.specs.Flit.{kind_of, payload_of, ends_kind}
use Rattle.state.specs.declared.InVc.{InVc}
use Rattle.state.specs.declared.Binding.{Binding}
use Rattle.state.specs.declared.Binding.TheVariants.{Unbound, Bound}
use Rattle.state.specs.declared.InputVc.{InputVc}
use Rattle.state.specs.declared.OutputVc.{OutputVc}
use Rattle.state.specs.declared.Router.{Router}
use Rattle.store.specs.Store.{front_of, popped}
use Rattle.state.specs.Views.{channel_number, input_at, output_at}
use Rattle.state.specs.Setters.{set_binding, with_queued, set_holder, with_output_credit}
use Rattle.rules.specs.Ports.{over_ports}
use Rattle.rules.specs.Intake.{newest}
use Rattle.rules.specs.Allocation.{winner}

-- what departures change, and what they report
pub record Leaving : Type 0 where
  pub inputs : List InputVc
  pub outputs : List OutputVc
  pub store : List ℕ
  pub home : List ℕ
  pub left : List (Option Departure)

-- "leaves its queue", "T or S unbinds"
abbrev pub input_left : Bool → InputVc → InputVc
input_left ends x = set_binding (cond ends Unbound x.binding) (with_queued (x.queued - 1) x)

-- "costs one output credit", "and frees the output VC"
abbrev pub output_left : Bool → OutputVc → OutputVc
output_left ends y = set_holder (cond ends None y.holder) (with_output_credit (y.credit - 1) y)

-- "takes the output VC's number"
abbrev pub departure : ℕ → ℕ → ℕ → Flit → Option Departure
departure w i v f =
    Some (record { out_vc = w; input = i; vc = v; kind = kind_of f; payload = payload_of f })

-- the front flit f of VC v of input i leaves by VC w of output o
abbrev pub departed : Config → ℕ → ℕ → ℕ → ℕ → Flit → Leaving → Leaving
departed c o w i v f l =
    record {
      inputs = set l.inputs (channel_number c i v) (input_left (ends_kind (kind_of f)) (input_at c l.inputs i v));
      outputs = set l.outputs (channel_number c o w) (output_left (ends_kind (kind_of f)) (output_at c l.outputs o w));
      store = popped l.store (channel_number c i v);
      home = set l.home (newest c.back i) (v + 1);  -- "puts a credit on the way home"
      left = set l.left o (departure w i v f);
    }

-- by the VC of output o that it is bound to; a winner is always bound
abbrev pub goes_out : Config → ℕ → ℕ → ℕ → Binding → Leaving → Leaving
goes_out c o i v Unbound l = l
goes_out c o i v (Bound b) l = departed c o b.vc i v (front_of l.store (channel_number c i v)) l

-- "Each winner leaves": at output o
abbrev pub leaves_by : Config → ℕ → Option InVc → Leaving → Leaving
leaves_by c o None l = l
leaves_by c o (Some x) l = goes_out c o x.input x.vc (input_at c l.inputs x.input x.vc).binding l

unfoldable pub departures : Config → (ℕ → Option InVc) → Leaving → Leaving
departures c win = over_ports c.ports (λ l o. leaves_by c o (win o) l)

-- phase 7 of a router with no report yet
unfoldable pub leaving_of : Router → Leaving
leaving_of s =
    departures s.config (winner s)
    (record {
      inputs = s.inputs;
      outputs = s.outputs;
      store = s.store;
      home = s.home;
      left = replicate 8 None;
    })
