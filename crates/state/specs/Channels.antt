-- One VC of one input, and of one output, in the free router's words: the fields of `Channel` and `Router` of crates/model by the same
-- names, with lines in the same order, so that the two are joined field by field.
-- Assumes nothing.
use Rattle.std.specs.Prelude.{Bool, false, cond, ◌&&◌, List, [], ℕ, ◌-◌, ltb, replicate}
use Rattle.std.specs.Prelude.{Option, Some, None}
use Rattle.base.specs.declared.config.Config.{Config}
use Rattle.base.specs.declared.flit.Flit.{Flit}
use Rattle.state.specs.declared.OutVc.{OutVc}
use Rattle.state.specs.declared.Binding.{Binding}
use Rattle.state.specs.declared.Binding.TheVariants.{Unbound, Bound}
use Rattle.state.specs.declared.Router.{Router}
use Rattle.state.specs.Views.{input_at, output_at, queue_of, wire_of, home_of}

pub record ChannelView : Type 0 where
  pub taken : ℕ  -- slots that the sender has taken
  pub wire : List (List Flit)  -- a place for each of F cycles, the oldest first
  pub queue : List Flit  -- the front first
  pub home : List ℕ  -- a place for each of B cycles, the oldest first
  pub opened : Bool  -- whether the sender has a packet open
  pub bound : Option OutVc

-- "An input VC is either unbound or bound to one output and one of its VCs." (01, phase 5)
abbrev pub bound_to : Binding → Option OutVc
bound_to Unbound = None
bound_to (Bound b) = Some b

-- "There each sender credit is D, .. no packet open, nothing bound or on its way." (01, Sizes)
abbrev pub fresh_view : Config → ChannelView
fresh_view c =
    record { taken = 0; wire = replicate c.forward []; queue = []; home = replicate c.back 0; opened = false; bound = None }

-- whether there is VC v of port i
abbrev pub is_there : Config → ℕ → ℕ → Bool
is_there c i v = ltb i c.ports && ltb v c.vcs

-- what the router holds of VC v of input i
abbrev pub channel_view : Router → ℕ → ℕ → ChannelView
channel_view s i v =
    record {
      taken = s.config.depth - (input_at s.config s.inputs i v).credit;
      wire = wire_of s.config s.wire i v;
      queue = queue_of s.config s.store i v (input_at s.config s.inputs i v).queued;
      home = home_of s.config s.home i v;
      opened = (input_at s.config s.inputs i v).opened;
      bound = bound_to (input_at s.config s.inputs i v).binding;
    }

-- the same of any i and v: of a VC that there is not, as on a fresh router
unfoldable pub view_of : Router → ℕ → ℕ → ChannelView
view_of s i v = cond (is_there s.config i v) (channel_view s i v) (fresh_view s.config)

-- the credit of VC w of output o; of one that there is not, as on a fresh router
unfoldable pub out_credit_of : Router → ℕ → ℕ → ℕ
out_credit_of s o w = cond (is_there s.config o w) (output_at s.config s.outputs o w).credit s.config.downstream
