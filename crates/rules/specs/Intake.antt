-- Phases 1 to 4 (01, "One cycle, in this order"): what comes in.
-- Assumes nothing.
use Rattle.std.specs.Prelude.{cond, not, List, ◌++◌, ℕ, ◌+◌, ◌-◌, ◌*◌, ◌^◌, eqb, set, drop, replicate}
use Rattle.std.specs.Prelude.{Option, Some, None}
use Rattle.base.specs.declared.config.Config.{Config}
use Rattle.base.specs.declared.flit.Flit.{Flit}
use Rattle.base.specs.Flit.{ends_kind}
use Rattle.state.specs.declared.InputVc.{InputVc}
use Rattle.state.specs.declared.OutputVc.{OutputVc}
use Rattle.state.specs.declared.Router.{Router}
use Rattle.store.specs.Store.{pushed}
use Rattle.state.specs.Views.{channel_number, input_at, output_at, home_place, wire_place, wire_vc, wire_flit}
use Rattle.state.specs.Setters.{with_sender_credit, with_opened, with_queued, with_output_credit, with_inputs, with_outputs, with_store}
use Rattle.state.specs.Setters.{with_wire, with_home}
use Rattle.rules.specs.Ports.{over_ports, named}
use Rattle.rules.specs.Rows.{credit_at, brings, kind_at, vc_at, flit_at}

-- a line a cycle later: its oldest place has come out, its newest is empty
unfoldable pub advanced : List ℕ → List ℕ
advanced line = drop 8 line ++ replicate 8 0

-- Phase 1. "each raises that VC's sender credit by one"
abbrev pub sender_paid : InputVc → InputVc
sender_paid x = with_sender_credit (x.credit + 1) x

abbrev pub credit_to : Config → ℕ → Option ℕ → List InputVc → List InputVc
credit_to c i None inputs = inputs
credit_to c i (Some v) inputs = set inputs (channel_number c i v) (sender_paid (input_at c inputs i v))

-- "Credits that left an input B cycles ago reach its sender"
unfoldable pub senders_paid : Config → List ℕ → List InputVc → List InputVc
senders_paid c home = over_ports c.ports (λ inputs i. credit_to c i (named (home_place home 0 i)) inputs)

-- ".. and is reported."
unfoldable pub reported : Config → List ℕ → List (Option ℕ)
reported c home = over_ports c.ports (λ senders i. set senders i (named (home_place home 0 i))) (replicate 8 None)

unfoldable pub credits_reached : Router → Router
credits_reached s = with_home (advanced s.home) (with_inputs (senders_paid s.config s.home s.inputs) s)

-- Phase 2. "Each credit from downstream raises the named output VC's credit by one."
abbrev pub output_paid : OutputVc → OutputVc
output_paid y = with_output_credit (y.credit + 1) y

abbrev pub credit_from : Config → ℕ → Option ℕ → List OutputVc → List OutputVc
credit_from c o None outputs = outputs
credit_from c o (Some w) outputs = set outputs (channel_number c o w) (output_paid (output_at c outputs o w))

unfoldable pub outputs_paid : Config → List ℕ → List OutputVc → List OutputVc
outputs_paid c part = over_ports c.ports (λ outputs o. credit_from c o (named (credit_at part o)) outputs)

unfoldable pub credits_returned : List ℕ → Router → Router
credits_returned part s = with_outputs (outputs_paid s.config part s.outputs) s

-- Phase 3. "A flit accepted F cycles ago joins the end of its VC queue."
pub record Queues : Type 0 where
  pub inputs : List InputVc
  pub store : List ℕ

abbrev pub one_more_queued : InputVc → InputVc
one_more_queued x = with_queued (x.queued + 1) x

-- a flit joins the queue of VC v of input i
abbrev pub joined : Config → ℕ → ℕ → Flit → Queues → Queues
joined c i v f q =
    record {
      inputs = set q.inputs (channel_number c i v) (one_more_queued (input_at c q.inputs i v));
      store = pushed q.store (channel_number c i v) (input_at c q.inputs i v).queued f;
    }

abbrev pub landed_at : Config → ℕ → ℕ → Queues → Queues
landed_at c place i q = cond (eqb place 0) q (joined c i (wire_vc place) (wire_flit place) q)

unfoldable pub landings : Config → List ℕ → Queues → Queues
landings c wire = over_ports c.ports (λ q i. landed_at c (wire_place wire 0 i) i q)

unfoldable pub landed : Router → Router
landed s =
    with_wire (advanced s.wire)
    (with_inputs (landings s.config s.wire (record { inputs = s.inputs; store = s.store })).inputs
    (with_store (landings s.config s.wire (record { inputs = s.inputs; store = s.store })).store s))

-- Phase 4. "Offers. The step acts on ports that bring a flit and passes over the rest."
pub record Senders : Type 0 where
  pub inputs : List InputVc
  pub wire : List ℕ

-- "A taken flit costs one sender credit"; after it a packet is open, unless it ends one
abbrev pub offer_taken : ℕ → InputVc → InputVc
offer_taken kind x = with_sender_credit (x.credit - 1) (with_opened (not (ends_kind kind)) x)

-- the newest place of port i in a line of so many cycles
abbrev pub newest : ℕ → ℕ → ℕ
newest delay i = 8 * (delay - 1) + i

-- what a wire place holds: a flit with its VC above it
abbrev pub on_wire : ℕ → Flit → ℕ
on_wire v f = v * 2 ^ 38 + f.word

-- ".. and enters the wire."
abbrev pub taken_at : Config → List ℕ → Senders → ℕ → Senders
taken_at c part s i =
    cond (brings part i)
    (record {
      inputs = set s.inputs (channel_number c i (vc_at part i)) (offer_taken (kind_at part i) (input_at c s.inputs i (vc_at part i)));
      wire = set s.wire (newest c.forward i) (on_wire (vc_at part i) (flit_at part i));
    }) s

unfoldable pub offers : Config → List ℕ → Senders → Senders
offers c part = over_ports c.ports (taken_at c part)

unfoldable pub offers_taken : List ℕ → Router → Router
offers_taken part s =
    with_inputs (offers s.config part (record { inputs = s.inputs; wire = s.wire })).inputs
    (with_wire (offers s.config part (record { inputs = s.inputs; wire = s.wire })).wire s)
