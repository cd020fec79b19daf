-- The free router before phase 5: its bindings, its queues and its output credits are those of the router after phase 4.
-- Assumes nothing.
use Rattle.std.specs.Prelude.{Ok}
use mathlib.Core.Path.{◌≡◌, refl, sym, ap, ap₂, ◌∙◌}
use mathlib.Core.Bool.{Bool, true, false, cond, ◌&&◌}
use mathlib.Core.List.{List, ◌++◌}
use Rattle.std.specs.Prelude.{None}
use Prim.Native.Nat.{ℕ, zero, suc, ◌+◌, ◌<◌}
use native.Mathlib.Omega.{arith}
use lib.Dec.{eqb}
use borrow.Author.Tests.{eqb-true, eqb-false, eq-eqb, ne_eqb, lt-ltb}
use Rattle.base.specs.declared.config.Config.{Config}
use Rattle.base.specs.declared.flit.Flit.{Flit}
use Rattle.model.specs.Channel.{queue_now}
use Rattle.model.specs.Phases.{out_credit_now, credit_for}
use Rattle.state.specs.declared.Binding.{Binding}
use Rattle.state.specs.declared.Router.{Router}
use Rattle.state.specs.Channels.{ChannelView, bound_to, fresh_view, is_there, channel_view, view_of, out_credit_of}
use Rattle.state.specs.Sound.{Sound}
use Rattle.state.specs.Views.{channel_number, input_at, output_at, queue_of, to_vc}
use Rattle.trace.specs.Bytes.{AreBytes}
use Rattle.rules.specs.Free.{channel_of, name_of, free_of, event_of}
use Rattle.rules.specs.Ports.{named}
use Rattle.rules.specs.Rows.{credit_at}
use Rattle.rules.specs.Step.{taken_in, step_of}
use Rattle.rules.proofs.Accepted.{accepted_none, accepted_before}
use Rattle.rules.proofs.Facts.{sound_legal}
use Rattle.rules.proofs.IntakeChannel.{wire_out}
use Rattle.rules.proofs.IntakeViews.{queue_after, binding_after, output_credit_after}
use Rattle.rules.proofs.LeavingViews.{one}

pub is_there-law : (c : Config) (i v : ℕ) → i < c.ports → v < c.vcs → is_there c i v ≡ true
is_there-law c i v port vc = ap₂ ◌&&◌ (lt-ltb i c.ports port) (lt-ltb v c.vcs vc)

-- the view of a VC that there is, and of one that there is not
pub view_there : (s : Router) (i v : ℕ) → i < s.config.ports → v < s.config.vcs → view_of s i v ≡ channel_view s i v
unfolding view_of
view_there s i v port vc =
    ap (λ (b : Bool). cond b (channel_view s i v) (fresh_view s.config)) (is_there-law s.config i v port vc)

pub view_beyond : (s : Router) (i v : ℕ) → is_there s.config i v ≡ false → view_of s i v ≡ fresh_view s.config
unfolding view_of
view_beyond s i v out = ap (λ (b : Bool). cond b (channel_view s i v) (fresh_view s.config)) out

-- a row's credit is for the VC that it names
pub credit_named : (w n : ℕ) → credit_for w (named n) ≡ to_vc w n
credit_named w zero = ap one (sym (ne_eqb 0 (w + 1) (λ e. omega arith)))
credit_named w (suc u) = ap one (go (eqb u w) refl)
  where
    go : (b : Bool) → eqb u w ≡ b → b ≡ eqb (suc u) (w + 1)
    go true e = sym (eq-eqb (suc u) (w + 1) (let q = eqb-true u w e in omega arith))
    go false e = sym (ne_eqb (suc u) (w + 1) (λ r. eqb-false u w e (omega arith)))

module _ (s : Router) (part : List ℕ) (bytes : AreBytes part) (accepted : (step_of s part).verdict ≡ Ok tt) where
  abbrev c : Config
  c = s.config

  -- the router after phase 4
  abbrev came : Router
  came = taken_in part s

  before : Sound s
  before = accepted_before s part bytes accepted

  -- phases 1 to 4 bind nothing
  pub bound_came : (i v : ℕ) → i < c.ports → v < c.vcs
      → (free_of s).bound i v ≡ name_of (bound_to (input_at c came.inputs i v).binding)
  unfolding free_of
  bound_came i v port vc =
      ap (λ (y : ChannelView). name_of y.bound) (view_there s i v port vc)
      ∙ ap (λ (b : Binding). name_of (bound_to b)) (sym (binding_after s part before (accepted_none s part bytes accepted) bytes
      (channel_number c i v)))

  -- what came out of the wire is queued
  pub queue_came : (i v : ℕ) → i < c.ports → v < c.vcs
      → queue_now ((free_of s).channel i v) ≡ queue_of c came.store i v (input_at c came.inputs i v).queued
  unfolding free_of
  queue_came i v port vc =
      ap (λ (y : ChannelView). queue_now (channel_of y)) (view_there s i v port vc)
      ∙ ap (λ (l : List Flit). (channel_view s i v).queue ++ l) (wire_out c i v s.wire (sound_legal s before).forward.0)
      ∙ sym (queue_after s part before (accepted_none s part bytes accepted) bytes i v port vc)

  -- what came from downstream is added
  pub credit_came : (o w : ℕ) → o < c.ports → w < c.vcs
      → out_credit_now (free_of s) (event_of c part) o w ≡ (output_at c came.outputs o w).credit
  unfolding free_of out_credit_of event_of
  credit_came o w port vc =
      ap₂ (λ (b d : Bool).
      cond b (output_at c s.outputs o w).credit c.downstream + credit_for w (cond d (named (credit_at part o)) None))
      (is_there-law c o w port vc) (lt-ltb o c.ports port)
      ∙ ap (λ (n : ℕ). (output_at c s.outputs o w).credit + n) (credit_named w (credit_at part o))
      ∙ sym (output_credit_after s part before (accepted_none s part bytes accepted) bytes o w port vc)
