-- A channel after an accepted cycle, in the free router's words: what the arbiters choose decides what it is bound to and whether its front
-- leaves, and all else follows.
-- Assumes nothing.
use Rattle.std.specs.Prelude.{Ok}
use mathlib.Core.Path.{◌≡◌, refl, sym, ap, ap₂, ◌∙◌}
use mathlib.Core.Bool.{Bool, cond, not, ◌&&◌}
use mathlib.Core.List.{List, [], ◌++◌}
use Rattle.std.specs.Prelude.{Option, None}
use Prim.Native.Nat.{ℕ, ◌+◌, ◌-◌, ◌<◌}
use lib.ListN.{length, drop}
use Rattle.base.specs.declared.config.Config.{Config}
use Rattle.base.specs.declared.flit.Flit.{Flit}
use Rattle.base.specs.Flit.{ends_kind}
use Rattle.model.specs.Line.{out, shift}
use Rattle.state.specs.declared.OutVc.{OutVc}
use Rattle.state.specs.declared.InputVc.{InputVc}
use Rattle.state.specs.declared.OutputVc.{OutputVc}
use Rattle.state.specs.declared.Router.{Router}
use Rattle.state.specs.Channels.{ChannelView, bound_to, channel_view}
use Rattle.state.specs.Sound.{Sound}
use Rattle.state.specs.Views.{channel_number, input_at, output_at, queue_of, home_of, to_vc}
use Rattle.trace.specs.Bytes.{AreBytes}
use Rattle.rules.specs.declared.Stepped.{Stepped}
use Rattle.rules.specs.Allocation as allocation
use Rattle.rules.specs.Allocation.{allocated}
use Rattle.rules.specs.Intake.{credits_reached, credits_returned, landed, offers_taken}
use Rattle.rules.specs.Rows.{kind_at, credit_at}
use Rattle.rules.specs.Step.{taken_in, sent_out, router_after, step_of}
use Rattle.rules.proofs.Accepted.{readied, accepted_none, accepted_before, accepted_steps, taken_sound, readied_sound}
use Rattle.rules.proofs.Accepted.{readied_newest}
use Rattle.rules.proofs.AllocatedSound.{inputs_alike, outputs_alike}
use Rattle.rules.proofs.Choices.{grant_to, leaves_from, passes_by}
use Rattle.rules.proofs.Facts.{sound_legal}
use Rattle.rules.proofs.IntakeChannel.{taken_after, wire_out}
use Rattle.rules.proofs.IntakeViews.{home_after, wire_after, queue_after, inside_after, binding_after, output_credit_after}
use Rattle.rules.proofs.LeavingViews.{now_bound, one, front_ends, bound_now-law, queue_left, bound_left, input_left, home_left}
use Rattle.rules.proofs.LeavingViews.{output_credit_left}
use Rattle.rules.proofs.Offers.{brings_on, offered}

-- a channel after a cycle that offers such flits on it, grants it so, and lets its front leave or not
abbrev pub stepped_view : ChannelView → List Flit → Bool → Option OutVc → Bool → ChannelView
stepped_view ch offered opened grant leaves =
    record {
      taken = ch.taken - out 0 ch.home + length offered;
      wire = shift ch.wire offered;
      queue = drop (one leaves) (ch.queue ++ out [] ch.wire);
      home = shift ch.home (one leaves);
      opened = opened;
      bound = cond (leaves && front_ends (ch.queue ++ out [] ch.wire)) None (now_bound grant ch.bound);
    }

module _ (s : Router) (part : List ℕ) (bytes : AreBytes part) (accepted : (step_of s part).verdict ≡ Ok tt) where
  abbrev c : Config
  c = s.config

  -- the router after phase 4, and after phase 5
  abbrev came : Router
  came = taken_in part s

  abbrev mid : Router
  mid = readied part s

  before : Sound s
  before = accepted_before s part bytes accepted

  module _ (i v : ℕ) (port : i < c.ports) (vc : v < c.vcs) where
    abbrev x : ℕ
    x = channel_number c i v

    -- phase 5 changes the binding alone
    alike : {B : Type 0} (see : InputVc → B) → ((o w : ℕ) (y : InputVc) → see (allocation.bind_to o w y) ≡ see y)
        → see (input_at c mid.inputs i v) ≡ see (input_at c came.inputs i v)
    alike see same = inputs_alike came (taken_sound s part bytes accepted) see same x

    queue_mid : queue_of c mid.store i v (input_at c mid.inputs i v).queued
        ≡ (channel_view s i v).queue ++ out [] (channel_view s i v).wire
    unfolding allocated
    queue_mid =
        ap (queue_of c came.store i v) (alike (λ (y : InputVc). y.queued) (λ o w y. refl))
        ∙ queue_after s part before (accepted_none s part bytes accepted) bytes i v port vc
        ∙ ap (λ (l : List Flit). (channel_view s i v).queue ++ l) (sym (wire_out c i v s.wire (sound_legal s before).forward.0))

    bound_mid : bound_to (input_at c mid.inputs i v).binding ≡ now_bound (grant_to came x) (channel_view s i v).bound
    unfolding taken_in offers_taken landed credits_returned credits_reached
    bound_mid =
        bound_now-law came (taken_sound s part bytes accepted) i v port vc
        ∙ ap (λ b. now_bound (grant_to came x) (bound_to b)) (binding_after s part before (accepted_none s part bytes accepted) bytes x)

    -- the whole view
    pub channel_steps : channel_view (step_of s part).router i v
        ≡ stepped_view (channel_view s i v) (offered part i v)
        (cond (brings_on part i v) (not (ends_kind (kind_at part i))) (channel_view s i v).opened)
        (grant_to came x) (leaves_from mid x)
    unfolding router_after sent_out allocated taken_in offers_taken landed credits_returned credits_reached
    channel_steps =
        let sound = readied_sound s part bytes accepted in
        let free = accepted_none s part bytes accepted in
        let taken =
        ap (λ (n : ℕ). c.depth - n) (input_left mid sound i v port vc (λ (y : InputVc). y.credit) (λ b q y. refl)
        ∙ alike (λ (y : InputVc). y.credit) (λ o w y. refl))
        ∙ taken_after s part before free bytes i v port vc in
        let wire = wire_after s part before free bytes i v port in
        let queue = queue_left mid sound i v port vc ∙ ap (drop (one (leaves_from mid x))) queue_mid in
        let home = home_left mid sound i v port vc (readied_newest s part bytes accepted) (drop 1 (home_of c s.home i v))
        (home_after s part before free bytes i v port) in
        let opened =
        input_left mid sound i v port vc (λ (y : InputVc). y.opened) (λ b q y. refl) ∙ alike (λ (y : InputVc). y.opened) (λ o w y. refl)
        ∙ inside_after s part before free bytes i v port vc in
        let bound =
        bound_left mid sound i v port vc
        ∙ ap₂ (λ (q : List Flit) (b : Option OutVc). cond (leaves_from mid x && front_ends q) None b) queue_mid bound_mid in
        ap (λ (y : Stepped). channel_view y.router i v) (accepted_steps s part bytes accepted)
        ∙ (λ t. record { taken = taken t; wire = wire t; queue = queue t; home = home t; opened = opened t; bound = bound t })

  -- an output VC's credit: one more where a credit comes from downstream, one less where a flit leaves by it
  pub output_credit_steps : (o w : ℕ) → o < c.ports → w < c.vcs
      → (output_at c (step_of s part).router.outputs o w).credit
      ≡ (output_at c s.outputs o w).credit + to_vc w (credit_at part o) - one (passes_by mid (channel_number c o w))
  unfolding router_after sent_out allocated taken_in offers_taken landed credits_returned credits_reached
  output_credit_steps o w port vc =
      ap (λ (y : Stepped). (output_at c y.router.outputs o w).credit) (accepted_steps s part bytes accepted)
      ∙ output_credit_left mid (readied_sound s part bytes accepted) o w
      ∙ ap (λ (n : ℕ). n - one (passes_by mid (channel_number c o w)))
      (outputs_alike came (taken_sound s part bytes accepted) (λ (y : OutputVc). y.credit) (λ i v y. refl) (channel_number c o w)
      ∙ output_credit_after s part before (accepted_none s part bytes accepted) bytes o w port vc)
