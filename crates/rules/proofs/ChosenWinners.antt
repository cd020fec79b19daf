-- Phase 6 in both views: what is bound by now, who is ready, and whom the inputs and the outputs pick.
-- Assumes nothing.
use Rattle.std.specs.Prelude.{Ok}
use mathlib.Core.Path.{◌≡◌, refl, sym, ap, ap₂, ◌∙◌}
use mathlib.Core.Bool.{Bool, false, not, ◌&&◌}
use mathlib.Core.List.{List}
use Rattle.std.specs.Prelude.{Option, Some, None}
use Prim.Native.Nat.{ℕ, zero, suc, ◌≤◌, ◌<◌}
use native.Mathlib.Numerals.{add-one}
use native.Mathlib.Omega.{arith}
use lib.Dec.{eqb}
use lib.ListN.{length}
use borrow.Author.Tests.{ne_eqb}
use Rattle.base.specs.declared.config.Config.{Config}
use Rattle.base.specs.declared.flit.Flit.{Flit}
use Rattle.arbiter.proofs.ByKind.{choice_same}
use Rattle.model.specs.Cycle.{Event}
use Rattle.model.specs.Phases.{granted}
use Rattle.model.specs.Router as free
use Rattle.state.specs.declared.OutVc.{OutVc}
use Rattle.state.specs.declared.Arbiters.{Arbiters}
use Rattle.state.specs.declared.Binding.{Binding}
use Rattle.state.specs.declared.Binding.TheVariants.{Unbound, Bound}
use Rattle.state.specs.declared.InputVc.{InputVc}
use Rattle.state.specs.declared.OutputVc.{OutputVc}
use Rattle.state.specs.declared.Router.{Router}
use Rattle.state.specs.Channels.{ChannelView, bound_to, is_there}
use Rattle.state.specs.Views.{channel_number, input_at, queue_of, input_arbiter, output_arbiter}
use Rattle.state.proofs.Queues.{queue_in, none_queued, front_is_first}
use Rattle.trace.specs.Bytes.{AreBytes}
use Rattle.rules.specs.Allocation as allocation
use Rattle.rules.specs.Allocation.{allocated, has_credit, ready, input_pick, picked, request, output_pick}
use Rattle.rules.specs.Chosen.{is_empty, bound_now, paid, is_ready, input_winner, is_for, asks_for, output_winner}
use Rattle.rules.specs.Free.{name_of, free_of, event_of}
use Rattle.rules.specs.Intake.{credits_reached, credits_returned, landed, offers_taken}
use Rattle.rules.specs.Step.{taken_in, step_of}
use Rattle.rules.proofs.Accepted.{readied, accepted_before, taken_sound, readied_sound}
use Rattle.rules.proofs.AllocatedSound.{inputs_alike, outputs_alike}
use Rattle.rules.proofs.Channels.{channel_room}
use Rattle.rules.proofs.Choices.{grant_to}
use Rattle.rules.proofs.ChosenGrants.{grant_alike, grant_beyond}
use Rattle.rules.proofs.ChosenViews.{bound_came, queue_came, credit_came, view_beyond}
use Rattle.rules.proofs.Facts.{sound_legal, sound_lengths}
use Rattle.rules.proofs.LeavingViews.{now_bound, bound_now-law}
use Rattle.rules.proofs.LeftPackets.{queued_few}
use Rattle.rules.proofs.Naming.{Agree, names_agree-law}
use Rattle.rules.proofs.Winners.{pick_ready}

-- a grant counts before what was bound, in both views
pub named_granted : (g b : Option OutVc) → granted (name_of g) (name_of b) ≡ name_of (now_bound g b)
named_granted None b = refl
named_granted (Some g) b = refl

-- a queue is empty exactly if none is queued
queue_empty : (store : List ℕ) (x q : ℕ) → x < 32 → length store ≡ 512 → q ≤ 16 → is_empty (queue_in store x q) ≡ eqb q 0
queue_empty store x zero there whole few = ap is_empty (none_queued store x)
queue_empty store x (suc q) there whole few =
    ap (λ (n : ℕ). is_empty (queue_in store x n)) (sym (add-one q))
    ∙ ap is_empty (front_is_first store x there whole q (omega arith))
    ∙ sym (ne_eqb (suc q) 0 (λ z. omega arith))

module _ (s : Router) (part : List ℕ) (bytes : AreBytes part) (accepted : (step_of s part).verdict ≡ Ok tt) where
  abbrev c : Config
  c = s.config

  -- the router after phase 4, and after phase 5
  abbrev came : Router
  came = taken_in part s

  abbrev mid : Router
  mid = readied part s

  abbrev a : Arbiters
  a = s.arbiters

  abbrev f : free.Router Flit
  f = free_of s

  abbrev e : Event Flit
  e = event_of c part

  pub agree_now : Agree c mid.inputs mid.outputs
  unfolding allocated taken_in offers_taken landed credits_returned credits_reached
  agree_now = names_agree-law c mid.inputs mid.outputs (readied_sound s part bytes accepted).naming.names

  -- what an input VC is bound to after phase 5
  pub bound_alike : (i v : ℕ) → i < c.ports → v < c.vcs → bound_now c a f e i v ≡ name_of (bound_to (input_at c mid.inputs i v).binding)
  unfolding bound_now taken_in offers_taken landed credits_returned credits_reached
  bound_alike i v port vc =
      ap₂ granted (grant_alike s part bytes accepted i v port vc) (bound_came s part bytes accepted i v port vc)
      ∙ named_granted (grant_to came (channel_number c i v)) (bound_to (input_at c came.inputs i v).binding)
      ∙ ap name_of (sym (bound_now-law came (taken_sound s part bytes accepted) i v port vc))

  -- one that there is not is bound to nothing
  pub bound_beyond : (i v : ℕ) → is_there c i v ≡ false → bound_now c a f e i v ≡ None
  unfolding bound_now free_of
  bound_beyond i v out =
      ap₂ granted (grant_beyond s part bytes accepted i v out) (ap (λ (y : ChannelView). name_of y.bound) (view_beyond s i v out))

  module _ (i v : ℕ) (port : i < c.ports) (vc : v < c.vcs) where
    paid_alike : (b : Binding) → (input_at c mid.inputs i v).binding ≡ b → paid c a f e (name_of (bound_to b)) ≡ has_credit c mid.outputs b
    unfolding taken_in offers_taken landed credits_returned credits_reached
    paid_alike Unbound q = refl
    paid_alike (Bound b) q =
        let named = agree_now.bound i v port vc b q in
        ap (λ (n : ℕ). not (eqb n 0))
        (credit_came s part bytes accepted b.output b.vc named.0 named.1
        ∙ sym (outputs_alike came (taken_sound s part bytes accepted) (λ (y : OutputVc). y.credit) (λ i v y. refl)
        (channel_number c b.output b.vc)))

    empty_alike : is_empty (queue_of c came.store i v (input_at c came.inputs i v).queued) ≡ eqb (input_at c mid.inputs i v).queued 0
    unfolding taken_in offers_taken landed credits_returned credits_reached
    empty_alike =
        queue_empty came.store (channel_number c i v) (input_at c came.inputs i v).queued
        (channel_room c (sound_legal s (accepted_before s part bytes accepted)) i v port vc)
        (sound_lengths came (taken_sound s part bytes accepted)).store (queued_few came (taken_sound s part bytes accepted) i v port vc)
        ∙ ap (λ (n : ℕ). eqb n 0)
        (sym (inputs_alike came (taken_sound s part bytes accepted) (λ (y : InputVc). y.queued) (λ o w y. refl) (channel_number c i v)))

    -- who is ready
    ready_alike : is_ready c a f e i v ≡ ready c mid.inputs mid.outputs i v
    unfolding is_ready allocation.is_ready
    ready_alike =
        ap₂ (λ (b : Option free.OutVc) (q : List Flit). paid c a f e b && not (is_empty q)) (bound_alike i v port vc)
        (queue_came s part bytes accepted i v port vc)
        ∙ ap₂ (λ (b d : Bool). b && not d) (paid_alike (input_at c mid.inputs i v).binding refl) empty_alike

  -- the VC that an input picks
  pub input_alike : (i : ℕ) → i < c.ports → input_winner c a f e i ≡ input_pick mid i
  unfolding input_winner input_pick allocated taken_in offers_taken landed credits_returned credits_reached
  input_alike i port =
      choice_same 8 c.arbiter c.vcs (is_ready c a f e i) (ready c mid.inputs mid.outputs i) (input_arbiter a i)
      (λ v vc. ready_alike i v port vc)

  for_alike : (o : ℕ) (b : Binding) → is_for c a f e o (name_of (bound_to b)) ≡ allocation.is_for o b
  for_alike o Unbound = refl
  for_alike o (Bound b) = refl

  -- whether it asks for output o
  asks_alike : (o i : ℕ) → i < c.ports → asks_for c a f e o i (input_winner c a f e i) ≡ request mid i o
  unfolding request allocated taken_in offers_taken landed credits_returned credits_reached
  asks_alike o i port = ap (asks_for c a f e o i) (input_alike i port) ∙ go (input_pick mid i) refl
    where
      go : (m : Option ℕ) → input_pick mid i ≡ m → asks_for c a f e o i m ≡ picked c mid.inputs i o m
      go None q = refl
      go (Some v) q =
          ap (is_for c a f e o) (bound_alike i v port (pick_ready mid i v q).0) ∙ for_alike o (input_at c mid.inputs i v).binding

  -- the input that an output picks
  pub output_alike : (o : ℕ) → output_winner c a f e o ≡ output_pick mid o
  unfolding output_winner output_pick allocated taken_in offers_taken landed credits_returned credits_reached
  output_alike o =
      choice_same 8 c.arbiter c.ports _ (λ (i : ℕ). request mid i o) (output_arbiter a o) (λ i port. asks_alike o i port)
