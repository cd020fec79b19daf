-- Phase 5 keeps a sound router sound.
-- Assumes nothing.
use mathlib.Core.Path.{◌≡◌, refl, sym, ap, ◌∙◌}
use mathlib.Core.Logic.{◌⊎◌, inl, inr}
use mathlib.Core.Bool.{Bool, true, not}
use mathlib.Core.List.{◌++◌}
use Prim.Native.Nat.{ℕ, ◌*◌, ◌/◌, ◌%◌}
use native.Mathlib.Omega.{arith}
use lib.Dec.{leb}
use lib.ListN.{get_or}
use Rattle.base.specs.declared.config.Config.{Config}
use Rattle.state.specs.declared.Binding.{Binding}
use Rattle.state.specs.declared.Binding.TheVariants.{Unbound}
use Rattle.state.specs.declared.InputVc.{InputVc}
use Rattle.state.specs.declared.OutputVc.{OutputVc}
use Rattle.state.specs.declared.Router.{Router}
use Rattle.state.specs.Fresh.{fresh_input, fresh_output}
use Rattle.state.specs.Sound.{Sound, credits_add_up, packets_read, output_credits_fit, front_is_for, begins_inside, reading, ends_as, reads}
use Rattle.store.specs.Store.{first_slot}
use Rattle.state.specs.Views.{channel_number, input_at, queue_at, queue_of, wire_of, flat}
use Rattle.state.proofs.Exact.{shape_is}
use Rattle.rules.specs.Allocation.{grant_of, requester_of, bind_to, held_by, allocated}
use Rattle.rules.proofs.AllocatedNames.{bound_at, held_at, allocated_names}
use Rattle.rules.proofs.Acts.{Actor, Untouched}
use Rattle.rules.proofs.Arbiters.{arbiters_moved_sound, arbiters_beyond, arbiters_kept, unused_arbiters_kept}
use Rattle.rules.proofs.Bound.{asking, giving, allocated_inputs_length, allocated_outputs_length, ungranted_stays, ungiven_stays}
use Rattle.rules.proofs.Bound.{beyond_ungranted, beyond_ungiven, granted_or_not, given_or_not}
use Rattle.rules.proofs.Channels.{channels_ext}
use Rattle.rules.proofs.Facts.{credits_sum, sum_credits, sound_lengths}
use Rattle.rules.proofs.Grants.{grant_is}
use Rattle.rules.proofs.Kept.{Alike, queued_of, queues_kept, slots_kept, unused_kept}

module _ (s : Router) (sound : Sound s) where
  abbrev c : Config
  c = s.config

  -- all but the binding stays, of each input VC; all but the holder, of each output VC
  pub inputs_alike : {B : Type 0} (see : InputVc → B) → ((o w : ℕ) (x : InputVc) → see (bind_to o w x) ≡ see x)
      → Alike (fresh_input 0) see (allocated s).inputs s.inputs
  inputs_alike see same x = go (granted_or_not s x)
    where
      go : Actor (grant_of s) (asking s) c.ports x ⊎ Untouched (grant_of s) (asking s) c.ports x
          → see (get_or (allocated s).inputs x (fresh_input 0)) ≡ see (get_or s.inputs x (fresh_input 0))
      go (inl a) = ap see (bound_at s sound x a) ∙ same a.port a.deed.vc (get_or s.inputs x (fresh_input 0))
      go (inr off) = ap see (ungranted_stays s x off)

  pub outputs_alike : {B : Type 0} (see : OutputVc → B) → ((i v : ℕ) (y : OutputVc) → see (held_by i v y) ≡ see y)
      → Alike (fresh_output 0) see (allocated s).outputs s.outputs
  outputs_alike see same x = go (given_or_not s x)
    where
      go : Actor (grant_of s) (giving s) c.ports x ⊎ Untouched (grant_of s) (giving s) c.ports x
          → see (get_or (allocated s).outputs x (fresh_output 0)) ≡ see (get_or s.outputs x (fresh_output 0))
      go (inl a) = ap see (held_at s sound x a) ∙ same (a.deed.requester / c.vcs) (a.deed.requester % c.vcs)
          (get_or s.outputs x (fresh_output 0))
      go (inr off) = ap see (ungiven_stays s x off)

  credits : credits_add_up c (allocated s).inputs s.wire s.home ≡ true
  credits =
      sum_credits c (allocated s).inputs s.wire s.home (λ i v h g.
      let before = credits_sum c s.inputs s.wire s.home sound.flow.credits i v h g in
      let credit = inputs_alike (λ (x : InputVc). x.credit) (λ o w x. refl) (channel_number c i v) in
      let queued = inputs_alike queued_of (λ o w x. refl) (channel_number c i v) in
      omega arith)

  output_credits-law : output_credits_fit c (allocated s).outputs ≡ true
  unfolding output_credits_fit
  output_credits-law =
      channels_ext c _ _ (λ o w h g.
      ap (λ (n : ℕ). leb n c.downstream) (outputs_alike (λ (y : OutputVc). y.credit) (λ i v y. refl) (channel_number c o w)))
      ∙ sound.flow.output_credits

  -- a reading starts where it did: between packets, where an H or S for the output is in front
  packets : packets_read c (allocated s).inputs s.store s.wire ≡ true
  unfolding packets_read reads
  packets = channels_ext c _ _ (λ i v h g. go i v (granted_or_not s (channel_number c i v))) ∙ sound.naming.packets
    where
      go : (i v : ℕ) → Actor (grant_of s) (asking s) c.ports (channel_number c i v) ⊎ Untouched (grant_of s) (asking s) c.ports
          (channel_number c i v)
          → reads (queue_of c s.store i v (input_at c (allocated s).inputs i v).queued) (flat (wire_of c s.wire i v))
          (input_at c (allocated s).inputs i v).binding (input_at c (allocated s).inputs i v).opened
          ≡ reads (queue_of c s.store i v (input_at c s.inputs i v).queued) (flat (wire_of c s.wire i v))
          (input_at c s.inputs i v).binding
          (input_at c s.inputs i v).opened
      go i v (inl a) =
          let n = grant_is s a.port a.deed a.acts in
          let queue = queue_of c s.store i v (input_at c s.inputs i v).queued in
          let front : front_is_for a.port queue ≡ true =
          ap (λ (x : ℕ). front_is_for a.port (queue_at s.store (first_slot x) (get_or s.inputs x (fresh_input 0)).queued))
          (sym a.there)
          ∙ n.front in
          let unbound : (input_at c s.inputs i v).binding ≡ Unbound =
          ap (λ (x : ℕ). (get_or s.inputs x (fresh_input 0)).binding) (sym a.there) ∙ n.unbound in
          ap (λ (x : InputVc). reads (queue_of c s.store i v x.queued) (flat (wire_of c s.wire i v)) x.binding x.opened)
          (bound_at s sound
          (channel_number c i v) a)
          ∙ ap (λ (b : Bool). ends_as (input_at c s.inputs i v).opened (reading (not b) (queue ++ flat (wire_of c s.wire i v)))) front
          ∙ ap (λ (b : Binding). ends_as (input_at c s.inputs i v).opened
          (reading (begins_inside queue b) (queue ++ flat (wire_of c s.wire i v))))
          (sym unbound)
      go i v (inr off) =
          ap (λ (x : InputVc). reads (queue_of c s.store i v x.queued) (flat (wire_of c s.wire i v)) x.binding x.opened)
          (ungranted_stays s (channel_number c i v) off)

  -- "each accepted cycle leaves a sound state": phase 5
  pub allocated_sound : Sound (allocated s)
  unfolding allocated
  allocated_sound =
      let l = sound_lengths s sound in
      let queued = inputs_alike queued_of (λ o w x. refl) in
      record {
        sizes =
            record {
              configuration = sound.sizes.configuration;
              cycles = sound.sizes.cycles;
              wire = sound.sizes.wire;
              home = sound.sizes.home;
              wire_rest = sound.sizes.wire_rest;
              home_rest = sound.sizes.home_rest;
              shape = shape_is (allocated s) (allocated_inputs_length s ∙ l.inputs) (allocated_outputs_length s ∙ l.outputs) l.store
                  l.wire
                  l.home;
            };
        flow =
            record {
              credits = credits;
              queues = queues_kept c (allocated s).inputs s.inputs s.store queued ∙ sound.flow.queues;
              output_credits = output_credits-law;
              channels =
                  unused_kept c (allocated s).inputs s.inputs (allocated s).outputs s.outputs
                  (λ x h. ungranted_stays s x (beyond_ungranted s x h)) (λ x h. ungiven_stays s x (beyond_ungiven s x h))
                  ∙ sound.flow.channels;
              slots = slots_kept c (allocated s).inputs s.inputs s.store queued ∙ sound.flow.slots;
            };
        naming =
            record {
              names = allocated_names s sound;
              packets = packets;
            };
        arbitration =
            record {
              arbiters =
                  arbiters_kept c (allocated s).arbiters s.arbiters sound.arbitration.arbiters
                  (λ o h e. arbiters_moved_sound 32 c (c.ports * c.vcs) (λ (o : ℕ). requester_of (grant_of s o)) o (omega arith) s.arbiters.vcs h e)
                  (λ i h e. e)
                  (λ o h e. e);
              others =
                  unused_arbiters_kept c (allocated s).arbiters s.arbiters
                  (λ o h. arbiters_beyond 32 c (c.ports * c.vcs) (λ (o : ℕ). requester_of (grant_of s o)) o s.arbiters.vcs h) (λ i h. refl)
                  (λ o h. refl)
                  ∙ sound.arbitration.others;
            };
      }
