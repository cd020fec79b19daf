-- Phases 6 and 7 keep a sound router sound, where the home line has its newest places empty, as phase 1 leaves them.
-- Assumes nothing.
use mathlib.Core.Path.{◌≡◌, refl, sym, ap, ◌∙◌}
use mathlib.Core.Logic.{◌⊎◌, inl, inr}
use mathlib.Core.Bool.{Bool, true, false}
use Prim.Native.Nat.{ℕ, ◌+◌, ◌-◌, ◌≤◌, ◌<◌}
use native.Mathlib.Omega.{arith}
use lib.Dec.{leb, ltb}
use lib.ListN.{length, get_or}
use borrow.Author.Tests.{le-leb, leb-true, ltb-true, ltb-false}
use Rattle.base.specs.declared.config.Config.{Config}
use Rattle.base.specs.Sizes.{cycle_limit}
use Rattle.base.proofs.Search.{every_at, all_every}
use Rattle.state.specs.declared.InputVc.{InputVc}
use Rattle.state.specs.declared.OutputVc.{OutputVc}
use Rattle.state.specs.declared.Router.{Router}
use Rattle.state.specs.Sound.{Sound, cycles_fit, output_credits_fit, slots_empty, channels_unused}
use Rattle.store.specs.Store.{slot}
use Rattle.state.specs.Views.{channel_number, output_at, home_place}
use Rattle.state.proofs.EmptySlots.{empty_in, empty_at, at_empty, queued_at}
use Rattle.state.proofs.Exact.{shape_is}
use Rattle.rules.specs.Allocation.{input_pick, output_pick, switched}
use Rattle.rules.specs.Departures.{leaving_of}
use Rattle.rules.specs.Step.{sent_out}
use Rattle.rules.proofs.Acts.{Untouched, touched_or_not}
use Rattle.rules.proofs.Arbiters.{arbiters_moved_sound, arbiters_beyond, arbiters_kept, unused_arbiters_kept}
use Rattle.rules.proofs.Channels.{channel_at, all_channels, channel_below}
use Rattle.rules.proofs.Exits.{exit, exit_is}
use Rattle.rules.proofs.Facts.{sound_lengths}
use Rattle.rules.proofs.Kept.{unused_kept}
use Rattle.rules.proofs.Left.{from_place, by_place, left_inputs_length, left_outputs_length, left_home_length, others_stay}
use Rattle.rules.proofs.Left.{unused_outputs_stay}
use Rattle.rules.proofs.LeftHome.{left_credits, left_home, left_home_rest}
use Rattle.rules.proofs.LeftNames.{Leaves, Passes, exit_named, left_at, passed_at, left_names}
use Rattle.rules.proofs.LeftPackets.{left_legal, left_packets}
use Rattle.rules.proofs.LeftQueues.{left_store_length, exit_slots, exit_last_slot, other_slots_stay}

module _ (s : Router) (sound : Sound s) where
  abbrev c : Config
  c = s.config

  -- "output credits are at most E": one less is so too
  output_credits-law : output_credits_fit c (leaving_of s).outputs ≡ true
  unfolding output_credits_fit
  output_credits-law = all_channels c _ (λ o w h g. go o w h g (touched_or_not (exit s) (by_place s) c.ports (channel_number c o w)))
    where
      before : (o w : ℕ) → o < c.ports → w < c.vcs → leb (output_at c s.outputs o w).credit c.downstream ≡ true
      before o w h g = channel_at c (λ o w. leb (output_at c s.outputs o w).credit c.downstream) sound.flow.output_credits o w h g

      less : (a b n : ℕ) → a ≡ b - 1 → b ≤ n → a ≤ n
      less a b n e h = omega arith

      go : (o w : ℕ) → o < c.ports → w < c.vcs → Passes s sound (channel_number c o w) ⊎ Untouched (exit s) (by_place s) c.ports
          (channel_number c o w)
          → leb (output_at c (leaving_of s).outputs o w).credit c.downstream ≡ true
      go o w h g (inl a) =
          le-leb (output_at c (leaving_of s).outputs o w).credit c.downstream
          (less (output_at c (leaving_of s).outputs o w).credit (output_at c s.outputs o w).credit c.downstream
          (ap (λ (y : OutputVc). y.credit) (passed_at s sound (channel_number c o w) a))
          (leb-true (output_at c s.outputs o w).credit c.downstream (before o w h g)))
      go o w h g (inr off) =
          ap (λ (y : OutputVc). leb y.credit c.downstream) (unused_outputs_stay s (channel_number c o w) off) ∙ before o w h g

  -- no flit leaves a channel beyond P and V, or by one
  channels : channels_unused c (leaving_of s).inputs (leaving_of s).outputs ≡ true
  channels =
      unused_kept c (leaving_of s).inputs s.inputs (leaving_of s).outputs s.outputs
      (λ x h. others_stay s x (λ o e l q same.
      let w = (exit_is s o e q).wins in
      let b = channel_below c e.input e.vc w.input_below w.vc_below in
      omega arith))
      (λ x h. unused_outputs_stay s x (λ o e l q same.
      let b = channel_below c o e.by l (exit_named s sound o e q).1 in
      omega arith))
      ∙ sound.flow.channels

  -- "an empty slot is zero": those behind a queue move up with it
  slots : slots_empty (leaving_of s).inputs (leaving_of s).store ≡ true
  unfolding slots_empty
  slots =
      all_every 32 (λ (x : ℕ). empty_in (leaving_of s).store x (queued_at (leaving_of s).inputs x)) (λ x h.
      at_empty (leaving_of s).store x (queued_at (leaving_of s).inputs x) (λ k g m.
      go x h k g m (touched_or_not (exit s) (from_place s) c.ports x)))
    where
      long : length s.store ≡ 512
      long = (sound_lengths s sound).store

      before : (x : ℕ) → x < 32 → (k : ℕ) → k < 16 → queued_at s.inputs x ≤ k → get_or s.store (slot x k) 0 ≡ 0
      before x h =
          empty_at s.store x (queued_at s.inputs x) (every_at 32 (λ (x : ℕ). empty_in s.store x (queued_at s.inputs x))
          sound.flow.slots x h)

      moved : (x : ℕ) → x < 32 → (a : Leaves s sound x) (k : ℕ) → k < 16 → queued_at s.inputs x - 1 ≤ k → (b : Bool) → ltb k 15 ≡ b
          → get_or (leaving_of s).store (slot x k) 0 ≡ 0
      moved x h a k g m true e =
          let l = ltb-true k 15 e in
          ap (λ (y : ℕ). get_or (leaving_of s).store (slot y k) 0) (sym a.there)
          ∙ exit_slots s long a.port a.deed a.below a.acts k l (rw a.there h)
          ∙ ap (λ (y : ℕ). get_or s.store (slot y (k + 1)) 0) a.there
          ∙ before x h (k + 1) (omega arith) (omega arith)
      moved x h a k g m false e =
          let l = ltb-false k 15 e in
          let last : k ≡ 15 = omega arith in
          ap (λ (j : ℕ). get_or (leaving_of s).store (slot x j) 0) last
          ∙ ap (λ (y : ℕ). get_or (leaving_of s).store (slot y 15) 0) (sym a.there)
          ∙ exit_last_slot s long a.port a.deed a.below a.acts (rw a.there h)

      go : (x : ℕ) → x < 32 → (k : ℕ) → k < 16 → queued_at (leaving_of s).inputs x ≤ k
          → Leaves s sound x ⊎ Untouched (exit s) (from_place s) c.ports x → get_or (leaving_of s).store (slot x k) 0 ≡ 0
      go x h k g m (inl a) =
          let less : queued_at (leaving_of s).inputs x ≡ queued_at s.inputs x - 1 = ap (λ (y : InputVc). y.queued)
          (left_at s sound x a) in
          moved x h a k g (omega arith) (ltb k 15) refl
      go x h k g m (inr off) =
          let same : queued_at (leaving_of s).inputs x ≡ queued_at s.inputs x = ap (λ (y : InputVc). y.queued) (others_stay s x off) in
          other_slots_stay s long x off k g ∙ before x h k g (omega arith)

  cycles : s.cycle < cycle_limit → cycles_fit (s.cycle + 1) ≡ true
  unfolding cycles_fit
  cycles h = le-leb (s.cycle + 1) cycle_limit (omega arith)

  -- "each accepted cycle leaves a sound state": phases 6 and 7
  pub sent_out_sound : s.cycle < cycle_limit → ((i : ℕ) → i < c.ports → home_place s.home (c.back - 1) i ≡ 0) → Sound (sent_out s)
  unfolding sent_out switched
  sent_out_sound late empty =
      let l = sound_lengths s sound in
      record {
        sizes =
            record {
              configuration = sound.sizes.configuration;
              cycles = cycles late;
              wire = sound.sizes.wire;
              home = left_home s sound;
              wire_rest = sound.sizes.wire_rest;
              home_rest = left_home_rest s sound;
              shape =
                  shape_is (sent_out s) (left_inputs_length s ∙ l.inputs) (left_outputs_length s ∙ l.outputs)
                  (left_store_length s l.store) l.wire
                  (left_home_length s ∙ l.home);
            };
        flow =
            record {
              credits = left_credits s sound empty;
              queues = left_legal s sound;
              output_credits = output_credits-law;
              channels = channels;
              slots = slots;
            };
        naming =
            record {
              names = left_names s sound;
              packets = left_packets s sound;
            };
        arbitration =
            record {
              arbiters =
                  arbiters_kept c (switched s) s.arbiters sound.arbitration.arbiters (λ o h e. e)
                  (λ i h e. arbiters_moved_sound 8 c c.vcs (input_pick s) i (omega arith) s.arbiters.inputs h e)
                  (λ o h e. arbiters_moved_sound 8 c c.ports (output_pick s) o (omega arith) s.arbiters.outputs h e);
              others =
                  unused_arbiters_kept c (switched s) s.arbiters (λ o h. refl)
                  (λ i h. arbiters_beyond 8 c c.vcs (input_pick s) i s.arbiters.inputs h)
                  (λ o h. arbiters_beyond 8 c c.ports (output_pick s) o s.arbiters.outputs h)
                  ∙ sound.arbitration.others;
            };
      }
