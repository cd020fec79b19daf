-- Phase 3 keeps a router sound: what leaves the wire's front joins the queue's end.
-- Assumes nothing.
use mathlib.Core.Path.{◌≡◌, refl, sym, ap, ap₂, ◌∙◌}
use mathlib.Core.Bool.{true}
use mathlib.Core.List.{List, ◌++◌}
use Prim.Native.Nat.{ℕ}
use native.Mathlib.Omega.{arith}
use lib.ListN.{length, length-append}
use Rattle.base.specs.declared.config.Config.{Config}
use Rattle.base.specs.declared.flit.Flit.{Flit}
use Rattle.state.specs.declared.Binding.{Binding}
use Rattle.state.specs.declared.InputVc.{InputVc}
use Rattle.state.specs.declared.Router.{Router}
use Rattle.state.specs.Sound.{Sound, all, legal_flit, wire_place_legal, wire_legal, credits_add_up, queues_legal, packets_read, reads}
use Rattle.state.specs.Views.{channel_number, input_at, queue_of, wire_place, wire_of, flat}
use Rattle.state.proofs.Exact.{shape_is}
use Rattle.state.proofs.Places.{wire_empty}
use Rattle.rules.specs.Intake.{landed}
use Rattle.rules.proofs.Channels.{channel_at, all_channels}
use Rattle.rules.proofs.Advance.{advanced_length, advanced_rest, advanced_legal}
use Rattle.rules.proofs.Facts.{credits_sum, sum_credits, sound_legal, sound_lengths, wire_at}
use Rattle.rules.proofs.Kept.{binding_of, inside_of, names_kept, unused_kept}
use Rattle.rules.proofs.Packets.{all_append, reads_lands}
use Rattle.rules.proofs.Landed.{lands, flits_land, place_flits, slots_land, queue_lands, queued_lands, landed_keeps, landed_past}
use Rattle.rules.proofs.Landed.{landed_whole}

module _ (s : Router) (sound : Sound s) where
  abbrev c : Config
  c = s.config

  -- one more is queued, one less is on the wire
  credits : credits_add_up c (landed s).inputs (landed s).wire s.home ≡ true
  credits =
      sum_credits c (landed s).inputs (landed s).wire s.home (λ i v h g.
      let before = credits_sum c s.inputs s.wire s.home sound.flow.credits i v h g in
      let credit = landed_keeps s sound (λ (x : InputVc). x.credit) (λ x. refl) (channel_number c i v) in
      let queued = queued_lands s sound i v h g in
      let less = ap length (flits_land s sound i v h) ∙ length-append (lands s.wire i v) (flat (wire_of c (landed s).wire i v)) in
      omega arith)

  wire : wire_legal c (landed s).wire ≡ true
  unfolding landed wire_legal
  wire =
      advanced_legal c.forward c.ports s.wire sound.sizes.wire_rest (sound_lengths s sound).wire (wire_place_legal c)
      (sym (wire_empty c 0 refl)) (sound_legal s sound).ports.1 sound.sizes.wire

  -- VC v of input i as it was and is, with its queue
  abbrev input : ℕ → ℕ → InputVc
  input i v = input_at c s.inputs i v

  abbrev queue : ℕ → ℕ → List Flit
  queue i v = queue_of c s.store i v (input i v).queued

  abbrev later : ℕ → ℕ → InputVc
  later i v = input_at c (landed s).inputs i v

  abbrev longer : ℕ → ℕ → List Flit
  longer i v = queue_of c (landed s).store i v (later i v).queued

  queues : queues_legal c (landed s).inputs (landed s).store ≡ true
  unfolding queues_legal
  queues =
      all_channels c (λ i v. all (legal_flit c) (longer i v)) (λ i v h g.
      ap (all (legal_flit c)) (queue_lands s sound i v h g)
      ∙ all_append (legal_flit c) (queue i v) (lands s.wire i v)
      (channel_at c (λ i v. all (legal_flit c) (queue i v)) sound.flow.queues i v h g)
      (place_flits c v (wire_place s.wire 0 i) (wire_at s sound 0 i (sound_legal s sound).forward.0 h)))

  packets : packets_read c (landed s).inputs (landed s).store (landed s).wire ≡ true
  unfolding packets_read
  packets =
      all_channels c (λ i v. reads (longer i v) (flat (wire_of c (landed s).wire i v)) (later i v).binding (later i v).opened) (λ i v h g.
      let left = flat (wire_of c (landed s).wire i v) in
      let bound = landed_keeps s sound binding_of (λ x. refl) (channel_number c i v) in
      let inside = landed_keeps s sound inside_of (λ x. refl) (channel_number c i v) in
      ap₂ (λ (q : List Flit) (b : Binding). reads q left b (later i v).opened) (queue_lands s sound i v h g) bound
      ∙ ap (reads (queue i v ++ lands s.wire i v) left (input i v).binding) inside
      ∙ reads_lands (queue i v) (lands s.wire i v) left (input i v).binding (input i v).opened
      (ap (λ (fs : List Flit). reads (queue i v) fs (input i v).binding (input i v).opened) (sym (flits_land s sound i v h))
      ∙ channel_at c (λ i v. reads (queue i v) (flat (wire_of c s.wire i v)) (input i v).binding (input i v).opened)
      sound.naming.packets i v h g))

  pub landed_sound : Sound (landed s)
  unfolding landed
  landed_sound =
      let l = sound_lengths s sound in
      let bound = landed_keeps s sound binding_of (λ x. refl) in
      let w = landed_whole s sound in
      record {
        sizes =
            record {
              configuration = sound.sizes.configuration;
              cycles = sound.sizes.cycles;
              wire = wire;
              home = sound.sizes.home;
              wire_rest = advanced_rest c.forward c.ports s.wire sound.sizes.wire_rest l.wire;
              home_rest = sound.sizes.home_rest;
              shape = shape_is (landed s) w.0 l.outputs w.1 (advanced_length s.wire l.wire) l.home;
            };
        flow =
            record {
              credits = credits;
              queues = queues;
              output_credits = sound.flow.output_credits;
              channels =
                  unused_kept c (landed s).inputs s.inputs s.outputs s.outputs (landed_past s sound) (λ x h. refl)
                  ∙ sound.flow.channels;
              slots = slots_land s sound;
            };
        naming =
            record {
              names = names_kept c (landed s).inputs s.inputs s.outputs s.outputs bound (λ x. refl) ∙ sound.naming.names;
              packets = packets;
            };
        arbitration =
            record {
              arbiters = sound.arbitration.arbiters;
              others = sound.arbitration.others;
            };
      }
