-- Phase 1: "Credits that left an input B cycles ago reach its sender; each raises that VC's sender credit by one" (01), channel by channel,
-- and a sound router stays sound.
-- Assumes nothing.
use mathlib.Core.Path.{◌≡◌, refl, ap, ◌∙◌}
use mathlib.Core.Bool.{true}
use mathlib.Core.List.{List, [], ◌∷◌, ◌++◌}
use Rattle.std.specs.Prelude.{Option, Some, None}
use Prim.Native.Nat.{ℕ, ◌+◌, ◌*◌, ◌≤◌, ◌<◌}
use native.Mathlib.Omega.{arith}
use lib.Dec.{leb}
use lib.ListN.{length, get_or, drop}
use borrow.Author.Tests.{le-leb}
use Rattle.base.specs.declared.config.Config.{Config}
use Rattle.state.specs.declared.InputVc.{InputVc}
use Rattle.state.specs.declared.Router.{Router}
use Rattle.state.specs.Fresh.{fresh_input}
use Rattle.state.specs.Sound.{Sound, home_legal, credits_add_up}
use Rattle.state.specs.Views.{channel_number, input_at, home_place, home_of, to_vc, total}
use Rattle.state.proofs.Exact.{shape_is}
use Rattle.state.proofs.Places.{total_end}
use Rattle.rules.specs.Ports.{named}
use Rattle.rules.specs.Intake.{advanced, sender_paid, credit_to, senders_paid, credits_reached}
use Rattle.rules.proofs.Folds.{changed, over_same}
use Rattle.rules.proofs.Named.{named_there, named_raises}
use Rattle.rules.proofs.Turns.{on_channel, Made, made_length, made_keeps, made_at, made_past}
use Rattle.rules.proofs.Lines.{total_first}
use Rattle.rules.proofs.Advance.{advanced_length, advanced_rest, advanced_legal, home_advanced}
use Rattle.rules.proofs.Facts.{credits_sum, sum_credits, sound_legal, sound_lengths, inputs_room, home_at}
use Rattle.rules.proofs.Kept.{binding_of, inside_of, queued_of, queues_kept, slots_kept, names_kept, packets_kept, unused_kept}

module _ (c : Config) (home : List ℕ) (inputs : List InputVc) where
  -- the VC whose credit reaches the sender of port i
  abbrev arriving : ℕ → Option ℕ
  arriving i = named (home_place home 0 i)

  paid : Made c (fresh_input 0) arriving (λ (i : ℕ). sender_paid) inputs (senders_paid c home inputs)
  unfolding senders_paid
  paid = record { is = over_same c.ports (λ inputs i. credit_to c i (arriving i) inputs) _ inputs (λ t i l. go t i (arriving i)) }
    where
      go : (t : List InputVc) (i : ℕ) (o : Option ℕ) → credit_to c i o t ≡ changed (fresh_input 0) sender_paid (on_channel c i o) t
      go t i None = refl
      go t i (Some v) = refl

  pub paid_length : length (senders_paid c home inputs) ≡ length inputs
  paid_length = made_length paid

  -- all but the credit stays
  pub paid_keeps : {B : Type 0} (see : InputVc → B) → ((x : InputVc) → see (sender_paid x) ≡ see x) → (x : ℕ)
      → see (get_or (senders_paid c home inputs) x (fresh_input 0)) ≡ see (get_or inputs x (fresh_input 0))
  paid_keeps see same = made_keeps paid see (λ i. same)

  module _ (near : (i : ℕ) → i < c.ports → home_place home 0 i ≤ c.vcs) where
    there : (i v : ℕ) → i < c.ports → arriving i ≡ Some v → v < c.vcs
    there i v h e = named_there (home_place home 0 i) c.vcs v (near i h) e

    -- the credit that comes out of the home line's oldest place raises the credit of the VC that it names
    pub credit_reaches : (i v : ℕ) → i < c.ports → v < c.vcs → c.ports * c.vcs ≤ length inputs
        → (input_at c (senders_paid c home inputs) i v).credit ≡ (input_at c inputs i v).credit + to_vc v (home_place home 0 i)
    credit_reaches i v h g room =
        ap (λ (x : InputVc). x.credit) (made_at paid there i v h g room)
        ∙ named_raises (λ (x : InputVc). x.credit) sender_paid (λ x. refl) v (home_place home 0 i) (input_at c inputs i v)

    -- what is no channel's stays
    pub paid_past : (x : ℕ) → c.ports * c.vcs ≤ x → get_or (senders_paid c home inputs) x (fresh_input 0) ≡ get_or inputs x (fresh_input 0)
    paid_past = made_past paid there

-- one credit goes from the home line to the sender
pub home_total : (c : Config) (home : List ℕ) (i v : ℕ) → 1 ≤ c.back → home_of c (advanced home) i v
    ≡ drop 1 (home_of c home i v) ++ (0 ∷ [])
    → to_vc v (home_place home 0 i) + total (home_of c (advanced home) i v) ≡ total (home_of c home i v)
unfolding home_of
home_total c home i v pos e =
    let a = ap total e ∙ total_end (drop 1 (home_of c home i v)) 0 in
    let b = total_first c.back (λ (k : ℕ). to_vc v (home_place home k i)) pos in
    omega arith

module _ (s : Router) (sound : Sound s) where
  abbrev c : Config
  c = s.config

  near : (i : ℕ) → i < c.ports → home_place s.home 0 i ≤ c.vcs
  near i h = home_at s sound 0 i (let l = sound_legal s sound in let b = l.back.0 in omega arith) h

  credits : credits_add_up c (senders_paid c s.home s.inputs) s.wire (advanced s.home) ≡ true
  credits =
      sum_credits c (senders_paid c s.home s.inputs) s.wire (advanced s.home) (λ i v h g.
      let l = sound_legal s sound in
      let pos = l.back.0 in
      let few = l.ports.1 in
      let moved = home_total c s.home i v pos (home_advanced c i v (omega arith) s.home pos sound.sizes.home_rest
      (sound_lengths s sound).home) in
      let before = credits_sum c s.inputs s.wire s.home sound.flow.credits i v h g in
      let raised = credit_reaches c s.home s.inputs near i v h g (inputs_room s sound) in
      let queued = paid_keeps c s.home s.inputs queued_of (λ x. refl) (channel_number c i v) in
      omega arith)

  home : home_legal c (advanced s.home) ≡ true
  unfolding home_legal
  home =
      advanced_legal c.back c.ports s.home sound.sizes.home_rest (sound_lengths s sound).home
      (λ (place : ℕ). leb place c.vcs)
      (le-leb 0 c.vcs (omega arith)) (sound_legal s sound).ports.1 sound.sizes.home

  pub credits_reached_sound : Sound (credits_reached s)
  unfolding credits_reached
  credits_reached_sound =
      let paid = senders_paid c s.home s.inputs in
      let l = sound_lengths s sound in
      let queued = paid_keeps c s.home s.inputs queued_of (λ x. refl) in
      let bound = paid_keeps c s.home s.inputs binding_of (λ x. refl) in
      let inside = paid_keeps c s.home s.inputs inside_of (λ x. refl) in
      record {
        sizes =
            record {
              configuration = sound.sizes.configuration;
              cycles = sound.sizes.cycles;
              wire = sound.sizes.wire;
              home = home;
              wire_rest = sound.sizes.wire_rest;
              home_rest = advanced_rest c.back c.ports s.home sound.sizes.home_rest l.home;
              shape = shape_is _ (paid_length c s.home s.inputs ∙ l.inputs) l.outputs l.store l.wire
                  (advanced_length s.home l.home);
            };
        flow =
            record {
              credits = credits;
              queues = queues_kept c paid s.inputs s.store queued ∙ sound.flow.queues;
              output_credits = sound.flow.output_credits;
              channels =
                  unused_kept c paid s.inputs s.outputs s.outputs (paid_past c s.home s.inputs near) (λ x h. refl)
                  ∙ sound.flow.channels;
              slots = slots_kept c paid s.inputs s.store queued ∙ sound.flow.slots;
            };
        naming =
            record {
              names = names_kept c paid s.inputs s.outputs s.outputs bound (λ x. refl) ∙ sound.naming.names;
              packets = packets_kept c paid s.inputs s.store s.wire queued bound inside ∙ sound.naming.packets;
            };
        arbitration =
            record {
              arbiters = sound.arbitration.arbiters;
              others = sound.arbitration.others;
            };
      }
