-- A channel after phases 1 to 4, in the free router's words: lines shifted, what came out of the wire queued, what came home no longer
-- taken.
-- Assumes nothing.
use mathlib.Core.Path.{◌≡◌, sym, ap, ◌∙◌}
use mathlib.Core.Bool.{Bool, cond, not}
use mathlib.Core.List.{List, [], ◌++◌}
use Prim.Native.Nat.{ℕ, ◌+◌, ◌-◌, ◌≤◌, ◌<◌}
use native.Mathlib.Omega.{arith}
use lib.ListN.{length}
use Rattle.base.specs.declared.config.Config.{Config}
use Rattle.base.specs.declared.flit.Flit.{Flit}
use Rattle.base.specs.Flit.{ends_kind}
use Rattle.model.specs.Line.{out, shift}
use Rattle.state.specs.declared.Router.{Router}
use Rattle.state.specs.Channels.{ChannelView, bound_to, channel_view}
use Rattle.state.specs.Sound.{Sound}
use Rattle.state.specs.Views.{channel_number, input_at, wire_place, wire_of, home_place, home_of, on_vc, to_vc, total}
use Rattle.trace.specs.Bytes.{AreBytes}
use Rattle.rules.specs.Rows.{kind_at}
use Rattle.rules.specs.Intake.{credits_reached, credits_returned, landed, offers_taken}
use Rattle.rules.specs.Numbers.{rules_of}
use Rattle.rules.specs.Step.{taken_in}
use Rattle.rules.proofs.FirstRule.{NoneHolds}
use Rattle.rules.proofs.Lines.{places_oldest, total_first}
use Rattle.rules.proofs.Facts.{credits_sum, sound_legal}
use Rattle.rules.proofs.Landed.{lands}
use Rattle.rules.proofs.Offers.{brings_on, offered}
use Rattle.rules.proofs.IntakeViews.{home_after, wire_after, queue_after, credit_after, inside_after, binding_after}

-- what comes out of a channel's lines
module _ (c : Config) (i v : ℕ) where
  pub wire_out : (wire : List ℕ) → 1 ≤ c.forward → out [] (wire_of c wire i v) ≡ lands wire i v
  unfolding wire_of
  wire_out wire pos = places_oldest c.forward (λ (k : ℕ). on_vc v (wire_place wire k i)) [] pos

  pub home_out : (home : List ℕ) → 1 ≤ c.back → out 0 (home_of c home i v) ≡ to_vc v (home_place home 0 i)
  unfolding home_of
  home_out home pos = places_oldest c.back (λ (k : ℕ). to_vc v (home_place home k i)) 0 pos

  -- it was on its way
  pub home_out_counts : (home : List ℕ) → 1 ≤ c.back → out 0 (home_of c home i v) ≤ total (home_of c home i v)
  unfolding home_of
  home_out_counts home pos =
      let a = places_oldest c.back (λ (k : ℕ). to_vc v (home_place home k i)) 0 pos in
      let b = total_first c.back (λ (k : ℕ). to_vc v (home_place home k i)) pos in
      omega arith

-- the view of a channel on which such flits are offered, of which the sender has a packet open after them or not
abbrev pub taken_in_view : ChannelView → List Flit → Bool → ChannelView
taken_in_view ch offered opened =
    record {
      taken = ch.taken - out 0 ch.home + length offered;
      wire = shift ch.wire offered;
      queue = ch.queue ++ out [] ch.wire;
      home = shift ch.home 0;
      opened = opened;
      bound = ch.bound;
    }

module _ (s : Router) (part : List ℕ) (sound : Sound s) (none : NoneHolds (rules_of s part)) (bytes : AreBytes part) where
  abbrev c : Config
  c = s.config

  -- one slot less is taken where a credit came home, one more where a flit is taken
  pub taken_after : (i v : ℕ) → i < c.ports → v < c.vcs
      → c.depth - (input_at c (taken_in part s).inputs i v).credit
      ≡ c.depth - (input_at c s.inputs i v).credit - out 0 (home_of c s.home i v) + length (offered part i v)
  taken_after i v h g =
      let after = credit_after s part sound none bytes i v h g in
      let sum = credits_sum c s.inputs s.wire s.home sound.flow.credits i v h g in
      let out = home_out c i v s.home (sound_legal s sound).back.0 in
      let few = home_out_counts c i v s.home (sound_legal s sound).back.0 in
      omega arith

  pub view_after : (i v : ℕ) → i < c.ports → v < c.vcs
      → channel_view (taken_in part s) i v
      ≡ taken_in_view (channel_view s i v) (offered part i v)
      (cond (brings_on part i v) (not (ends_kind (kind_at part i))) (input_at c s.inputs i v).opened)
  unfolding taken_in offers_taken landed credits_returned credits_reached
  view_after i v h g =
      let taken = taken_after i v h g in
      let wire = wire_after s part sound none bytes i v h in
      let queue = queue_after s part sound none bytes i v h g ∙ ap (λ (l : List Flit). (channel_view s i v).queue ++ l)
      (sym (wire_out c i v s.wire (sound_legal s sound).forward.0)) in
      let home = home_after s part sound none bytes i v h in
      let opened = inside_after s part sound none bytes i v h g in
      let bound = ap bound_to (binding_after s part sound none bytes (channel_number c i v)) in
      λ t. record { taken = taken t; wire = wire t; queue = queue t; home = home t; opened = opened t; bound = bound t }
