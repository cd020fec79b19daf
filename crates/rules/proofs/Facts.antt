-- What soundness says, as facts about numbers: lengths, the credit sum of a channel, and the places of the lines.
-- Assumes nothing.
use mathlib.Core.Path.{◌≡◌}
use mathlib.Core.Bool.{true}
use mathlib.Core.List.{List}
use Prim.Native.Nat.{ℕ, ◌+◌, ◌*◌, ◌≤◌, ◌<◌}
use native.Mathlib.Omega.{arith}
use lib.Dec.{eqb}
use lib.ListN.{length}
use borrow.Author.Tests.{eqb-true, eq-eqb, leb-true}
use Rattle.base.specs.declared.config.Config.{Config}
use Rattle.base.proofs.Configurations.{Legal}
use Rattle.base.proofs.Search.{both, every_at}
use Rattle.state.specs.declared.InputVc.{InputVc}
use Rattle.state.specs.declared.Router.{Router}
use Rattle.state.specs.Sound.{Sound, shaped, credits_add_up, credits_whole, home_legal, wire_legal, wire_place_legal}
use Rattle.state.specs.Views.{input_at, home_place, wire_place, wire_of, home_of, flat, total}
use Rattle.state.proofs.Legal.{configuration_legal-law}
use Rattle.rules.proofs.Channels.{channel_at, all_channels, channels_room}

-- the arrays are as long as the struct has them
pub record Lengths (s : Router) : Type 0 where
  pub inputs : length s.inputs ≡ 32
  pub outputs : length s.outputs ≡ 32
  pub store : length s.store ≡ 512
  pub wire : length s.wire ≡ 64
  pub home : length s.home ≡ 64

pub shape_lengths : (s : Router) → shaped s ≡ true → Lengths s
unfolding shaped
shape_lengths s e =
    let p = both _ (eqb (length s.home) 64) e in
    let q = both _ (eqb (length s.wire) 64) p.0 in
    let r = both _ (eqb (length s.store) 512) q.0 in
    let t = both (eqb (length s.inputs) 32) (eqb (length s.outputs) 32) r.0 in
    record {
      inputs = eqb-true (length s.inputs) 32 t.0;
      outputs = eqb-true (length s.outputs) 32 t.1;
      store = eqb-true (length s.store) 512 r.1;
      wire = eqb-true (length s.wire) 64 q.1;
      home = eqb-true (length s.home) 64 p.1;
    }

-- "sender credit + wire + queue + credits going home = D"
module _ (c : Config) (inputs : List InputVc) (wire home : List ℕ) where
  abbrev pub CreditSum : ℕ → ℕ → Type 0
  CreditSum i v =
      (input_at c inputs i v).credit + length (flat (wire_of c wire i v)) + (input_at c inputs i v).queued + total (home_of c home i v) ≡ c.depth

  pub credits_sum : credits_add_up c inputs wire home ≡ true → (i v : ℕ) → i < c.ports → v < c.vcs → CreditSum i v
  unfolding credits_add_up credits_whole
  credits_sum e i v h g = eqb-true _ c.depth (channel_at c (λ i v. credits_whole c wire home i v (input_at c inputs i v)) e i v h g)

  pub sum_credits : ((i v : ℕ) → i < c.ports → v < c.vcs → CreditSum i v) → credits_add_up c inputs wire home ≡ true
  unfolding credits_add_up credits_whole
  sum_credits f = all_channels c (λ i v. credits_whole c wire home i v (input_at c inputs i v)) (λ i v h g. eq-eqb _ c.depth (f i v h g))

module _ (s : Router) (sound : Sound s) where
  pub sound_legal : Legal s.config
  sound_legal = configuration_legal-law s.config sound.sizes.configuration

  pub sound_lengths : Lengths s
  sound_lengths = shape_lengths s sound.sizes.shape

  -- the arrays have room for all channels
  pub inputs_room : s.config.ports * s.config.vcs ≤ length s.inputs
  inputs_room = let l = sound_lengths in let r = channels_room s.config sound_legal in omega arith

  pub outputs_room : s.config.ports * s.config.vcs ≤ length s.outputs
  outputs_room = let l = sound_lengths in let r = channels_room s.config sound_legal in omega arith

  -- "home places are empty or legal"
  pub home_at : (k i : ℕ) → k < s.config.back → i < s.config.ports → home_place s.home k i ≤ s.config.vcs
  unfolding home_legal
  home_at k i h g =
      leb-true (home_place s.home k i) s.config.vcs
      (every_at s.config.ports _ (every_at s.config.back _ sound.sizes.home k h) i g)

  -- "wire .. places are empty or legal"
  pub wire_at : (k i : ℕ) → k < s.config.forward → i < s.config.ports → wire_place_legal s.config (wire_place s.wire k i) ≡ true
  unfolding wire_legal
  wire_at k i h g = every_at s.config.ports _ (every_at s.config.forward _ sound.sizes.wire k h) i g
