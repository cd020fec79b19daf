-- Channels by number: VC v of port i is number i·V+v, below P·V, and no other channel has that number.
-- Assumes nothing.
use mathlib.Core.Path.{◌≡◌, refl, sym, ap, ◌∙◌}
use mathlib.Core.Bool.{Bool, true, false}
use Prim.Native.Nat.{ℕ, ◌*◌, ◌/◌, ◌%◌, ◌≤◌, ◌<◌}
use native.Mathlib.Nat.{mod-lt, div-add-mod', div-lt_iff_lt-mul}
use native.Mathlib.Omega.{arith}
use lib.Arith.{digits_lt, digits_div, digits_mod}
use lib.Dec.{eqb}
use borrow.Author.Tests.{eqb-true, eqb-false, eq-eqb, ne_eqb}
use Rattle.base.specs.declared.config.Config.{Config}
use Rattle.base.specs.Search.{every}
use Rattle.base.proofs.Configurations.{Legal}
use Rattle.base.proofs.Search.{every_at, all_every, every_ext}
use Rattle.state.specs.Sound.{every_channel}
use Rattle.state.specs.Views.{channel_number}
use Rattle.state.proofs.Made.{channels_fit}
use Rattle.state.proofs.Naming.{channel_fits}

module _ (c : Config) where
  -- a channel that there is has a number below P·V
  pub channel_below : (i v : ℕ) → i < c.ports → v < c.vcs → channel_number c i v < c.ports * c.vcs
  channel_below i v h g = digits_lt h g

  -- two channels with one number are one channel
  pub channel_apart : (i v j u : ℕ) → v < c.vcs → u < c.vcs → channel_number c i v ≡ channel_number c j u → (i ≡ j) × (v ≡ u)
  channel_apart i v j u h g e = (
    sym (digits_div i h) ∙ ap (λ (x : ℕ). x / c.vcs) e ∙ digits_div j g,
    sym (digits_mod i h) ∙ ap (λ (x : ℕ). x % c.vcs) e ∙ digits_mod j g,
  )

  -- of one port, the numbers tell the VCs apart
  pub channel_same : (i v u : ℕ) → eqb (channel_number c i u) (channel_number c i v) ≡ eqb u v
  channel_same i v u = go (eqb u v) refl
    where
      go : (b : Bool) → eqb u v ≡ b → eqb (channel_number c i u) (channel_number c i v) ≡ b
      go true e = eq-eqb (channel_number c i u) (channel_number c i v) (ap (channel_number c i) (eqb-true u v e))
      go false e = ne_eqb (channel_number c i u) (channel_number c i v) (λ q. eqb-false u v e (omega arith))

  -- each number below P·V is a channel's
  pub record Split (x : ℕ) : Type 0 where
    pub port : ℕ
    pub vc : ℕ
    pub port_there : port < c.ports
    pub vc_there : vc < c.vcs
    pub is : channel_number c port vc ≡ x

  pub channel_of : (x : ℕ) → 1 ≤ c.vcs → x < c.ports * c.vcs → Split x
  channel_of x pos h =
      record {
        port = x / c.vcs;
        vc = x % c.vcs;
        port_there = (div-lt_iff_lt-mul pos).1 h;
        vc_there = mod-lt x pos;
        is = div-add-mod' x c.vcs;
      }

  -- what is tested of every channel holds of each, and back
  pub channel_at : (test : ℕ → ℕ → Bool) → every_channel c test ≡ true → (i v : ℕ) → i < c.ports → v < c.vcs → test i v ≡ true
  channel_at test e i v h g = every_at c.vcs (test i) (every_at c.ports (λ (i : ℕ). every c.vcs (test i)) e i h) v g

  pub all_channels : (test : ℕ → ℕ → Bool) → ((i v : ℕ) → i < c.ports → v < c.vcs → test i v ≡ true) → every_channel c test ≡ true
  all_channels test f =
      all_every c.ports (λ (i : ℕ). every c.vcs (test i)) (λ i h. all_every c.vcs (test i) (λ v g. f i v h g))

  -- two tests that agree on each channel are passed together
  pub channels_ext : (f g : ℕ → ℕ → Bool) → ((i v : ℕ) → i < c.ports → v < c.vcs → f i v ≡ g i v) → every_channel c f ≡ every_channel c g
  channels_ext f g same =
      every_ext c.ports (λ (i : ℕ). every c.vcs (f i)) (λ (i : ℕ). every c.vcs (g i)) (λ i h.
      every_ext c.vcs (f i) (g i) (λ v l. same i v h l))

  module _ (legal : Legal c) where
    -- the arrays have room for all of them
    pub channels_room : c.ports * c.vcs ≤ 32
    channels_room = channels_fit c.ports c.vcs legal.ports.1 legal.vcs.1

    pub channel_room : (i v : ℕ) → i < c.ports → v < c.vcs → channel_number c i v < 32
    channel_room i v h g = channel_fits c.ports c.vcs i v h g legal.ports.1 legal.vcs.1
