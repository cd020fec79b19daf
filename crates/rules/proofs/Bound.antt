-- Phase 5, channel by channel: an input VC that an output grants is bound to it, an output VC that is given out is held, all others stay.
-- Assumes nothing.
use mathlib.Core.Path.{◌≡◌, refl, ap, ◌∙◌}
use mathlib.Core.Logic.{◌⊎◌}
use mathlib.Core.List.{List}
use Rattle.std.specs.Prelude.{Option, Some, None}
use Prim.Native.Nat.{ℕ, ◌*◌, ◌/◌, ◌%◌, ◌≤◌, ◌<◌}
use native.Mathlib.Omega.{arith}
use lib.ListN.{length, get_or}
use Rattle.state.specs.declared.InputVc.{InputVc}
use Rattle.state.specs.declared.OutputVc.{OutputVc}
use Rattle.state.specs.declared.Router.{Router}
use Rattle.state.specs.Fresh.{fresh_input, fresh_output}
use Rattle.state.specs.Views.{channel_number, output_at}
use Rattle.rules.specs.Ports.{over_ports}
use Rattle.rules.specs.Allocation.{Grant, grant_of, bind_to, held_by, Vcs, bound_by, bindings, allocated}
use Rattle.rules.proofs.Turns.{over_seen}
use Rattle.rules.proofs.Acts.{Actor, Untouched, touched_or_not, acted, deeds, deeds_length, untouched_stays, touched_changes}
use Rattle.rules.proofs.Channels.{channel_below, channel_apart}
use Rattle.rules.proofs.Grants.{grant_is, grants_differ}

module _ (s : Router) where
  -- the channel that a grant of output o is on, as an input VC and as an output VC
  abbrev pub asking : ℕ → Grant → ℕ
  asking o g = g.requester

  abbrev pub giving : ℕ → Grant → ℕ
  giving o g = channel_number s.config o g.vc

  abbrev bind : ℕ → Grant → InputVc → InputVc
  bind o g x = bind_to o g.vc x

  abbrev hold : ℕ → Grant → OutputVc → OutputVc
  hold o g y = held_by (g.requester / s.config.vcs) (g.requester % s.config.vcs) y

  -- the two lists that phase 5 changes, each a fold of its own
  abbrev start : Vcs
  start = record { inputs = s.inputs; outputs = s.outputs }

  inputs_fold : (allocated s).inputs ≡ over_ports s.config.ports (deeds (fresh_input 0) (grant_of s) asking bind) s.inputs
  unfolding allocated bindings
  inputs_fold =
      over_seen (λ (m : Vcs). m.inputs) s.config.ports (λ m o. bound_by s.config o (grant_of s o) m)
      (deeds (fresh_input 0) (grant_of s) asking bind) start (λ m o l. go m o (grant_of s o))
    where
      go : (m : Vcs) (o : ℕ) (q : Option Grant) → (bound_by s.config o q m).inputs
          ≡ acted (fresh_input 0) (asking o) (bind o) q m.inputs
      go m o None = refl
      go m o (Some g) = refl

  outputs_fold : (allocated s).outputs ≡ over_ports s.config.ports (deeds (fresh_output 0) (grant_of s) giving hold) s.outputs
  unfolding allocated bindings
  outputs_fold =
      over_seen (λ (m : Vcs). m.outputs) s.config.ports (λ m o. bound_by s.config o (grant_of s o) m)
      (deeds (fresh_output 0) (grant_of s) giving hold) start (λ m o l. go m o (grant_of s o))
    where
      go : (m : Vcs) (o : ℕ) (q : Option Grant) → (bound_by s.config o q m).outputs
          ≡ acted (fresh_output 0) (giving o) (hold o) q m.outputs
      go m o None = refl
      go m o (Some g) = refl

  -- the lists keep their lengths
  pub allocated_inputs_length : length (allocated s).inputs ≡ length s.inputs
  allocated_inputs_length = ap length inputs_fold ∙ deeds_length (fresh_input 0) (grant_of s) asking bind s.config.ports s.inputs

  pub allocated_outputs_length : length (allocated s).outputs ≡ length s.outputs
  allocated_outputs_length = ap length outputs_fold ∙ deeds_length (fresh_output 0) (grant_of s) giving hold s.config.ports s.outputs

  -- the requester that output o grants is bound to o and the VC given out
  pub granted_bound : (o : ℕ) (g : Grant) → o < s.config.ports → grant_of s o ≡ Some g → g.requester < length s.inputs
      → get_or (allocated s).inputs g.requester (fresh_input 0) ≡ bind_to o g.vc (get_or s.inputs g.requester (fresh_input 0))
  granted_bound o g l e m =
      ap (λ (xs : List InputVc). get_or xs g.requester (fresh_input 0)) inputs_fold
      ∙ touched_changes (fresh_input 0) (grant_of s) asking bind s.config.ports s.inputs o g l e m
      (λ p h k f same. grants_differ s p o h g f e same)

  -- an input VC that no output grants stays as it is
  pub ungranted_stays : (x : ℕ) → Untouched (grant_of s) asking s.config.ports x
      → get_or (allocated s).inputs x (fresh_input 0) ≡ get_or s.inputs x (fresh_input 0)
  ungranted_stays x off =
      ap (λ (xs : List InputVc). get_or xs x (fresh_input 0)) inputs_fold
      ∙ untouched_stays (fresh_input 0) (grant_of s) asking bind s.config.ports s.inputs x off

  -- the output VC that is given out is held by the requester that gets it
  pub given_held : (o : ℕ) (g : Grant) → o < s.config.ports → grant_of s o ≡ Some g
      → channel_number s.config o g.vc < length s.outputs
      → output_at s.config (allocated s).outputs o g.vc
      ≡ held_by (g.requester / s.config.vcs) (g.requester % s.config.vcs) (output_at s.config s.outputs o g.vc)
  given_held o g l e m =
      ap (λ (ys : List OutputVc). get_or ys (channel_number s.config o g.vc) (fresh_output 0)) outputs_fold
      ∙ touched_changes (fresh_output 0) (grant_of s) giving hold s.config.ports s.outputs o g l e m
      (λ p h k f same. (channel_apart s.config p h.vc o g.vc (grant_is s p h f).vc_below (grant_is s o g e).vc_below same).0)

  -- an output VC that is not given out stays as it is
  pub ungiven_stays : (x : ℕ) → Untouched (grant_of s) giving s.config.ports x
      → get_or (allocated s).outputs x (fresh_output 0) ≡ get_or s.outputs x (fresh_output 0)
  ungiven_stays x off =
      ap (λ (ys : List OutputVc). get_or ys x (fresh_output 0)) outputs_fold
      ∙ untouched_stays (fresh_output 0) (grant_of s) giving hold s.config.ports s.outputs x off

  -- no grant is on a channel beyond P and V
  pub beyond_ungranted : (x : ℕ) → s.config.ports * s.config.vcs ≤ x → Untouched (grant_of s) asking s.config.ports x
  beyond_ungranted x h o g l e same = let b = (grant_is s o g e).requester_below in omega arith

  pub beyond_ungiven : (x : ℕ) → s.config.ports * s.config.vcs ≤ x → Untouched (grant_of s) giving s.config.ports x
  beyond_ungiven x h o g l e same = let b = channel_below s.config o g.vc l (grant_is s o g e).vc_below in omega arith

  -- each input VC is granted by one output, or by none; each output VC is given out, or not
  pub granted_or_not : (x : ℕ) → Actor (grant_of s) asking s.config.ports x ⊎ Untouched (grant_of s) asking s.config.ports x
  granted_or_not x = touched_or_not (grant_of s) asking s.config.ports x

  pub given_or_not : (x : ℕ) → Actor (grant_of s) giving s.config.ports x ⊎ Untouched (grant_of s) giving s.config.ports x
  given_or_not x = touched_or_not (grant_of s) giving s.config.ports x
