-- Phase 5 and the names: an input VC and the output VC that it is bound to name each other, just now or as before.
-- Assumes nothing.
use Rattle.std.specs.Prelude.{Some, None}
use mathlib.Core.Path.{◌≡◌, refl, sym, ap, ap₂, ◌∙◌}
use mathlib.Core.Logic.{◌⊎◌, inl, inr}
use mathlib.Core.Bool.{true}
use Prim.Native.Nat.{ℕ, ◌/◌, ◌%◌, ◌<◌}
use native.Mathlib.Nat.{lt_of_lt_of_le, mod-lt, div-add-mod', div-lt_iff_lt-mul}
use lib.Arith.{digits_div, digits_mod}
use lib.ListN.{get_or}
use Rattle.base.specs.declared.config.Config.{Config}
use Rattle.state.specs.declared.InVc.{InVc}
use Rattle.state.specs.declared.OutVc.{OutVc}
use Rattle.state.specs.declared.Binding.TheVariants.{Unbound, Bound}
use Rattle.state.specs.declared.InputVc.{InputVc}
use Rattle.state.specs.declared.OutputVc.{OutputVc}
use Rattle.state.specs.declared.Router.{Router}
use Rattle.state.specs.Fresh.{fresh_input, fresh_output}
use Rattle.state.specs.Sound.{Sound, names_agree}
use Rattle.state.specs.Views.{channel_number, input_at, output_at}
use Rattle.rules.specs.Allocation.{grant_of, bind_to, held_by, allocated}
use Rattle.rules.proofs.Acts.{Actor, Untouched}
use Rattle.rules.proofs.Bound.{asking, giving, granted_bound, ungranted_stays, given_held, ungiven_stays, granted_or_not}
use Rattle.rules.proofs.Bound.{given_or_not}
use Rattle.rules.proofs.Channels.{channel_below, channel_apart}
use Rattle.rules.proofs.Facts.{sound_legal, inputs_room, outputs_room}
use Rattle.rules.proofs.Grants.{Granted, grant_is}
use Rattle.rules.proofs.Naming.{unbound_not, nobody_not, BoundTo, HeldBy, Agree, names_agree-law, agree_names}

module _ (s : Router) (sound : Sound s) where
  abbrev c : Config
  c = s.config

  abbrev Granting : ℕ → Type 0
  Granting x = Actor (grant_of s) (asking s) c.ports x

  abbrev Giving : ℕ → Type 0
  Giving x = Actor (grant_of s) (giving s) c.ports x

  -- the input VC that is granted, and the output VC that is given out, by number
  pub bound_at : (x : ℕ) (a : Granting x)
      → get_or (allocated s).inputs x (fresh_input 0) ≡ bind_to a.port a.deed.vc (get_or s.inputs x (fresh_input 0))
  bound_at x a =
      ap (λ (y : ℕ). get_or (allocated s).inputs y (fresh_input 0)) (sym a.there)
      ∙ granted_bound s a.port a.deed a.below a.acts
      (lt_of_lt_of_le (grant_is s a.port a.deed a.acts).requester_below (inputs_room s sound))
      ∙ ap (λ (y : ℕ). bind_to a.port a.deed.vc (get_or s.inputs y (fresh_input 0))) a.there

  pub held_at : (x : ℕ) (a : Giving x)
      → get_or (allocated s).outputs x (fresh_output 0)
      ≡ held_by (a.deed.requester / c.vcs) (a.deed.requester % c.vcs) (get_or s.outputs x (fresh_output 0))
  held_at x a =
      ap (λ (y : ℕ). get_or (allocated s).outputs y (fresh_output 0)) (sym a.there)
      ∙ given_held s a.port a.deed a.below a.acts
      (lt_of_lt_of_le (channel_below c a.port a.deed.vc a.below (grant_is s a.port a.deed a.acts).vc_below)
      (outputs_room s sound))
      ∙ ap (λ (y : ℕ). held_by (a.deed.requester / c.vcs) (a.deed.requester % c.vcs) (get_or s.outputs y (fresh_output 0))) a.there

  agree : Agree c s.inputs s.outputs
  agree = names_agree-law c s.inputs s.outputs sound.naming.names

  -- a bound input VC: bound just now, or as before
  still_bound : (i v : ℕ) → i < c.ports → v < c.vcs → (b : OutVc) → (input_at c (allocated s).inputs i v).binding ≡ Bound b
      → BoundTo c (allocated s).inputs (allocated s).outputs i v b
  still_bound i v h g b q = go (granted_or_not s (channel_number c i v))
    where
      later : BoundTo c s.inputs s.outputs i v b → Giving (channel_number c b.output b.vc) ⊎ Untouched (grant_of s) (giving s)
          c.ports
          (channel_number c b.output b.vc) → BoundTo c (allocated s).inputs (allocated s).outputs i v b
      later p (inl a) =
          let n = grant_is s a.port a.deed a.acts in
          let free : (output_at c s.outputs b.output b.vc).holder ≡ None =
          ap (λ (x : ℕ). (get_or s.outputs x (fresh_output 0)).holder) (sym a.there) ∙ n.free in
          absurd (nobody_not (output_at c s.outputs b.output b.vc).holder (record { input = i; vc = v }) free p.2)
      later p (inr off) = (p.0, p.1, ap (λ (y : OutputVc). y.holder) (ungiven_stays s (channel_number c b.output b.vc) off) ∙ p.2)

      go : Granting (channel_number c i v) ⊎ Untouched (grant_of s) (asking s) c.ports (channel_number c i v)
          → BoundTo c (allocated s).inputs (allocated s).outputs i v b
      go (inl a) =
          let n = grant_is s a.port a.deed a.acts in
          let e : Bound (record { output = a.port; vc = a.deed.vc }) ≡ Bound b =
          sym (ap (λ (x : InputVc). x.binding) (bound_at (channel_number c i v) a)) ∙ q in
          let to : record { output = a.port; vc = a.deed.vc } ≡ b = cc in
          made to (a.below, n.vc_below, held a n)
        where
          held : (a : Granting (channel_number c i v)) → Granted s a.port a.deed
              → (output_at c (allocated s).outputs a.port a.deed.vc).holder ≡ Some (record { input = i; vc = v })
          held a n =
              ap (λ (y : OutputVc). y.holder) (held_at (channel_number c a.port a.deed.vc)
              (record { port = a.port; deed = a.deed; below = a.below; acts = a.acts; there = refl }))
              ∙ ap₂ (λ (x y : ℕ). Some (record { input = x; vc = y })) (ap (λ (x : ℕ). x / c.vcs) a.there ∙ digits_div i g)
              (ap (λ (x : ℕ). x % c.vcs) a.there ∙ digits_mod i g)

          made : {x y : OutVc} → x ≡ y → BoundTo c (allocated s).inputs (allocated s).outputs i v x
              → BoundTo c (allocated s).inputs (allocated s).outputs i v y
          made same p = rw same at p
      go (inr off) =
          later (agree.bound i v h g b (ap (λ (x : InputVc). x.binding) (sym (ungranted_stays s (channel_number c i v) off)) ∙ q))
          (given_or_not s (channel_number c b.output b.vc))

  -- an output VC that is held: given out just now, or as before
  still_held : (o w : ℕ) → o < c.ports → w < c.vcs → (b : InVc) → (output_at c (allocated s).outputs o w).holder ≡ Some b
      → HeldBy c (allocated s).inputs (allocated s).outputs o w b
  still_held o w h g b q = go (given_or_not s (channel_number c o w))
    where
      later : HeldBy c s.inputs s.outputs o w b → Granting (channel_number c b.input b.vc) ⊎ Untouched (grant_of s) (asking s)
          c.ports
          (channel_number c b.input b.vc) → HeldBy c (allocated s).inputs (allocated s).outputs o w b
      later p (inl a) =
          let n = grant_is s a.port a.deed a.acts in
          let free : (input_at c s.inputs b.input b.vc).binding ≡ Unbound =
          ap (λ (x : ℕ). (get_or s.inputs x (fresh_input 0)).binding) (sym a.there) ∙ n.unbound in
          absurd (unbound_not (input_at c s.inputs b.input b.vc).binding (record { output = o; vc = w }) free p.2)
      later p (inr off) = (p.0, p.1, ap (λ (x : InputVc). x.binding) (ungranted_stays s (channel_number c b.input b.vc) off) ∙ p.2)

      go : Giving (channel_number c o w) ⊎ Untouched (grant_of s) (giving s) c.ports (channel_number c o w)
          → HeldBy c (allocated s).inputs (allocated s).outputs o w b
      go (inl a) =
          let n = grant_is s a.port a.deed a.acts in
          let e : Some (record { input = a.deed.requester / c.vcs; vc = a.deed.requester % c.vcs }) ≡ Some b =
          sym (ap (λ (y : OutputVc). y.holder) (held_at (channel_number c o w) a)) ∙ q in
          let by : record { input = a.deed.requester / c.vcs; vc = a.deed.requester % c.vcs } ≡ b = cc in
          let some = (sound_legal s sound).vcs.0 in
          let x = a.deed.requester in
          made by ((div-lt_iff_lt-mul some).1 n.requester_below, mod-lt x some, bound a n (div-add-mod' x c.vcs))
        where
          bound : (a : Giving (channel_number c o w)) → Granted s a.port a.deed
              → channel_number c (a.deed.requester / c.vcs) (a.deed.requester % c.vcs) ≡ a.deed.requester
              → (input_at c (allocated s).inputs (a.deed.requester / c.vcs) (a.deed.requester % c.vcs)).binding
              ≡ Bound (record { output = o; vc = w })
          bound a n is =
              let x = channel_apart c a.port a.deed.vc o w n.vc_below g a.there in
              ap (λ (y : InputVc). y.binding) (bound_at (channel_number c (a.deed.requester / c.vcs) (a.deed.requester % c.vcs))
              (record { port = a.port; deed = a.deed; below = a.below; acts = a.acts; there = sym is }))
              ∙ ap₂ (λ (x y : ℕ). Bound (record { output = x; vc = y })) x.0 x.1

          made : {x y : InVc} → x ≡ y → HeldBy c (allocated s).inputs (allocated s).outputs o w x
              → HeldBy c (allocated s).inputs (allocated s).outputs o w y
          made same p = rw same at p
      go (inr off) =
          later (agree.held o w h g b (ap (λ (y : OutputVc). y.holder) (sym (ungiven_stays s (channel_number c o w) off)) ∙ q))
          (granted_or_not s (channel_number c b.input b.vc))

  pub allocated_names : names_agree c (allocated s).inputs (allocated s).outputs ≡ true
  allocated_names = agree_names c (allocated s).inputs (allocated s).outputs (record { bound = still_bound; held = still_held })
