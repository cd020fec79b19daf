-- "input VC and output VC name each other or neither does" (01, Sound states), as facts of each channel.
-- Assumes nothing.
use Rattle.std.specs.Prelude.{Option, Some, None}
use mathlib.Core.Path.{◌≡◌, refl, sym, ap, ap₂, ◌∙◌}
use mathlib.Core.Bool.{true, ◌&&◌, false≢true}
use mathlib.Core.List.{List}
use Prim.Native.Nat.{ℕ, ◌<◌}
use native.Mathlib.Omega.{arith}
use lib.Dec.{eqb, ltb}
use borrow.Author.Tests.{eqb-true, eq-eqb, ltb-true, lt-ltb}
use Rattle.base.specs.declared.config.Config.{Config}
use Rattle.base.proofs.Search.{both}
use Rattle.state.specs.declared.InVc.{InVc}
use Rattle.state.specs.declared.OutVc.{OutVc}
use Rattle.state.specs.declared.Binding.{Binding}
use Rattle.state.specs.declared.Binding.TheVariants.{Unbound, Bound}
use Rattle.state.specs.declared.InputVc.{InputVc}
use Rattle.state.specs.declared.OutputVc.{OutputVc}
use Rattle.state.specs.Sound.{every_channel, binding_is, holder_is, input_named, output_named, names_agree}
use Rattle.state.specs.Views.{input_at, output_at}
use Rattle.rules.proofs.Channels.{channel_at, all_channels}

-- what names nothing is not what names something
pub unbound_not : (b : Binding) (to : OutVc) → b ≡ Unbound → b ≡ Bound to → ⊥
unbound_not b to e f = let z : ◌≡◌ {A = ℕ} 0 1 = cc in omega arith

pub nobody_not : (h : Option InVc) (by : InVc) → h ≡ None → h ≡ Some by → ⊥
nobody_not h by e f = let z : ◌≡◌ {A = ℕ} 0 1 = cc in omega arith

module _ (c : Config) (inputs : List InputVc) (outputs : List OutputVc) where
  -- what input VC (i, v) is bound to there is, and (i, v) holds it
  abbrev pub BoundTo : ℕ → ℕ → OutVc → Type 0
  BoundTo i v b = (b.output < c.ports) × (b.vc < c.vcs) ×
      ((output_at c outputs b.output b.vc).holder ≡ Some (record { input = i; vc = v }))

  -- who holds output VC (o, w) there is, and is bound to (o, w)
  abbrev pub HeldBy : ℕ → ℕ → InVc → Type 0
  HeldBy o w h = (h.input < c.ports) × (h.vc < c.vcs) × ((input_at c inputs h.input h.vc).binding
      ≡ Bound (record { output = o; vc = w }))

  holder_is-law : (i v : ℕ) (h : Option InVc) → holder_is i v h ≡ true → h ≡ Some (record { input = i; vc = v })
  holder_is-law i v None e = absurd (false≢true e)
  holder_is-law i v (Some h) e =
      let p = both (eqb h.input i) (eqb h.vc v) e in
      ap₂ (λ (a b : ℕ). Some (record { input = a; vc = b })) (eqb-true h.input i p.0) (eqb-true h.vc v p.1)

  binding_is-law : (o w : ℕ) (b : Binding) → binding_is o w b ≡ true → b ≡ Bound (record { output = o; vc = w })
  binding_is-law o w Unbound e = absurd (false≢true e)
  binding_is-law o w (Bound b) e =
      let p = both (eqb b.output o) (eqb b.vc w) e in
      ap₂ (λ (a b : ℕ). Bound (record { output = a; vc = b })) (eqb-true b.output o p.0) (eqb-true b.vc w p.1)

  input_names-law : (i v : ℕ) (b : OutVc) → input_named c outputs i v (Bound b) ≡ true → BoundTo i v b
  input_names-law i v b e =
      let p = both _ (holder_is i v (output_at c outputs b.output b.vc).holder) e in
      let q = both (ltb b.output c.ports) (ltb b.vc c.vcs) p.0 in (
        ltb-true b.output c.ports q.0,
        ltb-true b.vc c.vcs q.1,
        holder_is-law i v (output_at c outputs b.output b.vc).holder
            p.1,
      )

  output_names-law : (o w : ℕ) (h : InVc) → output_named c inputs o w (Some h) ≡ true → HeldBy o w h
  output_names-law o w h e =
      let p = both _ (binding_is o w (input_at c inputs h.input h.vc).binding) e in
      let q = both (ltb h.input c.ports) (ltb h.vc c.vcs) p.0 in (
        ltb-true h.input c.ports q.0,
        ltb-true h.vc c.vcs q.1,
        binding_is-law o w
            (input_at c inputs h.input h.vc).binding p.1,
      )

  names_input : (i v : ℕ) (b : Binding) → ((to : OutVc) → b ≡ Bound to → BoundTo i v to) → input_named c outputs i v b ≡ true
  names_input i v Unbound f = refl
  names_input i v (Bound b) f =
      let p = f b refl in
      ap₂ ◌&&◌ (ap₂ ◌&&◌ (lt-ltb b.output c.ports p.0) (lt-ltb b.vc c.vcs p.1))
      (ap (holder_is i v) p.2 ∙ ap₂ ◌&&◌ (eq-eqb i i refl) (eq-eqb v v refl))

  names_output : (o w : ℕ) (h : Option InVc) → ((by : InVc) → h ≡ Some by → HeldBy o w by) → output_named c inputs o w h ≡ true
  names_output o w None f = refl
  names_output o w (Some h) f =
      let p = f h refl in
      ap₂ ◌&&◌ (ap₂ ◌&&◌ (lt-ltb h.input c.ports p.0) (lt-ltb h.vc c.vcs p.1))
      (ap (binding_is o w) p.2 ∙ ap₂ ◌&&◌ (eq-eqb o o refl) (eq-eqb w w refl))

  -- the clause as facts: each bound input VC and each held output VC is named back
  pub record Agree : Type 0 where
    pub bound : (i v : ℕ) → i < c.ports → v < c.vcs → (b : OutVc) → (input_at c inputs i v).binding ≡ Bound b → BoundTo i v b
    pub held : (o w : ℕ) → o < c.ports → w < c.vcs → (h : InVc) → (output_at c outputs o w).holder ≡ Some h → HeldBy o w h

  pub names_agree-law : names_agree c inputs outputs ≡ true → Agree
  unfolding names_agree
  names_agree-law e =
      let p = both (every_channel c (λ i v. input_named c outputs i v (input_at c inputs i v).binding))
      (every_channel c (λ o w. output_named c inputs o w (output_at c outputs o w).holder)) e in
      record {
        bound = λ i v h g b q. input_names-law i v b (ap (input_named c outputs i v) (sym q) ∙ channel_at c _ p.0 i v h g);
        held = λ o w h g k q. output_names-law o w k (ap (output_named c inputs o w) (sym q) ∙ channel_at c _ p.1 o w h g);
      }

  pub agree_names : Agree → names_agree c inputs outputs ≡ true
  unfolding names_agree
  agree_names a =
      ap₂ ◌&&◌ (all_channels c _ (λ i v h g. names_input i v (input_at c inputs i v).binding (λ b q. a.bound i v h g b q)))
      (all_channels c _ (λ o w h g. names_output o w (output_at c outputs o w).holder (λ k q. a.held o w h g k q)))
