-- Phase 7 and the names: "T or S unbinds and frees the output VC" (01), both of a pair together; all other names stay.
-- Assumes nothing.
use Rattle.std.specs.Prelude.{Option, None}
use mathlib.Core.Path.{◌≡◌, refl, sym, ap, ap₂, ◌∙◌}
use mathlib.Core.Logic.{◌⊎◌, inl, inr}
use mathlib.Core.Bool.{Bool, true, false, cond, true≢false}
use Rattle.std.specs.Prelude.{Some}
use Rattle.std.proofs.lemmas.Option.{same_Some}
use Prim.Native.Nat.{ℕ, ◌<◌}
use native.Mathlib.Nat.{lt_of_lt_of_le}
use lib.ListN.{get_or}
use Rattle.base.specs.declared.config.Config.{Config}
use Rattle.state.specs.declared.InVc.{InVc}
use Rattle.state.specs.declared.OutVc.{OutVc}
use Rattle.state.specs.declared.Binding.{Binding}
use Rattle.state.specs.declared.Binding.TheVariants.{Unbound, Bound}
use Rattle.state.specs.declared.InputVc.{InputVc}
use Rattle.state.specs.declared.OutputVc.{OutputVc}
use Rattle.state.specs.declared.Router.{Router}
use Rattle.state.specs.Fresh.{fresh_input, fresh_output}
use Rattle.state.specs.Sound.{Sound, names_agree}
use Rattle.state.specs.Views.{channel_number, input_at, output_at}
use Rattle.rules.specs.Departures.{input_left, output_left, leaving_of}
use Rattle.rules.proofs.Acts.{Actor, Untouched, touched_or_not}
use Rattle.rules.proofs.Channels.{channel_below, channel_apart}
use Rattle.rules.proofs.Exits.{Exit, exit, exit_is, exits_apart}
use Rattle.rules.proofs.Facts.{inputs_room, outputs_room}
use Rattle.rules.proofs.Left.{ends, from_place, by_place, exit_unqueues, others_stay, exit_pays, unused_outputs_stay}
use Rattle.rules.proofs.Naming.{unbound_not, nobody_not, BoundTo, HeldBy, Agree, names_agree-law, agree_names}

module _ (s : Router) (sound : Sound s) where
  abbrev c : Config
  c = s.config

  -- a flit leaves channel x, or leaves by it
  abbrev pub Leaves : ℕ → Type 0
  Leaves x = Actor (exit s) (from_place s) c.ports x

  abbrev pub Passes : ℕ → Type 0
  Passes x = Actor (exit s) (by_place s) c.ports x

  agree : Agree c s.inputs s.outputs
  agree = names_agree-law c s.inputs s.outputs sound.naming.names

  -- the output VC that a flit leaves by there is, and is held by the input VC that it leaves
  pub exit_named : (o : ℕ) (e : Exit) → exit s o ≡ Some e → BoundTo c s.inputs s.outputs e.input e.vc
      (record { output = o; vc = e.by })
  exit_named o e q =
      let x = exit_is s o e q in
      agree.bound e.input e.vc x.wins.input_below x.wins.vc_below (record { output = o; vc = e.by }) x.bound

  -- one flit leaves a channel, and one by a channel
  leaves_one : (x : ℕ) (a b : Leaves x) → a.deed ≡ b.deed
  leaves_one x a b =
      let same : a.port ≡ b.port = exits_apart s a.port b.port a.deed b.deed a.acts b.acts
      (a.there ∙ sym b.there) in
      same_Some a.deed b.deed (sym a.acts ∙ ap (exit s) same ∙ b.acts)

  passes_one : (x : ℕ) (a b : Passes x) → a.deed ≡ b.deed
  passes_one x a b =
      let same = channel_apart c a.port a.deed.by b.port b.deed.by (exit_named a.port a.deed a.acts).1
      (exit_named b.port b.deed b.acts).1 (a.there ∙ sym b.there) in
      same_Some a.deed b.deed (sym a.acts ∙ ap (exit s) same.0 ∙ b.acts)

  -- the input VC that a flit leaves, and the output VC that it leaves by, by number
  pub left_at : (x : ℕ) (a : Leaves x) → get_or (leaving_of s).inputs x (fresh_input 0)
      ≡ input_left (ends a.deed) (get_or s.inputs x (fresh_input 0))
  left_at x a =
      let w = (exit_is s a.port a.deed a.acts).wins in
      ap (λ (y : ℕ). get_or (leaving_of s).inputs y (fresh_input 0)) (sym a.there)
      ∙ exit_unqueues s a.port a.deed a.below a.acts
      (lt_of_lt_of_le (channel_below c a.deed.input a.deed.vc w.input_below w.vc_below) (inputs_room s sound))
      ∙ ap (λ (y : ℕ). input_left (ends a.deed) (get_or s.inputs y (fresh_input 0))) a.there

  pub passed_at : (x : ℕ) (a : Passes x)
      → get_or (leaving_of s).outputs x (fresh_output 0) ≡ output_left (ends a.deed) (get_or s.outputs x (fresh_output 0))
  passed_at x a =
      ap (λ (y : ℕ). get_or (leaving_of s).outputs y (fresh_output 0)) (sym a.there)
      ∙ exit_pays s (λ o e q. (exit_named o e q).1) a.port a.deed a.below a.acts
      (lt_of_lt_of_le (channel_below c a.port a.deed.by a.below (exit_named a.port a.deed a.acts).1)
      (outputs_room s sound))
      ∙ ap (λ (y : ℕ). output_left (ends a.deed) (get_or s.outputs y (fresh_output 0))) a.there

  -- a binding goes with the flit that ends a packet, and stays otherwise
  pub data Binds (x : ℕ) : Type 0 where
    unbinds : (a : Leaves x) → ends a.deed ≡ true → (get_or (leaving_of s).inputs x (fresh_input 0)).binding ≡ Unbound → Binds x
    stays_bound : ((a : Leaves x) → ends a.deed ≡ false)
        → (get_or (leaving_of s).inputs x (fresh_input 0)).binding ≡ (get_or s.inputs x (fresh_input 0)).binding → Binds x

  pub binding_after : (x : ℕ) → Binds x
  binding_after x = go (touched_or_not (exit s) (from_place s) c.ports x)
    where
      at : (a : Leaves x) (b : Bool) → ends a.deed ≡ b → Binds x
      at a true e =
          unbinds a e (ap (λ (y : InputVc). y.binding) (left_at x a)
          ∙ ap (λ (b : Bool). cond b Unbound (get_or s.inputs x (fresh_input 0)).binding) e)
      at a false e =
          stays_bound (λ b. ap ends (leaves_one x b a) ∙ e) (ap (λ (y : InputVc). y.binding) (left_at x a)
          ∙ ap (λ (b : Bool). cond b Unbound (get_or s.inputs x (fresh_input 0)).binding) e)

      go : Leaves x ⊎ Untouched (exit s) (from_place s) c.ports x → Binds x
      go (inl a) = at a (ends a.deed) refl
      go (inr off) =
          stays_bound (λ a. absurd (off a.port a.deed a.below a.acts a.there))
          (ap (λ (y : InputVc). y.binding) (others_stay s x off))

  -- an output VC is freed by the flit that ends a packet, and stays held otherwise
  pub data Holds (x : ℕ) : Type 0 where
    frees : (a : Passes x) → ends a.deed ≡ true → (get_or (leaving_of s).outputs x (fresh_output 0)).holder ≡ None → Holds x
    stays_held : ((a : Passes x) → ends a.deed ≡ false)
        → (get_or (leaving_of s).outputs x (fresh_output 0)).holder ≡ (get_or s.outputs x (fresh_output 0)).holder → Holds x

  pub holder_after : (x : ℕ) → Holds x
  holder_after x = go (touched_or_not (exit s) (by_place s) c.ports x)
    where
      at : (a : Passes x) (b : Bool) → ends a.deed ≡ b → Holds x
      at a true e =
          frees a e (ap (λ (y : OutputVc). y.holder) (passed_at x a)
          ∙ ap (λ (b : Bool). cond b None (get_or s.outputs x (fresh_output 0)).holder) e)
      at a false e =
          stays_held (λ b. ap ends (passes_one x b a) ∙ e) (ap (λ (y : OutputVc). y.holder) (passed_at x a)
          ∙ ap (λ (b : Bool). cond b None (get_or s.outputs x (fresh_output 0)).holder) e)

      go : Passes x ⊎ Untouched (exit s) (by_place s) c.ports x → Holds x
      go (inl a) = at a (ends a.deed) refl
      go (inr off) =
          stays_held (λ a. absurd (off a.port a.deed a.below a.acts a.there))
          (ap (λ (y : OutputVc). y.holder) (unused_outputs_stay s x off))

  same_holder : (h : Option InVc) (a b : InVc) → h ≡ Some a → h ≡ Some b → a ≡ b
  same_holder h a b e f = cc

  same_binding : (h : Binding) (a b : OutVc) → h ≡ Bound a → h ≡ Bound b → a ≡ b
  same_binding h a b e f = cc

  -- an input VC that is bound is held by what it is bound to
  still_bound : (i v : ℕ) → i < c.ports → v < c.vcs → (b : OutVc) → (input_at c (leaving_of s).inputs i v).binding ≡ Bound b
      → BoundTo c (leaving_of s).inputs (leaving_of s).outputs i v b
  still_bound i v h g b q = go (binding_after (channel_number c i v))
    where
      held : ((a : Leaves (channel_number c i v)) → ends a.deed ≡ false) → BoundTo c s.inputs s.outputs i v b
          → Holds (channel_number c b.output b.vc)
          → BoundTo c (leaving_of s).inputs (leaving_of s).outputs i v b
      held unended p (frees a e f) =
          let n = exit_named a.port a.deed a.acts in
          let by = channel_apart c a.port a.deed.by b.output b.vc n.1 p.1 a.there in
          let one = same_holder (output_at c s.outputs b.output b.vc).holder (record { input = a.deed.input; vc = a.deed.vc })
          (record { input = i; vc = v }) (ap₂ (λ (x y : ℕ). (output_at c s.outputs x y).holder) (sym by.0) (sym by.1) ∙ n.2)
          p.2 in
          absurd (true≢false (sym e ∙ unended (record {
            port = a.port;
            deed = a.deed;
            below = a.below;
            acts = a.acts;
            there = ap (λ (x : InVc). channel_number c x.input x.vc) one;
          })))
      held unended p (stays_held d f) = (p.0, p.1, f ∙ p.2)

      go : Binds (channel_number c i v) → BoundTo c (leaving_of s).inputs (leaving_of s).outputs i v b
      go (unbinds a e f) = absurd (unbound_not (input_at c (leaving_of s).inputs i v).binding b f q)
      go (stays_bound unended f) = held unended (agree.bound i v h g b (sym f ∙ q)) (holder_after (channel_number c b.output b.vc))

  -- who holds an output VC is bound to it
  still_held : (o w : ℕ) → o < c.ports → w < c.vcs → (h : InVc) → (output_at c (leaving_of s).outputs o w).holder ≡ Some h
      → HeldBy c (leaving_of s).inputs (leaving_of s).outputs o w h
  still_held o w l g h q = go (holder_after (channel_number c o w))
    where
      bound : ((a : Passes (channel_number c o w)) → ends a.deed ≡ false) → HeldBy c s.inputs s.outputs o w h
          → Binds (channel_number c h.input h.vc)
          → HeldBy c (leaving_of s).inputs (leaving_of s).outputs o w h
      bound unended p (unbinds a e f) =
          let x = exit_is s a.port a.deed a.acts in
          let from = channel_apart c a.deed.input a.deed.vc h.input h.vc x.wins.vc_below p.1 a.there in
          let one = same_binding (input_at c s.inputs h.input h.vc).binding (record { output = a.port; vc = a.deed.by })
          (record { output = o; vc = w }) (ap₂ (λ (x y : ℕ). (input_at c s.inputs x y).binding) (sym from.0) (sym from.1)
          ∙ x.bound) p.2 in
          absurd (true≢false (sym e ∙ unended (record {
            port = a.port;
            deed = a.deed;
            below = a.below;
            acts = a.acts;
            there = ap (λ (y : OutVc). channel_number c y.output y.vc) one;
          })))
      bound unended p (stays_bound d f) = (p.0, p.1, f ∙ p.2)

      go : Holds (channel_number c o w) → HeldBy c (leaving_of s).inputs (leaving_of s).outputs o w h
      go (frees a e f) = absurd (nobody_not (output_at c (leaving_of s).outputs o w).holder h f q)
      go (stays_held unended f) = bound unended (agree.held o w l g h (sym f ∙ q)) (binding_after (channel_number c h.input h.vc))

  pub left_names : names_agree c (leaving_of s).inputs (leaving_of s).outputs ≡ true
  left_names = agree_names c (leaving_of s).inputs (leaving_of s).outputs (record { bound = still_bound; held = still_held })
