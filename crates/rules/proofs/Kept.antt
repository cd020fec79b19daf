-- Which clauses of a sound state read what of the input VCs and the output VCs: where that stays, the clause does.
-- Assumes nothing.
use Rattle.std.specs.Prelude.{Option, Some, None}
use Rattle.state.specs.declared.InVc.{InVc}
use mathlib.Core.Path.{◌≡◌, refl, ap, ap₂, ◌∙◌}
use mathlib.Core.Bool.{Bool, true, false, ◌&&◌, ◌||◌}
use mathlib.Core.List.{List}
use Prim.Native.Nat.{ℕ, ◌*◌, ◌≤◌}
use lib.Dec.{eqb, ltb}
use lib.ListN.{get_or}
use borrow.Author.Tests.{ltb-false}
use Rattle.base.specs.declared.config.Config.{Config}
use Rattle.base.proofs.Search.{every_ext}
use Rattle.state.specs.declared.Binding.{Binding}
use Rattle.state.specs.declared.Binding.TheVariants.{Unbound, Bound}
use Rattle.state.specs.declared.InputVc.{InputVc}
use Rattle.state.specs.declared.OutputVc.{OutputVc}
use Rattle.state.specs.Fresh.{fresh_input, fresh_output}
use Rattle.store.specs.Store.{slot}
use Rattle.state.specs.Views.{channel_number, input_at, output_at, queue_of, wire_of, flat}
use Rattle.state.specs.Sound
use Rattle.state.specs.Sound.{all, legal_flit, reads, input_named, output_named, input_unused, output_unused, holder_is, binding_is}
use Rattle.rules.proofs.Channels.{channels_ext}

-- two arrays of which each element agrees in what is seen of it
abbrev pub Alike : {A B : Type 0} → A → (A → B) → List A → List A → Type 0
Alike d see later before = (x : ℕ) → see (get_or later x d) ≡ see (get_or before x d)

abbrev pub binding_of : InputVc → Binding
binding_of x = x.binding

abbrev pub inside_of : InputVc → Bool
inside_of x = x.opened

abbrev pub queued_of : InputVc → ℕ
queued_of x = x.queued

abbrev pub holder_of : OutputVc → Option InVc
holder_of y = y.holder

module _ (c : Config) (later before : List InputVc) where
  -- queues and their empty slots: how many are queued
  pub queues_kept : (store : List ℕ) → Alike (fresh_input 0) queued_of later before → Sound.queues_legal c later store
      ≡ Sound.queues_legal c before store
  unfolding Sound.queues_legal
  queues_kept store same =
      channels_ext c _ _ (λ i v h g. ap (λ (n : ℕ). all (legal_flit c) (queue_of c store i v n)) (same (channel_number c i v)))

  pub slots_kept : (store : List ℕ) → Alike (fresh_input 0) queued_of later before → Sound.slots_empty later store
      ≡ Sound.slots_empty before store
  unfolding Sound.slots_empty
  slots_kept store same =
      every_ext 32 _ _ (λ x h. every_ext 16 _ _ (λ k g. ap (λ (n : ℕ). ltb k n || eqb (get_or store (slot x k) 0) 0) (same x)))

  -- names: what is bound and who holds
  pub names_kept : (out_later out_before : List OutputVc) → Alike (fresh_input 0) binding_of later before
      → Alike (fresh_output 0) holder_of out_later out_before → Sound.names_agree c later out_later ≡ Sound.names_agree c before out_before
  unfolding Sound.names_agree
  names_kept out_later out_before same held =
      ap₂ ◌&&◌
      (channels_ext c _ _ (λ i v h g. ap (input_named c out_later i v) (same (channel_number c i v))
      ∙ inputs_agree i v (input_at c before i v).binding))
      (channels_ext c _ _ (λ o w h g. ap (output_named c later o w) (held (channel_number c o w))
      ∙ outputs_agree o w (output_at c out_before o w).holder))
    where
      inputs_agree : (i v : ℕ) (b : Binding) → input_named c out_later i v b ≡ input_named c out_before i v b
      inputs_agree i v Unbound = refl
      inputs_agree i v (Bound b) =
          ap (λ (h : Option InVc). ltb b.output c.ports && ltb b.vc c.vcs && holder_is i v h)
          (held (channel_number c b.output b.vc))

      outputs_agree : (o w : ℕ) (h : Option InVc) → output_named c later o w h ≡ output_named c before o w h
      outputs_agree o w None = refl
      outputs_agree o w (Some h) =
          ap (λ (b : Binding). ltb h.input c.ports && ltb h.vc c.vcs && binding_is o w b)
          (same (channel_number c h.input h.vc))

  -- packets: what is queued, what is bound, and whether a packet is open
  pub packets_kept : (store wire : List ℕ) → Alike (fresh_input 0) queued_of later before → Alike (fresh_input 0) binding_of later before
      → Alike (fresh_input 0) inside_of later before → Sound.packets_read c later store wire ≡ Sound.packets_read c before store wire
  unfolding Sound.packets_read
  packets_kept store wire queued bound inside =
      channels_ext c _ _ (λ i v h g.
      ap₂ (λ (n : ℕ) (b : Binding). reads (queue_of c store i v n) (flat (wire_of c wire i v)) b (input_at c later i v).opened)
      (queued (channel_number c i v))
      (bound (channel_number c i v))
      ∙ ap (reads (queue_of c store i v (input_at c before i v).queued) (flat (wire_of c wire i v)) (input_at c before i v).binding) (inside
      (channel_number c i v)))

  -- what is no channel's: all of it
  pub unused_kept : (out_later out_before : List OutputVc)
      → ((x : ℕ) → c.ports * c.vcs ≤ x → get_or later x (fresh_input 0) ≡ get_or before x (fresh_input 0))
      → ((x : ℕ) → c.ports * c.vcs ≤ x → get_or out_later x (fresh_output 0) ≡ get_or out_before x (fresh_output 0))
      → Sound.channels_unused c later out_later ≡ Sound.channels_unused c before out_before
  unfolding Sound.channels_unused
  unused_kept out_later out_before same held = every_ext 32 _ _ (λ x h. go x (ltb x (c.ports * c.vcs)) refl)
    where
      go : (x : ℕ) (b : Bool) → ltb x (c.ports * c.vcs) ≡ b
          → (b || input_unused (get_or later x (fresh_input 0)) && output_unused (get_or out_later x (fresh_output 0)))
          ≡ (b || input_unused (get_or before x (fresh_input 0)) && output_unused (get_or out_before x (fresh_output 0)))
      go x true e = refl
      go x false e =
          let past = ltb-false x (c.ports * c.vcs) e in
          ap₂ (λ (a : InputVc) (b : OutputVc). input_unused a && output_unused b) (same x past) (held x past)
