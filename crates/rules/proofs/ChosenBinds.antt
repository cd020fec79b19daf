-- Phase 5 in both views: who asks, which VCs are free, and who is bound to which, of the free router and of the router after phase 4.
-- Assumes nothing.
use Rattle.std.specs.Prelude.{Ok}
use Rattle.state.specs.declared.InVc.{InVc}
use mathlib.Core.Path.{◌≡◌, refl, sym, ap, ap₂, ◌∙◌}
use mathlib.Core.Bool.{Bool, true, false, not, ◌&&◌}
use mathlib.Core.List.{List}
use Rattle.std.specs.Prelude.{Option, Some, None}
use Prim.Native.Nat.{ℕ, ◌*◌, ◌/◌, ◌%◌, ◌<◌}
use native.Mathlib.Nat.{mod-lt, div-add-mod', div-lt_iff_lt-mul}
use native.Mathlib.Omega.{arith}
use lib.Dec.{eqb}
use borrow.Author.Tests.{eqb-true, eq-eqb}
use Rattle.base.specs.declared.config.Config.{Config}
use Rattle.base.specs.declared.flit.Flit.{Flit}
use Rattle.base.specs.Search.{every}
use Rattle.base.proofs.Search.{both, first_ext, not_every, all_every}
use Rattle.arbiter.specs.Arbiter.{choice}
use Rattle.arbiter.proofs.ByKind.{choice_same}
use Rattle.model.specs.Cycle.{Event}
use Rattle.model.specs.Router as free
use Rattle.state.specs.declared.Arbiters.{Arbiters}
use Rattle.state.specs.declared.Binding.{Binding}
use Rattle.state.specs.declared.Binding.TheVariants.{Unbound, Bound}
use Rattle.state.specs.declared.Router.{Router}
use Rattle.state.specs.Channels.{bound_to}
use Rattle.state.specs.Sound as sound
use Rattle.state.specs.Sound.{binding_is, front_is_for}
use Rattle.state.specs.Views.{channel_number, input_at, output_at, queue_of, vc_arbiter}
use Rattle.trace.specs.Bytes.{AreBytes}
use Rattle.rules.specs.Allocation.{asks, lowest_free_vc, granted, grant_of, requester_of}
use Rattle.rules.specs.Chosen as chosen
use Rattle.rules.specs.Chosen.{is_bound_to, asks_at, is_vc_free, least_free, if_free, binds_at}
use Rattle.rules.specs.Free.{name_of, free_of, event_of}
use Rattle.rules.specs.Intake.{credits_reached, credits_returned, landed, offers_taken}
use Rattle.rules.specs.Step.{taken_in, step_of}
use Rattle.rules.proofs.Accepted.{accepted_before, taken_sound}
use Rattle.rules.proofs.ChosenViews.{bound_came, queue_came}
use Rattle.rules.proofs.Facts.{sound_legal}
use Rattle.rules.proofs.Naming.{Agree, names_agree-law, nobody_not}

-- the two words for a binding say the same
unbound_alike : (b : Binding) → chosen.is_unbound (name_of (bound_to b)) ≡ sound.is_unbound b
unbound_alike Unbound = refl
unbound_alike (Bound b) = refl

bound_alike : (o w : ℕ) (b : Binding) → is_bound_to o w (name_of (bound_to b)) ≡ binding_is o w b
bound_alike o w Unbound = refl
bound_alike o w (Bound b) = refl

module _ (s : Router) (part : List ℕ) (bytes : AreBytes part) (accepted : (step_of s part).verdict ≡ Ok tt) where
  abbrev c : Config
  c = s.config

  -- the router after phase 4, and the free router with what comes to it
  abbrev came : Router
  came = taken_in part s

  abbrev a : Arbiters
  a = s.arbiters

  abbrev f : free.Router Flit
  f = free_of s

  abbrev e : Event Flit
  e = event_of c part

  agree : Agree c came.inputs came.outputs
  unfolding taken_in offers_taken landed credits_returned credits_reached
  agree = names_agree-law c came.inputs came.outputs (taken_sound s part bytes accepted).naming.names

  -- who asks at output o
  asks_alike : (o i v : ℕ) → i < c.ports → v < c.vcs → asks_at c a f e o i v ≡ asks came.inputs came.store o (channel_number c i v)
  unfolding asks_at asks
  asks_alike o i v port vc =
      ap₂ (λ (b : Option free.OutVc) (q : List Flit). chosen.is_unbound b && front_is_for o q) (bound_came s part bytes accepted i v port vc)
      (queue_came s part bytes accepted i v port vc)
      ∙ ap (λ (b : Bool). b && front_is_for o (queue_of c came.store i v (input_at c came.inputs i v).queued))
      (unbound_alike (input_at c came.inputs i v).binding)

  -- "requester number i·V+v"
  requester_asks : (o x : ℕ) → x < c.ports * c.vcs → asks_at c a f e o (x / c.vcs) (x % c.vcs) ≡ asks came.inputs came.store o x
  requester_asks o x h =
      let pos = (sound_legal s (accepted_before s part bytes accepted)).vcs.0 in
      asks_alike o (x / c.vcs) (x % c.vcs) ((div-lt_iff_lt-mul pos).1 h) (mod-lt x pos)
      ∙ ap (asks came.inputs came.store o) (div-add-mod' x c.vcs)

  -- nobody holds an output VC exactly if no input VC is bound to it
  pub free_alike : (o w : ℕ) → o < c.ports → w < c.vcs → is_vc_free c a f e o w ≡ sound.is_vc_free (output_at c came.outputs o w).holder
  unfolding is_vc_free
  free_alike o w port vc = go (output_at c came.outputs o w).holder refl
    where
      test : ℕ → ℕ → Bool
      test i v = not (is_bound_to o w (f.bound i v))

      told : (i v : ℕ) → i < c.ports → v < c.vcs → test i v ≡ not (binding_is o w (input_at c came.inputs i v).binding)
      told i v h g =
          ap (λ (b : Option free.OutVc). not (is_bound_to o w b)) (bound_came s part bytes accepted i v h g)
          ∙ ap not (bound_alike o w (input_at c came.inputs i v).binding)

      apart : (output_at c came.outputs o w).holder ≡ None → (i v : ℕ) → i < c.ports → v < c.vcs → (b : Binding)
          → (input_at c came.inputs i v).binding ≡ b → not (binding_is o w b) ≡ true
      apart q i v h g Unbound r = refl
      apart q i v h g (Bound b) r = at (binding_is o w (Bound b)) refl
        where
          at : (t : Bool) → binding_is o w (Bound b) ≡ t → not t ≡ true
          at false k = refl
          at true k =
              let p = both (eqb b.output o) (eqb b.vc w) k in
              let named = agree.bound i v h g b r in
              absurd (nobody_not (output_at c came.outputs o w).holder (record { input = i; vc = v }) q
              (ap₂ (λ (o w : ℕ). (output_at c came.outputs o w).holder) (sym (eqb-true b.output o p.0))
              (sym (eqb-true b.vc w p.1))
              ∙ named.2))

      go : (h : Option InVc) → (output_at c came.outputs o w).holder ≡ h
          → every c.ports (λ (i : ℕ). every c.vcs (λ (v : ℕ). not (is_bound_to o w (f.bound i v)))) ≡ sound.is_vc_free h
      go None q =
          all_every c.ports _ (λ i h.
          all_every c.vcs _ (λ v g. told i v h g ∙ apart q i v h g (input_at c came.inputs i v).binding refl))
      go (Some h) q =
          let named = agree.held o w port vc h q in
          not_every c.ports _ h.input named.0 (not_every c.vcs _ h.vc named.1
          (told h.input h.vc named.0 named.1
          ∙ ap (λ (b : Binding). not (binding_is o w b)) named.2
          ∙ ap not (ap₂ ◌&&◌ (eq-eqb o o refl) (eq-eqb w w refl))))

  -- the lowest-numbered free VC of an output
  pub least_alike : (o : ℕ) → o < c.ports → least_free c a f e o ≡ lowest_free_vc c came.outputs o
  unfolding least_free lowest_free_vc
  least_alike o port =
      first_ext (is_vc_free c a f e o) (λ (w : ℕ). sound.is_vc_free (output_at c came.outputs o w).holder) c.vcs 0
      (λ w h g. free_alike o w port (omega arith))

  abbrev chosen_at : ℕ → Option ℕ
  chosen_at o = choice 32 c.arbiter (c.ports * c.vcs) (asks came.inputs came.store o) (vc_arbiter a o)

  grant_parts : (o : ℕ) → grant_of came o ≡ granted (lowest_free_vc c came.outputs o) (chosen_at o)
  unfolding grant_of taken_in offers_taken landed credits_returned credits_reached
  grant_parts o = refl

  -- whom an output binds
  pub binds_alike : (o : ℕ) → o < c.ports → binds_at c a f e o ≡ requester_of (grant_of came o)
  unfolding binds_at
  binds_alike o port =
      ap₂ (if_free c a f e) (least_alike o port)
      (choice_same 32 c.arbiter (c.ports * c.vcs) _ (asks came.inputs came.store o) (vc_arbiter a o) (requester_asks o))
      ∙ go (lowest_free_vc c came.outputs o) (chosen_at o) ∙ ap requester_of (sym (grant_parts o))
    where
      go : (w x : Option ℕ) → if_free c a f e w x ≡ requester_of (granted w x)
      go None x = refl
      go (Some w) None = refl
      go (Some w) (Some x) = refl
