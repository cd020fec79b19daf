-- Whom the rules bind in an accepted cycle is within the free router's limits: an unbound input VC whose front asks there, to an output VC
-- that was free before the cycle, at most one for each output.
-- Assumes nothing.
use Rattle.std.specs.Prelude.{Ok}
use mathlib.Core.Path.{◌≡◌, refl, sym, ap, subst, ◌∙◌}
use mathlib.Core.Logic.{◌⊎◌, inl, inr}
use mathlib.Core.Bool.{Bool, true, false, false≢true}
use mathlib.Core.List.{List, [], ◌∷◌}
use Rattle.std.specs.Prelude.{Some, None}
use Rattle.std.proofs.lemmas.Option.{same_Some, none-some}
use Prim.Native.Nat.{ℕ, ◌<◌}
use lib.Dec.{eqb}
use lib.ListN.{get_or}
use borrow.Author.Tests.{eqb-true}
use Rattle.base.specs.declared.config.Config.{Config}
use Rattle.base.specs.declared.flit.Flit.{Flit}
use Rattle.base.specs.Flit.{kind_of, destination_of, starts_kind}
use Rattle.base.proofs.Search.{both}
use Rattle.model.specs.Channel.{queue_now}
use Rattle.model.specs.Router as free
use Rattle.model.specs.Legal.{Asks, Free}
use Rattle.state.specs.declared.Binding.{Binding}
use Rattle.state.specs.declared.Binding.TheVariants.{Unbound, Bound}
use Rattle.state.specs.declared.Router.{Router}
use Rattle.state.specs.Channels.{ChannelView, bound_to, is_there}
use Rattle.state.specs.Fresh.{fresh_input}
use Rattle.state.specs.Sound.{Sound, front_is_for}
use Rattle.store.specs.Store.{first_slot}
use Rattle.state.specs.Views.{channel_number, input_at, output_at, queue_at}
use Rattle.trace.specs.Bytes.{AreBytes}
use Rattle.rules.specs.Allocation.{Grant, grant_of}
use Rattle.rules.specs.Free.{look, name_of, free_of}
use Rattle.rules.specs.Intake.{credits_reached, credits_returned, landed, offers_taken}
use Rattle.rules.specs.Step.{taken_in, step_of}
use Rattle.rules.proofs.Accepted.{accepted_before}
use Rattle.rules.proofs.Acts.{Actor, Untouched}
use Rattle.rules.proofs.Bound.{asking, granted_or_not}
use Rattle.rules.proofs.Channels.{channel_apart}
use Rattle.rules.proofs.Choices.{grant_to, grant_to-law, no_grant_to}
use Rattle.rules.proofs.ChosenViews.{view_there, view_beyond, bound_came, queue_came}
use Rattle.rules.proofs.Grants.{Granted, grant_is}
use Rattle.rules.proofs.Naming.{nobody_not, names_agree-law}
use Rattle.rules.proofs.Slips.{granted_was_free}
use Rattle.history.proofs.Choice.{choice_of, there_is, grant_there}

-- a front for output o asks there
front_asks : (o : ℕ) (q : List Flit) → front_is_for o q ≡ true → Asks look q o
front_asks o [] e = absurd (false≢true e)
front_asks o (f ∷ q) e =
    let p = both (starts_kind (kind_of f)) (eqb (destination_of f) o) e in
    (p.0, eqb-true (destination_of f) o p.1)

-- a binding that has the free router's name b
bound_named : (x : Binding) (b : free.OutVc) → name_of (bound_to x) ≡ Some b → x ≡ Bound (record { output = b.output; vc = b.vc })
bound_named Unbound b q = absurd (none-some b q)
bound_named (Bound a) b q =
    ap (λ (n : free.OutVc). Bound (record { output = n.output; vc = n.vc }))
    (same_Some (record { output = a.output; vc = a.vc }) b q)

module _ (s : Router) (part : List ℕ) (bytes : AreBytes part) (accepted : (step_of s part).verdict ≡ Ok tt) where
  abbrev c : Config
  c = s.config

  -- the router after phase 4
  abbrev came : Router
  came = taken_in part s

  sound : Sound s
  sound = accepted_before s part bytes accepted

  -- a grant of the choice: the output that gives it, and what it gives
  pub record Gives (i v : ℕ) (b : free.OutVc) : Type 0 where
    pub port : i < c.ports
    pub below : v < c.vcs
    pub deed : Grant
    pub acts : grant_of came b.output ≡ Some deed
    pub there : deed.requester ≡ channel_number c i v
    pub vc : deed.vc ≡ b.vc

  pub grant_gives : (i v : ℕ) (b : free.OutVc) → (choice_of s part).grant i v ≡ Some b → Gives i v b
  unfolding taken_in offers_taken landed credits_returned credits_reached
  grant_gives i v b q = let r = grant_there s part bytes accepted i v b q in
      go r.port r.vc r.is (granted_or_not came (channel_number c i v))
    where
      go : i < c.ports → v < c.vcs → name_of (grant_to came (channel_number c i v)) ≡ Some b
          → Actor (grant_of came) (asking came) c.ports (channel_number c i v) ⊎ Untouched (grant_of came) (asking came) c.ports
          (channel_number c i v)
          → Gives i v b
      go h g e (inl a) =
          let same : record { output = a.port; vc = a.deed.vc } ≡ b =
          same_Some (record { output = a.port; vc = a.deed.vc }) b
          (ap name_of (sym (grant_to-law came (channel_number c i v) a)) ∙ e) in
          record {
            port = h;
            below = g;
            deed = a.deed;
            acts = ap (λ (x : free.OutVc). grant_of came x.output) (sym same) ∙ a.acts;
            there = a.there;
            vc = ap (λ (x : free.OutVc). x.vc) same;
          }
      go h g e (inr off) = absurd (none-some b (ap name_of (sym (no_grant_to came (channel_number c i v) off)) ∙ e))

  module _ (i v : ℕ) (b : free.OutVc) (q : (choice_of s part).grant i v ≡ Some b) where
    it : Gives i v b
    it = grant_gives i v b q

    granted : Granted came b.output it.deed
    granted = grant_is came b.output it.deed it.acts

    -- it was unbound
    pub binds_unbound-law : (free_of s).bound i v ≡ None
    unfolding taken_in offers_taken landed credits_returned credits_reached
    binds_unbound-law =
        bound_came s part bytes accepted i v it.port it.below
        ∙ ap (λ (x : Binding). name_of (bound_to x))
        (ap (λ (x : ℕ). (get_or came.inputs x (fresh_input 0)).binding) (sym it.there) ∙ granted.unbound)

    -- its front asks at that output
    pub binds_front-law : Asks look (queue_now ((free_of s).channel i v)) b.output
    binds_front-law =
        front_asks b.output (queue_now ((free_of s).channel i v))
        (ap (front_is_for b.output) (queue_came s part bytes accepted i v it.port it.below)
        ∙ ap (λ (x : ℕ). front_is_for b.output (queue_at came.store (first_slot x) (get_or came.inputs x (fresh_input 0)).queued))
        (sym it.there)
        ∙ granted.front)

    pub binds_vc-law : b.vc < c.vcs
    unfolding taken_in offers_taken landed credits_returned credits_reached
    binds_vc-law = subst (λ (w : ℕ). w < c.vcs) it.vc granted.vc_below

    -- nobody was bound to it
    pub binds_free-law : Free (free_of s) b
    unfolding free_of
    binds_free-law j u p = go (is_there c j u) refl
      where
        go : (t : Bool) → is_there c j u ≡ t → ⊥
        go true e =
            let l = there_is c j u e in
            let to = bound_named (input_at c s.inputs j u).binding b
            (ap (λ (ch : ChannelView). name_of ch.bound) (sym (view_there s j u l.0 l.1)) ∙ p) in
            let held = (names_agree-law c s.inputs s.outputs sound.naming.names).bound j u l.0 l.1 _ to in
            nobody_not (output_at c s.outputs b.output b.vc).holder (record { input = j; vc = u })
            (ap (λ (w : ℕ). (output_at c s.outputs b.output w).holder) (sym it.vc)
            ∙ granted_was_free s part bytes accepted b.output it.deed it.acts) held.2
        go false e = none-some b (ap (λ (ch : ChannelView). name_of ch.bound) (sym (view_beyond s j u e)) ∙ p)

  -- two grants of one output are one
  pub binds_once-law : (i v j u : ℕ) (a b : free.OutVc) → (choice_of s part).grant i v ≡ Some a → (choice_of s part).grant j u ≡ Some b
      → a.output ≡ b.output → (i ≡ j) × (v ≡ u)
  binds_once-law i v j u a b p q same =
      let x = grant_gives i v a p in
      let y = grant_gives j u b q in
      let deed : x.deed ≡ y.deed = same_Some x.deed y.deed (sym x.acts ∙ ap (grant_of came) same ∙ y.acts) in
      channel_apart c i v j u x.below y.below
      (sym x.there ∙ ap (λ (g : Grant). g.requester) deed ∙ y.there)
