-- Phase 5 from an input VC: the output VC that it is granted, in both views.
-- Assumes nothing.
use Rattle.std.specs.Prelude.{Ok}
use mathlib.Core.Path.{◌≡◌, refl, sym, ap, ap₂, ◌∙◌}
use mathlib.Core.Logic.{◌⊎◌, inl, inr}
use mathlib.Core.Bool.{Bool, true, false, cond, ◌&&◌, false≢true}
use mathlib.Core.List.{List, [], ◌∷◌}
use Rattle.std.specs.Prelude.{Option, Some, None}
use Prim.Native.Nat.{ℕ, ◌^◌, ◌<◌}
use native.Mathlib.Omega.{arith}
use lib.Dec.{eqb, leb, ltb}
use lib.ListN.{get_or}
use borrow.Author.Tests.{eqb-true, eq-eqb, ne_eqb, ltb-true}
use Rattle.base.specs.declared.config.Config.{Config}
use Rattle.base.specs.declared.flit.Flit.{Flit}
use Rattle.base.specs.Flit.{kind_of, destination_of, starts_kind, head, single}
use Rattle.base.proofs.Search.{both, first_at}
use Rattle.model.specs.Channel.{queue_now}
use Rattle.model.specs.Cycle.{Event}
use Rattle.model.specs.Router as free
use Rattle.state.specs.declared.Arbiters.{Arbiters}
use Rattle.state.specs.declared.Router.{Router}
use Rattle.state.specs.Channels.{is_there}
use Rattle.state.specs.Fresh.{fresh_input}
use Rattle.state.specs.Sound as sound
use Rattle.state.specs.Sound.{all, legal_flit, queues_legal, front_is_for}
use Rattle.store.specs.Store.{first_slot}
use Rattle.state.specs.Views.{channel_number, input_at, output_at, queue_at, queue_of}
use Rattle.trace.specs.Bytes.{AreBytes}
use Rattle.rules.specs.Allocation.{Grant, lowest_free_vc, grant_of, requester_of}
use Rattle.rules.specs.Chosen.{names, least_free, binds_at, to_vc, grant_by, grant}
use Rattle.rules.specs.Free.{name_of, free_of, event_of}
use Rattle.rules.specs.Intake.{credits_reached, credits_returned, landed, offers_taken}
use Rattle.rules.specs.Step.{taken_in, step_of}
use Rattle.rules.proofs.Accepted.{accepted_before, taken_sound}
use Rattle.rules.proofs.Acts.{Actor, Untouched}
use Rattle.rules.proofs.Bound.{asking, granted_or_not}
use Rattle.rules.proofs.Channels.{channel_at}
use Rattle.rules.proofs.Choices.{grant_to, grant_to-law, no_grant_to}
use Rattle.rules.proofs.ChosenBinds.{least_alike, binds_alike}
use Rattle.rules.proofs.ChosenViews.{is_there-law, queue_came}
use Rattle.rules.proofs.Facts.{sound_legal}
use Rattle.rules.proofs.Grants.{grant_is}

-- a legal flit names a port that there is
destination_there : (c : Config) (x : Flit) → 0 < c.ports → legal_flit c x ≡ true → destination_of x < c.ports
unfolding legal_flit
destination_there c x pos e =
    let p = both _ (ltb x.word (2 ^ 38)) e in
    let q = both (leb head (kind_of x) && leb (kind_of x) single) _ p.0 in
    go (starts_kind (kind_of x)) q.1
  where
    go : (b : Bool) → cond b (ltb (destination_of x) c.ports) (eqb (destination_of x) 0) ≡ true → destination_of x < c.ports
    go true t = ltb-true (destination_of x) c.ports t
    go false t = let z = eqb-true (destination_of x) 0 t in omega arith

module _ (s : Router) (part : List ℕ) (bytes : AreBytes part) (accepted : (step_of s part).verdict ≡ Ok tt) where
  abbrev c : Config
  c = s.config

  abbrev came : Router
  came = taken_in part s

  abbrev a : Arbiters
  a = s.arbiters

  abbrev f : free.Router Flit
  f = free_of s

  abbrev e : Event Flit
  e = event_of c part

  -- what an output grants is its lowest-numbered free VC
  given_least : (o : ℕ) (g : Grant) → grant_of came o ≡ Some g → lowest_free_vc c came.outputs o ≡ Some g.vc
  unfolding lowest_free_vc taken_in offers_taken landed credits_returned credits_reached
  given_least o g q =
      let r = grant_is came o g q in
      first_at (λ (w : ℕ). sound.is_vc_free (output_at c came.outputs o w).holder) c.vcs 0 g.vc
      (record {
        from = omega arith;
        below = let l = r.vc_below in omega arith;
        passes = ap sound.is_vc_free r.free;
        before = λ w h l. r.lowest w l;
      })

  module _ (i v : ℕ) (port : i < c.ports) (vc : v < c.vcs) where
    abbrev x : ℕ
    x = channel_number c i v

    abbrev queue : List Flit
    queue = queue_of c came.store i v (input_at c came.inputs i v).queued

    legal : all (legal_flit c) queue ≡ true
    unfolding queues_legal taken_in offers_taken landed credits_returned credits_reached
    legal =
        channel_at c (λ i v. all (legal_flit c) (queue_of c came.store i v (input_at c came.inputs i v).queued))
        (taken_sound s part bytes accepted).flow.queues i v port vc

    front_there : (y : Flit) (q : List Flit) → queue ≡ y ∷ q → destination_of y < c.ports
    unfolding all
    front_there y q r =
        let pos = (sound_legal s (accepted_before s part bytes accepted)).ports.0 in
        destination_there c y (omega arith) (both (legal_flit c y) (all (legal_flit c) q) (sym (ap (all (legal_flit c)) r) ∙ legal)).0

    -- an output grants it the VC
    granted_at : (o : ℕ) (g : Grant) → o < c.ports → grant_of came o ≡ Some g → g.requester ≡ x → (q : List Flit) → front_is_for o q ≡ true
        → grant_by c a f e i v q ≡ Some (record { output = o; vc = g.vc })
    granted_at o g h r there [] front = absurd (false≢true front)
    granted_at o g h r there (y ∷ q) front =
        let to : destination_of y ≡ o = eqb-true (destination_of y) o (both (starts_kind (kind_of y)) (eqb (destination_of y) o) front).1 in
        ap (λ (o : ℕ). cond (names x (binds_at c a f e o)) (to_vc c a f e o (least_free c a f e o)) None) to
        ∙ ap₂ (λ (b w : Option ℕ). cond (names x b) (to_vc c a f e o w) None) (binds_alike s part bytes accepted o h ∙ ap requester_of r)
        (least_alike s part bytes accepted o h ∙ given_least o g r)
        ∙ ap (λ (b : Bool). cond b (Some (record { output = o; vc = g.vc })) None) (eq-eqb g.requester x there)

    -- no output grants it one
    ungranted_at : Untouched (grant_of came) (asking came) c.ports x → (q : List Flit) → queue ≡ q → grant_by c a f e i v q ≡ None
    ungranted_at off [] r = refl
    ungranted_at off (y ∷ q) r =
        ap (λ (b : Option ℕ). cond (names x b) (to_vc c a f e (destination_of y) (least_free c a f e (destination_of y))) None)
        (binds_alike s part bytes accepted (destination_of y) (front_there y q r))
        ∙ ap (λ (b : Bool). cond b (to_vc c a f e (destination_of y) (least_free c a f e (destination_of y))) None)
        (go (grant_of came (destination_of y)) refl)
      where
        go : (m : Option Grant) → grant_of came (destination_of y) ≡ m → names x (requester_of m) ≡ false
        go None k = refl
        go (Some g) k = ne_eqb g.requester x (off (destination_of y) g (front_there y q r) k)

    by_alike : grant_by c a f e i v queue ≡ name_of (grant_to came x)
    unfolding taken_in offers_taken landed credits_returned credits_reached
    by_alike = go (granted_or_not came x)
      where
        go : Actor (grant_of came) (asking came) c.ports x ⊎ Untouched (grant_of came) (asking came) c.ports x
            → grant_by c a f e i v queue ≡ name_of (grant_to came x)
        go (inl d) =
            granted_at d.port d.deed d.below d.acts d.there queue
            (ap (λ (x : ℕ). front_is_for d.port (queue_at came.store (first_slot x) (get_or came.inputs x (fresh_input 0)).queued))
            (sym d.there)
            ∙ (grant_is came d.port d.deed d.acts).front)
            ∙ ap name_of (sym (grant_to-law came x d))
        go (inr off) = ungranted_at off queue refl ∙ ap name_of (sym (no_grant_to came x off))

    -- the output VC that it is granted
    pub grant_alike : grant c a f e i v ≡ name_of (grant_to came x)
    unfolding grant
    grant_alike =
        ap₂ (λ (b : Bool) (q : List Flit). cond b (grant_by c a f e i v q) None) (is_there-law c i v port vc)
        (queue_came s part bytes accepted i v port vc)
        ∙ by_alike

  -- none is granted to an input VC that there is not
  pub grant_beyond : (i v : ℕ) → is_there c i v ≡ false → grant c a f e i v ≡ None
  unfolding grant
  grant_beyond i v out = ap (λ (b : Bool). cond b (grant_by c a f e i v (queue_now (f.channel i v))) None) out
