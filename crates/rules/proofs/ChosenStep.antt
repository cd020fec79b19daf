-- THE step in both views: an accepted cycle of the router is a step of the free router of crates/model, with the choice that the
-- arbiters make.
-- Assumes nothing.
use Rattle.std.specs.Prelude.{Ok}
use mathlib.Core.Path.{◌≡◌, refl, sym, ap, ap₂, ◌∙◌}
use mathlib.Core.Bool.{Bool, true, false, cond, not, ◌&&◌}
use mathlib.Core.List.{List, [], ◌∷◌}
use Rattle.std.specs.Prelude.{Option, None}
use Prim.Native.Nat.{ℕ, suc, ◌+◌, ◌-◌, ◌<◌}
use native.Mathlib.Numerals.{add-one}
use native.Mathlib.Omega.{arith}
use lib.ListN.{length}
use borrow.Author.Tests.{ltb-true}
use Rattle.base.specs.declared.config.Config.{Config}
use Rattle.base.specs.declared.flit.Flit.{Flit}
use Rattle.base.specs.Flit.{ends_kind}
use Rattle.base.proofs.Search.{both}
use Rattle.model.specs.Channel.{queue_now, after_cycle}
use Rattle.model.specs.Cycle.{Event, Choice}
use Rattle.model.specs.History.{departures_on}
use Rattle.model.specs.Phases as phases
use Rattle.model.specs.Phases.{out_credit_now, granted}
use Rattle.model.specs.Router as free
use Rattle.model.specs.Step.{entry, open_after, ends_packet, bound_after, step}
use Rattle.state.specs.declared.OutVc.{OutVc}
use Rattle.state.specs.declared.Arbiters.{Arbiters}
use Rattle.state.specs.declared.Router.{Router}
use Rattle.state.specs.Channels.{ChannelView, fresh_view, is_there, channel_view, view_of, out_credit_of}
use Rattle.state.specs.Sound.{Sound}
use Rattle.state.specs.Views.{channel_number, output_at}
use Rattle.trace.specs.Bytes.{AreBytes}
use Rattle.rules.specs.declared.Stepped.{Stepped}
use Rattle.rules.specs.Allocation.{allocated}
use Rattle.rules.specs.Chosen.{bound_now, leaves, chosen}
use Rattle.rules.specs.Free.{look, sizes_of, channel_of, name_of, free_of, event_of}
use Rattle.rules.specs.Intake.{credits_reached, credits_returned, landed, offers_taken}
use Rattle.rules.specs.Rows.{brings, kind_at, flit_at}
use Rattle.rules.specs.Step.{taken_in, sent_out, router_after, step_of}
use Rattle.rules.proofs.Accepted.{readied, accepted_none, accepted_before, accepted_steps}
use Rattle.rules.proofs.Choices.{grant_to, leaves_from}
use Rattle.rules.proofs.ChosenDepartures.{departures_alike, departures_beyond}
use Rattle.rules.proofs.ChosenEvent.{fresh_stays, offered_alike, offered_beyond, credit_beyond}
use Rattle.rules.proofs.ChosenGrants.{grant_alike}
use Rattle.rules.proofs.ChosenLeaves.{leaves_alike, leaves_beyond}
use Rattle.rules.proofs.ChosenViews.{is_there-law, view_there, view_beyond, credit_came}
use Rattle.rules.proofs.ChosenWinners.{named_granted, bound_beyond}
use Rattle.rules.proofs.Facts.{sound_legal}
use Rattle.rules.proofs.IntakeSound.{permitted}
use Rattle.rules.proofs.IntakeViews.{output_credit_after}
use Rattle.rules.proofs.LeavingViews.{now_bound, one, front_ends}
use Rattle.rules.proofs.OfferedFlits.{offered_kind}
use Rattle.rules.proofs.Offers.{brings_on, offered}
use Rattle.rules.proofs.StepChannel.{stepped_view, channel_steps, output_credit_steps}

-- whether a front ends a packet, in both words
ends_alike : (q : List Flit) → ends_packet look q ≡ front_ends q
ends_alike [] = refl
ends_alike (x ∷ q) = refl

named_cond : (b : Bool) (o : Option OutVc) → name_of (cond b None o) ≡ cond b None (name_of o)
named_cond true o = refl
named_cond false o = refl

module _ (s : Router) (part : List ℕ) (bytes : AreBytes part) (accepted : (step_of s part).verdict ≡ Ok tt) where
  abbrev c : Config
  c = s.config

  abbrev came : Router
  came = taken_in part s

  abbrev mid : Router
  mid = readied part s

  -- the router after the cycle
  abbrev later : Router
  later = (step_of s part).router

  abbrev a : Arbiters
  a = s.arbiters

  abbrev f : free.Router Flit
  f = free_of s

  abbrev e : Event Flit
  e = event_of c part

  abbrev k : Choice
  k = chosen c a f e

  before : Sound s
  before = accepted_before s part bytes accepted

  pub config_stays : later.config ≡ c
  unfolding router_after sent_out allocated taken_in offers_taken landed credits_returned credits_reached
  config_stays = ap (λ (y : Stepped). y.router.config) (accepted_steps s part bytes accepted)

  pub cycle_steps : later.cycle ≡ suc s.cycle
  unfolding router_after sent_out allocated taken_in offers_taken landed credits_returned credits_reached
  cycle_steps = ap (λ (y : Stepped). y.router.cycle) (accepted_steps s part bytes accepted) ∙ add-one s.cycle

  -- of a channel that there is not
  module _ (i v : ℕ) (out : is_there c i v ≡ false) where
    later_beyond : view_of later i v ≡ fresh_view c
    later_beyond = view_beyond later i v (ap (λ (c : Config). is_there c i v) config_stays ∙ out) ∙ ap fresh_view config_stays

    channel_beyond : channel_of (view_of later i v) ≡ after_cycle (channel_of (view_of s i v)) (phases.offered e i v) (one (leaves c a f e i v))
    channel_beyond =
        let legal = sound_legal s before in
        let was = view_beyond s i v out in
        let brought = offered_beyond s part bytes accepted i v out in
        let stays = leaves_beyond s part bytes accepted i v out in
        ap channel_of later_beyond ∙ fresh_stays c legal.forward.0 legal.back.0
        ∙ (λ t. after_cycle (channel_of (sym was t)) (sym brought t) (one (sym stays t)))

    opened_beyond : (view_of later i v).opened ≡ open_after look (view_of s i v).opened (phases.offered e i v)
    opened_beyond =
        ap (λ (y : ChannelView). y.opened) later_beyond
        ∙ ap₂ (λ (y : ChannelView) (l : List Flit). open_after look y.opened l) (sym (view_beyond s i v out))
        (sym (offered_beyond s part bytes accepted i v out))

    bound_later_beyond : name_of (view_of later i v).bound
        ≡ bound_after look (leaves c a f e i v) (queue_now (channel_of (view_of s i v))) (bound_now c a f e i v)
    bound_later_beyond =
        ap (λ (y : ChannelView). name_of y.bound) later_beyond
        ∙ ap₂ (λ (l : Bool) (b : Option free.OutVc). bound_after look l (queue_now (channel_of (view_of s i v))) b)
        (sym (leaves_beyond s part bytes accepted i v out)) (sym (bound_beyond s part bytes accepted i v out))

    credit_later_beyond : out_credit_of later i v ≡ out_credit_now f e i v - length (departures_on i v (entry (sizes_of c) f e k))
    unfolding out_credit_of free_of
    credit_later_beyond =
        let there : is_there later.config i v ≡ false = ap (λ (c : Config). is_there c i v) config_stays ∙ out in
        let brought = credit_beyond s part bytes accepted i v out in
        let stays = departures_beyond s part bytes accepted i v out in
        ap₂ (λ (b : Bool) (n : ℕ). cond b (output_at later.config later.outputs i v).credit n) there
        (ap (λ (c : Config). c.downstream) config_stays)
        ∙ ap (λ (b : Bool). cond b (output_at c s.outputs i v).credit c.downstream) (sym out)
        ∙ less (out_credit_of s i v) _ _ brought stays
      where
        less : (x y z : ℕ) → y ≡ 0 → z ≡ 0 → x ≡ x + y - z
        less x y z p q = omega arith

  -- of a channel that there is
  module _ (i v : ℕ) (port : i < c.ports) (vc : v < c.vcs) where
    abbrev x : ℕ
    x = channel_number c i v

    abbrev stepped : ChannelView
    stepped =
        stepped_view (channel_view s i v) (offered part i v)
        (cond (brings_on part i v) (not (ends_kind (kind_at part i))) (channel_view s i v).opened) (grant_to came x) (leaves_from mid x)

    later_there : view_of later i v ≡ stepped
    unfolding view_of
    later_there =
        ap (λ (b : Bool). cond b (channel_view later i v) (fresh_view later.config))
        (ap (λ (c : Config). is_there c i v) config_stays ∙ is_there-law c i v port vc)
        ∙ channel_steps s part bytes accepted i v port vc

    channel_there : channel_of (view_of later i v) ≡ after_cycle (channel_of (view_of s i v)) (phases.offered e i v) (one (leaves c a f e i v))
    channel_there =
        let was = view_there s i v port vc in
        let brought = offered_alike c part i v port in
        let goes = leaves_alike s part bytes accepted i v port vc in
        ap channel_of later_there ∙ (λ t. after_cycle (channel_of (sym was t)) (sym brought t) (one (sym goes t)))

    opened_there : (view_of later i v).opened ≡ open_after look (view_of s i v).opened (phases.offered e i v)
    opened_there =
        ap (λ (y : ChannelView). y.opened) later_there ∙ go (brings_on part i v) refl
        ∙ ap₂ (λ (y : ChannelView) (l : List Flit). open_after look y.opened l) (sym (view_there s i v port vc))
        (sym (offered_alike c part i v port))
      where
        go : (b : Bool) → brings_on part i v ≡ b
            → cond b (not (ends_kind (kind_at part i))) (channel_view s i v).opened
            ≡ open_after look (channel_view s i v).opened (cond b (flit_at part i ∷ []) [])
        go false p = refl
        go true p =
            let brought = (permitted s part before (accepted_none s part bytes accepted)).offers i port (both (brings part i) _ p).0 in
            ap (λ (n : ℕ). not (ends_kind n)) (sym (offered_kind c (sound_legal s before) part bytes i brought))

    bound_later_there : name_of (view_of later i v).bound
        ≡ bound_after look (leaves c a f e i v) (queue_now (channel_of (view_of s i v))) (bound_now c a f e i v)
    unfolding bound_now free_of
    bound_later_there =
        let was = view_there s i v port vc in
        let goes = leaves_alike s part bytes accepted i v port vc in
        let queue = queue_now (channel_of (channel_view s i v)) in
        let bound = sym (named_granted (grant_to came x) (channel_view s i v).bound)
        ∙ ap₂ (λ (g : Option free.OutVc) (y : ChannelView). granted g (name_of y.bound))
        (sym (grant_alike s part bytes accepted i v port vc))
        (sym was) in
        ap (λ (y : ChannelView). name_of y.bound) later_there
        ∙ named_cond (leaves_from mid x && front_ends queue) (now_bound (grant_to came x) (channel_view s i v).bound)
        ∙ ap₂ (λ (d : Bool) (b : Option free.OutVc). cond (leaves_from mid x && d) None b) (sym (ends_alike queue)) bound
        ∙ ap₂ (λ (l : Bool) (y : ChannelView). bound_after look l (queue_now (channel_of y)) (bound_now c a f e i v)) (sym goes) (sym was)

    credit_later_there : out_credit_of later i v ≡ out_credit_now f e i v - length (departures_on i v (entry (sizes_of c) f e k))
    unfolding out_credit_of
    credit_later_there =
        ap₂ (λ (b : Bool) (c : Config). cond b (output_at c later.outputs i v).credit later.config.downstream)
        (ap (λ (c : Config). is_there c i v) config_stays ∙ is_there-law c i v port vc) config_stays
        ∙ output_credit_steps s part bytes accepted i v port vc
        ∙ ap₂ (λ (n m : ℕ). n - m)
        (sym (credit_came s part bytes accepted i v port vc
        ∙ output_credit_after s part before (accepted_none s part bytes accepted) bytes i v port vc))
        (sym (departures_alike s part bytes accepted i v port vc))

  -- a channel that there is, or is not
  there_or_not : {B : Type 0} (i v : ℕ) → (i < c.ports → v < c.vcs → B) → (is_there c i v ≡ false → B) → B
  there_or_not {B} i v there beyond = go (is_there c i v) refl
    where
      go : (b : Bool) → is_there c i v ≡ b → B
      go true q = let p = both _ _ q in there (ltb-true i c.ports p.0) (ltb-true v c.vcs p.1)
      go false q = beyond q

  -- an accepted cycle is a step of the free router
  pub step_chosen : free_of (step_of s part).router
      ≡ step look (sizes_of s.config) (free_of s) (event_of s.config part)
      (chosen s.config s.arbiters (free_of s) (event_of s.config part))
  unfolding free_of chosen bound_now
  step_chosen =
      λ t.
      record {
        cycle = cycle_steps t;
        channel = λ i v. there_or_not i v (channel_there i v) (channel_beyond i v) t;
        opened = λ i v. there_or_not i v (opened_there i v) (opened_beyond i v) t;
        bound = λ i v. there_or_not i v (bound_later_there i v) (bound_later_beyond i v) t;
        out_credit = λ o w. there_or_not o w (credit_later_there o w) (credit_later_beyond o w) t;
      }
