-- The entry of an accepted cycle: what is read off its part and its reply is the free router's entry, but that this lists the departures
-- input by input.
-- Assumes nothing.
use Rattle.std.specs.Prelude.{Ok}
use mathlib.Core.Path.{◌≡◌, refl, sym, ap, ap₂, subst, ◌∙◌}
use mathlib.Core.Bool.{Bool, true, false, cond, ◌&&◌, true≢false}
use mathlib.Core.List.{List, [], ◌∷◌}
use Rattle.std.specs.Prelude.{Option, Some, None}
use Prim.Native.Nat.{ℕ, zero, suc, ◌+◌, ◌<◌}
use native.Mathlib.Omega.{arith}
use lib.ListN.{get_or, replicate}
use borrow.Author.Tests.{lt-ltb, eq-eqb, ne_eqb}
use Rattle.base.specs.declared.config.Config.{Config}
use Rattle.base.specs.declared.flit.Flit.{Flit}
use Rattle.base.specs.declared.reply.Departure as reply
use Rattle.model.specs.Channel as model
use Rattle.model.specs.Channel.{queue_now}
use Rattle.model.specs.Alike.{SameCycle}
use Rattle.model.specs.History.{Departure, Entry, same}
use Rattle.model.specs.Lists.{keep, each}
use Rattle.model.specs.Phases.{bound_now, leaving, departure}
use Rattle.model.specs.Step.{offers_at, credits_at, entry}
use Rattle.model.proofs.Entries.{same_own, same_other, same_true}
use Rattle.model.proofs.Lists.{keep_each, each_none, each_one}
use Rattle.state.specs.declared.Router.{Router}
use Rattle.state.specs.Channels.{ChannelView}
use Rattle.state.specs.Sound.{Sound}
use Rattle.state.specs.Views.{channel_number, home_place, to_vc}
use Rattle.trace.specs.Bytes.{AreBytes}
use Rattle.rules.specs.declared.Stepped.{Stepped}
use Rattle.rules.specs.Allocation.{allocated}
use Rattle.rules.specs.Chosen.{chosen}
use Rattle.rules.specs.Free.{sizes_of, channel_of, free_of, event_of}
use Rattle.rules.specs.Intake.{credits_reached, credits_returned, landed, offers_taken}
use Rattle.rules.specs.Ports.{named}
use Rattle.rules.specs.Rows.{credit_at, brings, vc_at, flit_at}
use Rattle.rules.specs.Step.{taken_in, reply_of, step_of}
use Rattle.rules.proofs.Accepted.{readied, accepted_before, accepted_steps, readied_sound}
use Rattle.rules.proofs.Choices.{leaves_from-law}
use Rattle.rules.proofs.ChosenLeaves.{leaves_alike}
use Rattle.rules.proofs.ChosenViews.{view_there}
use Rattle.rules.proofs.Departed.{report_of, reported_exits, exits_reported}
use Rattle.rules.proofs.Exits.{Exit, exit, exits_differ}
use Rattle.rules.proofs.Facts.{sound_legal, home_at}
use Rattle.rules.proofs.IntakeChannel.{home_out}
use Rattle.rules.proofs.Named.{named_there}
use Rattle.rules.proofs.Reported.{reported_at}
use Rattle.history.specs.Run.{offer_in, departure_in, departures_in, reached_in, entry_of}
use Rattle.history.proofs.Choice.{choice_of}
use Rattle.history.proofs.LegalLeaves.{leaves_exits, departure_is}
use Rattle.history.proofs.Sorted.{each_ext, from, sorted, sorted_from, sorted_few, sorted_many}
use Rattle.history.proofs.Told.{told_inside, told_once}
use Rattle.history.proofs.Written.{exit_written}

-- of all VCs of an input, the named one's credit reaches its sender
reached_named : (n i place : ℕ) → ((v : ℕ) → named place ≡ Some v → v < n)
    → each n (λ v. replicate (to_vc v place) (record { input = i; vc = v })) ≡ reached_in i (named place)
reached_named n i zero near =
    each_none n (λ v. replicate (to_vc v 0) (record { input = i; vc = v })) (λ v l.
    ap (λ (b : Bool). replicate (cond b 1 0) (record { input = i; vc = v })) (ne_eqb 0 (v + 1) (λ e. omega arith)))
reached_named n i (suc u) near =
    each_one n (λ v. replicate (to_vc v (suc u)) (record { input = i; vc = v })) u (near u refl) (λ v l ne.
    ap (λ (b : Bool). replicate (cond b 1 0) (record { input = i; vc = v })) (ne_eqb (suc u) (v + 1) (λ e. ne (omega arith))))
    ∙ ap (λ (b : Bool). replicate (cond b 1 0) (record { input = i; vc = u })) (eq-eqb (suc u) (u + 1) (omega arith))

module _ (s : Router) (part : List ℕ) (bytes : AreBytes part) (accepted : (step_of s part).verdict ≡ Ok tt) where
  abbrev c : Config
  c = s.config

  -- the router after phase 5
  abbrev mid : Router
  mid = readied part s

  sound : Sound mid
  sound = readied_sound s part bytes accepted

  offers_same : (i : ℕ) → i < c.ports → offers_at i ((event_of c part).offer i) ≡ offer_in part i
  unfolding event_of
  offers_same i h =
      ap (λ (t : Bool). offers_at i (cond (t && brings part i) (Some (record { vc = vc_at part i; flit = flit_at part i })) None))
      (lt-ltb i c.ports h)
      ∙ go (brings part i)
    where
      go : (b : Bool) → offers_at i (cond b (Some (record { vc = vc_at part i; flit = flit_at part i })) None)
          ≡ cond b (record { input = i; vc = vc_at part i; flit = flit_at part i } ∷ []) []
      go true = refl
      go false = refl

  credits_same : (o : ℕ) → o < c.ports → credits_at o ((event_of c part).credit o) ≡ credits_at o (named (credit_at part o))
  unfolding event_of
  credits_same o h = ap (λ (t : Bool). credits_at o (cond t (named (credit_at part o)) None)) (lt-ltb o c.ports h)

  -- a credit that reaches its sender is reported
  reached_same : (i : ℕ) → i < c.ports
      → each c.vcs (λ v. replicate (model.reaching ((free_of s).channel i v)) (record { input = i; vc = v }))
      ≡ reached_in i (get_or (step_of s part).reply.senders i None)
  unfolding free_of reply_of
  reached_same i h =
      let before = accepted_before s part bytes accepted in
      let legal = sound_legal s before in
      each_ext c.vcs (λ v. replicate (model.reaching ((free_of s).channel i v)) (record { input = i; vc = v }))
      (λ v. replicate (to_vc v (home_place s.home 0 i)) (record { input = i; vc = v })) (λ v g.
      ap (λ (n : ℕ). replicate n (record { input = i; vc = v })) (ap (λ (ch : ChannelView). model.reaching (channel_of ch))
      (view_there s i v h g)
      ∙ home_out c i v s.home legal.back.0))
      ∙ reached_named c.vcs i (home_place s.home 0 i) (λ v e. named_there (home_place s.home 0 i) c.vcs v
      (home_at s before 0 i legal.back.0 h) e)
      ∙ ap (reached_in i) ((sym (reported_at c s.home i h legal.ports.1))
      ∙ ap (λ (x : Stepped). (get_or x.reply.senders i None)) (sym (accepted_steps s part bytes accepted)))

  module _ (i v : ℕ) (port : i < c.ports) (vc : v < c.vcs) where
    -- what the reply reports at output o, and of it what left VC v of input i
    abbrev left_at : ℕ → Option reply.Departure
    left_at o = (get_or (step_of s part).reply.outputs o None)

    abbrev found : ℕ → List (Departure Flit)
    found o = keep (from i v) (departure_in o (left_at o))

    -- an output at which nothing is reported that the rules let leave from there
    none_found : (o : ℕ) → ((e : Exit) → exit mid o ≡ Some e → e.input ≡ i → e.vc ≡ v → ⊥) → found o ≡ []
    none_found o off = go (left_at o) refl
      where
        go : (l : Option reply.Departure) → left_at o ≡ l → keep (from i v) (departure_in o l) ≡ []
        go None q = refl
        go (Some d) q = test (same d.input d.vc i v) refl
          where
            test : (t : Bool) → same d.input d.vc i v ≡ t → cond t (departure_in o (Some d)) [] ≡ []
            test true t =
                let r = reported_exits s part bytes accepted o d q in
                let here = same_true d.input d.vc i v t in
                absurd (off r.0 r.1 (ap (λ (x : reply.Departure). x.input) r.2 ∙ here.0)
                (ap (λ (x : reply.Departure). x.vc) r.2 ∙ here.1))
            test false t = refl

    departures_same : departure (free_of s) (choice_of s part) i v ≡ keep (from i v) (departures_in c (step_of s part).reply)
    unfolding chosen allocated taken_in offers_taken landed credits_returned credits_reached
    departures_same =
        go ((choice_of s part).leaves i v) refl ∙ sym (keep_each (from i v) c.ports (λ o. departure_in o (left_at o)))
      where
        go : (l : Bool) → (choice_of s part).leaves i v ≡ l → departure (free_of s) (choice_of s part) i v ≡ each c.ports found
        go true q =
            let g = leaves_exits s part bytes accepted i v q in
            let o = g.output in
            let e = g.deed in
            let only = each_one c.ports found o g.below (λ p l ne. none_found p (λ f r a b.
            ne (exits_differ mid p o f e r g.acts (a ∙ sym g.input)))) in
            let written = exit_written mid sound o e g.below g.acts in
            let there = exits_reported s part bytes accepted o e g.below g.acts in
            let is : same e.input e.vc i v ≡ true = ap₂ (λ (j u : ℕ). same j u i v) g.input g.vc ∙ same_own i v in
            departure_is s part bytes accepted i v q
            ∙ (λ t. record { output = o; out_vc = e.by; input = sym g.input t; vc = sym g.vc t; flit = written t } ∷ [])
            ∙ ap (λ (b : Bool). cond b (departure_in o (Some (report_of e))) []) (sym is)
            ∙ ap (λ (l : Option reply.Departure). keep (from i v) (departure_in o l)) (sym there) ∙ sym only
        go false q =
            ap (λ (l : Bool). leaving i v l (bound_now (free_of s) (choice_of s part) i v) (queue_now ((free_of s).channel i v))) q
            ∙ sym (each_none c.ports found (λ o l. none_found o (λ e r a b.
            let leaves = leaves_from-law mid (channel_number c i v) (record
            { port = o; deed = e; below = l; acts = r; there = ap₂ (channel_number c) a b }) in
            true≢false (sym (leaves_alike s part bytes accepted i v port vc ∙ leaves) ∙ q))))

  abbrev told : List (Departure Flit)
  told = departures_in c (step_of s part).reply

  -- the free router's entry, in words of part and reply: the same with its departures sorted by input VC
  abbrev by_input : Entry Flit → Entry Flit
  by_input e =
      record {
        cycle = e.cycle;
        offers = e.offers;
        departures = sorted c.ports c.vcs e.departures;
        reached = e.reached;
        credits = e.credits;
      }

  entry_sorted : entry (sizes_of c) (free_of s) (event_of c part) (choice_of s part)
      ≡ by_input (entry_of c s.cycle part (step_of s part).reply)
  unfolding entry_of free_of
  entry_sorted =
      let offers = each_ext c.ports (λ i. offers_at i ((event_of c part).offer i)) (λ i. offer_in part i) offers_same in
      let departures = each_ext c.ports (λ i. each c.vcs (λ v. departure (free_of s) (choice_of s part) i v))
      (λ i. each c.vcs (λ v. keep (from i v) told)) (λ i h.
      each_ext c.vcs (λ v. departure (free_of s) (choice_of s part) i v) (λ v. keep (from i v) told)
      (λ v g. departures_same i v h g)) in
      let reached = each_ext c.ports _ _ reached_same in
      let credits = each_ext c.ports _ _ credits_same in
      λ t. record { cycle = s.cycle; offers = offers t; departures = departures t; reached = reached t; credits = credits t }

  -- What the free router puts down for the cycle, and what its part and its reply say: the same offers and credits, of each input VC and of
  -- each output VC the same flits out, and none lost or doubled.
  pub entry_is : SameCycle (entry (sizes_of c) (free_of s) (event_of c part) (choice_of s part))
      (entry_of c s.cycle part (step_of s part).reply)
  unfolding entry_of
  entry_is =
      let there = told_inside s part bytes accepted in
      subst (λ (e : Entry Flit). SameCycle e (entry_of c s.cycle part (step_of s part).reply)) (sym entry_sorted) (record {
        cycle = refl;
        offers = refl;
        reached = refl;
        credits = refl;
        from = sorted_from c.ports c.vcs told there;
        on = λ o w. sorted_few c.ports c.vcs told there (λ (d : Departure Flit). same d.output d.out_vc o w)
            (told_once s part bytes accepted _ o (λ d ne. same_other d.output d.out_vc o w (λ e. ne e.0)));
        many = sorted_many c.ports c.vcs told there;
      })
