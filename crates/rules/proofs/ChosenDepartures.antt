-- What leaves by an output VC, in both views: at most one flit, from the one input VC that is bound to it.
-- Assumes nothing.
use Rattle.std.specs.Prelude.{Ok}
use mathlib.Core.Path.{◌≡◌, refl, sym, ap, ap₂, ◌∙◌}
use mathlib.Core.Logic.{◌⊎◌, inl, inr}
use mathlib.Core.Bool.{Bool, true, false, false≢true}
use mathlib.Core.List.{List, [], ◌∷◌}
use Rattle.std.specs.Prelude.{Option, Some}
use Rattle.std.proofs.lemmas.Option.{same_Some, none-some}
use Prim.Native.Nat.{ℕ, ◌<◌}
use lib.ListN.{length}
use borrow.Author.Tests.{ltb-true}
use Rattle.base.specs.declared.config.Config.{Config}
use Rattle.base.specs.declared.flit.Flit.{Flit}
use Rattle.base.proofs.Search.{both}
use Rattle.model.specs.Channel.{queue_now}
use Rattle.model.specs.Cycle.{Event}
use Rattle.model.specs.History.{Departure, Entry, departures_on}
use Rattle.model.specs.Phases.{leaving}
use Rattle.model.specs.Router as free
use Rattle.model.specs.Step.{entry}
use Rattle.model.proofs.Entries.{LeavesInside, entry_on, entry_source}
use Rattle.state.specs.declared.InVc.{InVc}
use Rattle.state.specs.declared.OutVc.{OutVc}
use Rattle.state.specs.declared.Arbiters.{Arbiters}
use Rattle.state.specs.declared.Binding.{Binding}
use Rattle.state.specs.declared.Binding.TheVariants.{Unbound, Bound}
use Rattle.state.specs.declared.InputVc.{InputVc}
use Rattle.state.specs.declared.Router.{Router}
use Rattle.state.specs.Channels.{bound_to, is_there}
use Rattle.state.specs.Views.{channel_number, input_at, output_at, queue_of}
use Rattle.trace.specs.Bytes.{AreBytes}
use Rattle.rules.specs.Allocation.{allocated, winner}
use Rattle.rules.specs.Chosen.{bound_now, leaves, chosen}
use Rattle.rules.specs.Free.{sizes_of, name_of, free_of, event_of}
use Rattle.rules.specs.Intake.{credits_reached, credits_returned, landed, offers_taken}
use Rattle.rules.specs.Step.{taken_in, step_of}
use Rattle.rules.proofs.Accepted.{readied, taken_sound, readied_sound}
use Rattle.rules.proofs.Acts.{Actor, Untouched, touched_or_not}
use Rattle.rules.proofs.AllocatedSound.{inputs_alike}
use Rattle.rules.proofs.Channels.{channel_apart}
use Rattle.rules.proofs.Choices.{passes_by, passes_by-law, none_passes}
use Rattle.rules.proofs.ChosenLeaves.{leaves_goes, goes_leaves}
use Rattle.rules.proofs.ChosenViews.{is_there-law, queue_came}
use Rattle.rules.proofs.ChosenWinners.{agree_now, bound_alike, bound_beyond}
use Rattle.rules.proofs.Exits.{Exit, exit, exit_is, winner_exits}
use Rattle.rules.proofs.Left.{by_place}
use Rattle.rules.proofs.LeavingViews.{one}
use Rattle.rules.proofs.LeftPackets.{exit_front}

-- a binding that is named so
named_is : (b : Binding) (o w : ℕ) → name_of (bound_to b) ≡ Some (record { output = o; vc = w }) → b ≡ Bound (record { output = o; vc = w })
named_is Unbound o w q = absurd (none-some _ q)
named_is (Bound b) o w q =
    let r = same_Some _ _ q in
    ap₂ (λ (o w : ℕ). Bound (record { output = o; vc = w })) (ap (λ (t : free.OutVc). t.output) r) (ap (λ (t : free.OutVc). t.vc) r)

-- two holders that are one
held_one : (i v j u : ℕ) → ◌≡◌ {A = Option InVc} (Some (record { input = i; vc = v })) (Some (record { input = j; vc = u }))
    → (i ≡ j) × (v ≡ u)
held_one i v j u q =
    let r : ◌≡◌ {A = InVc} (record { input = i; vc = v }) (record { input = j; vc = u }) = cc in
    (ap (λ (h : InVc). h.input) r, ap (λ (h : InVc). h.vc) r)

module _ (s : Router) (part : List ℕ) (bytes : AreBytes part) (accepted : (step_of s part).verdict ≡ Ok tt) where
  abbrev c : Config
  c = s.config

  abbrev came : Router
  came = taken_in part s

  abbrev mid : Router
  mid = readied part s

  abbrev a : Arbiters
  a = s.arbiters

  abbrev f : free.Router Flit
  f = free_of s

  abbrev e : Event Flit
  e = event_of c part

  -- the cycle's entry in the history
  abbrev now : Entry Flit
  now = entry (sizes_of c) f e (chosen c a f e)

  inside : LeavesInside (sizes_of c) f e (chosen c a f e)
  unfolding chosen
  inside i v q = let g = leaves_goes s part bytes accepted i v q in (g.port, g.vc)

  -- who is bound there is, and is the holder
  bound_holds : (i v o w : ℕ) → bound_now c a f e i v ≡ Some (record { output = o; vc = w })
      → (i < c.ports) × (v < c.vcs) × (o < c.ports) × (w < c.vcs)
      × ((output_at c mid.outputs o w).holder ≡ Some (record { input = i; vc = v }))
  bound_holds i v o w q = go (is_there c i v) refl
    where
      go : (b : Bool) → is_there c i v ≡ b → (i < c.ports) × (v < c.vcs) × (o < c.ports) × (w < c.vcs)
          × ((output_at c mid.outputs o w).holder ≡ Some (record { input = i; vc = v }))
      go false r = absurd (none-some _ (sym (bound_beyond s part bytes accepted i v r) ∙ q))
      go true r =
          let p = both _ _ r in
          let port = ltb-true i c.ports p.0 in
          let vc = ltb-true v c.vcs p.1 in
          let named = (agree_now s part bytes accepted).bound i v port vc (record { output = o; vc = w })
          (named_is (input_at c mid.inputs i v).binding o w (sym (bound_alike s part bytes accepted i v port vc) ∙ q)) in
          (port, vc, named.0, named.1, named.2)

  pub queue_now-law : (i v : ℕ) → i < c.ports → v < c.vcs
      → queue_now (f.channel i v) ≡ queue_of c mid.store i v (input_at c mid.inputs i v).queued
  unfolding allocated taken_in offers_taken landed credits_returned credits_reached
  queue_now-law i v port vc =
      queue_came s part bytes accepted i v port vc
      ∙ ap (queue_of c came.store i v)
      (sym (inputs_alike came (taken_sound s part bytes accepted) (λ (y : InputVc). y.queued) (λ o w y. refl) (channel_number c i v)))

  -- one flit leaves by the VC that an exit is by
  exit_counts : (o : ℕ) (d : Exit) → o < c.ports → exit mid o ≡ Some d → length (departures_on o d.by now) ≡ 1
  unfolding chosen bound_now allocated taken_in offers_taken landed credits_returned credits_reached
  exit_counts o d port q =
      let x = exit_is mid o d q in
      let i = d.input in
      let v = d.vc in
      let h = x.wins.input_below in
      let g = x.wins.vc_below in
      let to : bound_now c a f e i v ≡ Some (record { output = o; vc = d.by }) =
      bound_alike s part bytes accepted i v h g ∙ ap (λ (b : Binding). name_of (bound_to b)) x.bound in
      let goes = goes_leaves s part bytes accepted i v o d.by h g x.bound x.won in
      let front = queue_now-law i v h g ∙ exit_front mid (readied_sound s part bytes accepted) i v h g
      (record { port = o; deed = d; below = port; acts = q; there = refl }) in
      ap length (entry_on (sizes_of c) f e (chosen c a f e) inside i v (record { output = o; vc = d.by }) to
      (λ j u r. let k = bound_holds j u o d.by r in held_one j u i v (sym k.4 ∙ (bound_holds i v o d.by to).4)))
      ∙ ap₂ (λ (l : Bool) (b : Option free.OutVc). length (leaving i v l b (queue_now (f.channel i v)))) goes to
      ∙ ap (λ (l : List Flit). length (leaving i v true (Some (record { output = o; vc = d.by })) l)) front

  -- an input VC that leaves, bound so, is an exit by that VC
  leaves_by : (i v o w : ℕ) → leaves c a f e i v ≡ true → (input_at c mid.inputs i v).binding ≡ Bound (record { output = o; vc = w })
      → (x : Exit) × (exit mid o ≡ Some x) × (x.by ≡ w)
  unfolding allocated taken_in offers_taken landed credits_returned credits_reached
  leaves_by i v o w q bound =
      let g = leaves_goes s part bytes accepted i v q in
      let x = winner_exits mid o (record { input = i; vc = v })
      (ap (λ (t : OutVc). winner mid t.output) (bound_one _ _ (sym bound ∙ g.bound)) ∙ g.won) in
      let y = exit_is mid o x.0 x.1 in (
        x.0,
        x.1,
        ap (λ (t : OutVc). t.vc) (bound_one _ _ (sym y.bound
            ∙ ap₂ (λ (i v : ℕ). (input_at c mid.inputs i v).binding) x.2 x.3 ∙ bound)),
      )
    where
      bound_one : (b d : OutVc) → Bound b ≡ Bound d → b ≡ d
      bound_one b d k = cc

  -- whatever leaves by an output VC is an exit by it
  left_exits : (o w : ℕ) (d : Departure Flit) (ds : List (Departure Flit)) → departures_on o w now ≡ d ∷ ds
      → (o < c.ports) × (w < c.vcs) × (x : Exit) × (exit mid o ≡ Some x) × (x.by ≡ w)
  unfolding chosen bound_now
  left_exits o w d ds q =
      let r = entry_source (sizes_of c) f e (chosen c a f e) (record { output = o; vc = w }) d ds q in
      from r.0 r.1 r.2 r.3
    where
      from : (i v : ℕ) → leaves c a f e i v ≡ true → bound_now c a f e i v ≡ Some (record { output = o; vc = w })
          → (o < c.ports) × (w < c.vcs) × (x : Exit) × (exit mid o ≡ Some x) × (x.by ≡ w)
      from i v l b =
          let k = bound_holds i v o w b in
          let x = leaves_by i v o w l
          (named_is (input_at c mid.inputs i v).binding o w (sym (bound_alike s part bytes accepted i v k.0 k.1) ∙ b)) in
          (k.2, k.3, x.0, x.1, x.2)

  -- as many leave by an output VC
  pub departures_alike : (o w : ℕ) → o < c.ports → w < c.vcs → length (departures_on o w now) ≡ one (passes_by mid (channel_number c o w))
  unfolding allocated taken_in offers_taken landed credits_returned credits_reached
  departures_alike o w port vc = go (touched_or_not (exit mid) (by_place mid) c.ports (channel_number c o w))
    where
      none_leave : Untouched (exit mid) (by_place mid) c.ports (channel_number c o w) → (l : List (Departure Flit))
          → departures_on o w now ≡ l
          → length l ≡ 0
      none_leave off [] q = refl
      none_leave off (d ∷ ds) q =
          let x = left_exits o w d ds q in
          absurd (off o x.2 port x.3 (ap (channel_number c o) x.4))

      go : Actor (exit mid) (by_place mid) c.ports (channel_number c o w) ⊎ Untouched (exit mid) (by_place mid) c.ports
          (channel_number c o w)
          → length (departures_on o w now) ≡ one (passes_by mid (channel_number c o w))
      go (inl d) =
          let x = exit_is mid d.port d.deed d.acts in
          let by = ((agree_now s part bytes accepted).bound d.deed.input d.deed.vc x.wins.input_below x.wins.vc_below
          (record { output = d.port; vc = d.deed.by }) x.bound).1 in
          let at = channel_apart c d.port d.deed.by o w by vc d.there in
          ap₂ (λ (o w : ℕ). length (departures_on o w now)) (sym at.0) (sym at.1)
          ∙ exit_counts d.port d.deed d.below d.acts
          ∙ ap one (sym (passes_by-law mid (channel_number c o w) d))
      go (inr off) = none_leave off (departures_on o w now) refl ∙ ap one (sym (none_passes mid (channel_number c o w) off))

  -- none leaves by an output VC that there is not
  pub departures_beyond : (o w : ℕ) → is_there c o w ≡ false → length (departures_on o w now) ≡ 0
  departures_beyond o w out = go (departures_on o w now) refl
    where
      go : (l : List (Departure Flit)) → departures_on o w now ≡ l → length l ≡ 0
      go [] q = refl
      go (d ∷ ds) q =
          let x = left_exits o w d ds q in
          absurd (false≢true (sym out ∙ is_there-law c o w x.0 x.1))
