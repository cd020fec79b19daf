-- What the rules let leave in an accepted cycle is within the free router's limits: from a bound input VC with a flit, by an output VC
-- with a credit, at most one for each input and each output.
-- Assumes nothing.
use Rattle.std.specs.Prelude.{Ok}
use mathlib.Core.Path.{◌≡◌, refl, sym, ap, ap₂, subst, ◌∙◌}
use mathlib.Core.Bool.{Bool, true}
use mathlib.Core.List.{List, [], ◌∷◌}
use Rattle.std.specs.Prelude.{Some}
use Rattle.std.proofs.lemmas.Option.{same_Some}
use Prim.Native.Nat.{ℕ, ◌<◌}
use native.Mathlib.Omega.{arith}
use lib.ListN.{length}
use Rattle.base.specs.declared.config.Config.{Config}
use Rattle.base.specs.declared.flit.Flit.{Flit}
use Rattle.base.proofs.Search.{some_number}
use Rattle.model.specs.Channel.{queue_now}
use Rattle.model.specs.Router as free
use Rattle.model.specs.Phases.{bound_now, out_credit_now, leaving, departure}
use Rattle.state.specs.declared.OutVc.{OutVc}
use Rattle.state.specs.declared.Binding.{Binding}
use Rattle.state.specs.declared.Binding.TheVariants.{Bound}
use Rattle.state.specs.declared.OutputVc.{OutputVc}
use Rattle.state.specs.declared.Router.{Router}
use Rattle.state.specs.Channels.{bound_to}
use Rattle.state.specs.Sound.{Sound}
use Rattle.state.specs.Views.{channel_number, input_at, output_at, queue_of}
use Rattle.trace.specs.Bytes.{AreBytes}
use Rattle.rules.specs.Allocation.{allocated}
use Rattle.rules.specs.Chosen as second
use Rattle.rules.specs.Departures.{leaving_of}
use Rattle.rules.specs.Free.{name_of, free_of, event_of}
use Rattle.rules.specs.Intake.{credits_reached, credits_returned, landed, offers_taken}
use Rattle.rules.specs.Step.{taken_in, step_of}
use Rattle.rules.proofs.Accepted.{readied, taken_sound, readied_sound}
use Rattle.rules.proofs.AllocatedSound.{outputs_alike}
use Rattle.rules.proofs.ChosenDepartures.{queue_now-law}
use Rattle.rules.proofs.ChosenLeaves.{leaves_goes}
use Rattle.rules.proofs.ChosenViews.{credit_came}
use Rattle.rules.proofs.ChosenWinners.{bound_alike}
use Rattle.rules.proofs.Exits.{Exit, Exits, exit, exit_is, winner_exits, exits_differ}
use Rattle.rules.proofs.LeftNames.{exit_named}
use Rattle.rules.proofs.LeftPackets.{exit_front}
use Rattle.history.proofs.Choice.{choice_of}

module _ (s : Router) (part : List ℕ) (bytes : AreBytes part) (accepted : (step_of s part).verdict ≡ Ok tt) where
  abbrev c : Config
  c = s.config

  -- the router after phase 5
  abbrev mid : Router
  mid = readied part s

  sound : Sound mid
  sound = readied_sound s part bytes accepted

  -- a departure of the choice: the output by which it leaves, and what the rules let leave there
  pub record Exiting (i v : ℕ) : Type 0 where
    pub port : i < c.ports
    pub vc_there : v < c.vcs
    pub output : ℕ
    pub deed : Exit
    pub below : output < c.ports
    pub acts : exit mid output ≡ Some deed
    pub input : deed.input ≡ i
    pub vc : deed.vc ≡ v

  pub leaves_exits : (i v : ℕ) → (choice_of s part).leaves i v ≡ true → Exiting i v
  unfolding second.chosen allocated taken_in offers_taken landed credits_returned credits_reached
  leaves_exits i v q =
      let g = leaves_goes s part bytes accepted i v q in
      let x = winner_exits mid g.to.output (record { input = i; vc = v }) g.won in
      record {
        port = g.port;
        vc_there = g.vc;
        output = g.to.output;
        deed = x.0;
        below = (exit_named mid sound g.to.output x.0 x.1).0;
        acts = x.1;
        input = x.2;
        vc = x.3;
      }

  module _ (i v : ℕ) (q : (choice_of s part).leaves i v ≡ true) where
    abbrev it : Exiting i v
    it = leaves_exits i v q

    is : Exits mid it.output it.deed
    is = exit_is mid it.output it.deed it.acts

    -- it is bound to the output VC that it leaves by
    pub leaves_bound-law : bound_now (free_of s) (choice_of s part) i v ≡ Some (record { output = it.output; vc = it.deed.by })
    unfolding second.chosen second.bound_now allocated taken_in offers_taken landed credits_returned credits_reached
    leaves_bound-law =
        bound_alike s part bytes accepted i v it.port it.vc_there
        ∙ ap (λ (b : Binding). name_of (bound_to b))
        (ap₂ (λ (j u : ℕ). (input_at c mid.inputs j u).binding) (sym it.input) (sym it.vc) ∙ is.bound)

    -- its front is what the rules let leave
    pub leaves_front : queue_now ((free_of s).channel i v)
        ≡ it.deed.flit ∷ queue_of c (leaving_of mid).store i v (input_at c (leaving_of mid).inputs i v).queued
    unfolding allocated taken_in offers_taken landed credits_returned credits_reached
    leaves_front =
        queue_now-law s part bytes accepted i v it.port it.vc_there
        ∙ exit_front mid sound i v it.port it.vc_there (record {
          port = it.output;
          deed = it.deed;
          below = it.below;
          acts = it.acts;
          there = ap₂ (channel_number c) it.input it.vc;
        })

    pub leaves_flit-law : 0 < length (queue_now ((free_of s).channel i v))
    leaves_flit-law = subst (λ (l : List Flit). 0 < length l) (sym leaves_front) (omega arith)

    -- its output VC has a credit
    pub leaves_credit-law : (b : free.OutVc) → bound_now (free_of s) (choice_of s part) i v ≡ Some b
        → 0 < out_credit_now (free_of s) (event_of c part) b.output b.vc
    unfolding allocated taken_in offers_taken landed credits_returned credits_reached
    leaves_credit-law b p =
        let by : record { output = it.output; vc = it.deed.by } ≡ b = same_Some _ b (sym leaves_bound-law ∙ p) in
        let w = is.wins in
        let one : Bound w.to ≡ Bound (record { output = it.output; vc = it.deed.by }) = sym w.bound ∙ is.bound in
        let to : w.to ≡ record { output = it.output; vc = it.deed.by } = cc in
        let paid =
        credit_came s part bytes accepted it.output it.deed.by it.below
        (exit_named mid sound it.output it.deed it.acts).1
        ∙ sym (outputs_alike (taken_in part s) (taken_sound s part bytes accepted) (λ (y : OutputVc). y.credit) (λ i v y. refl)
        (channel_number c it.output it.deed.by)) in
        subst (λ (x : free.OutVc). 0 < out_credit_now (free_of s) (event_of c part) x.output x.vc) by
        (subst (λ (n : ℕ). 0 < n) (sym paid)
        (some_number (output_at c mid.outputs it.output it.deed.by).credit
        (λ e. w.credit (ap (λ (x : OutVc). (output_at c mid.outputs it.output x.vc).credit) to ∙ e))))

  -- a flit that leaves is one departure
  pub departure_is : (i v : ℕ) (q : (choice_of s part).leaves i v ≡ true)
      → departure (free_of s) (choice_of s part) i v
      ≡ record {
        output = (leaves_exits i v q).output;
        out_vc = (leaves_exits i v q).deed.by;
        input = i;
        vc = v;
        flit = (leaves_exits i v q).deed.flit;
      } ∷ []
  departure_is i v q =
      ap (λ (l : Bool). leaving i v l (bound_now (free_of s) (choice_of s part) i v) (queue_now ((free_of s).channel i v))) q
      ∙ ap₂ (leaving i v true) (leaves_bound-law i v q) (leaves_front i v q)

  -- two departures from one input are one
  pub leaves_input_once : (i v u : ℕ) → (choice_of s part).leaves i v ≡ true → (choice_of s part).leaves i u ≡ true → v ≡ u
  leaves_input_once i v u p q =
      let x = leaves_exits i v p in
      let y = leaves_exits i u q in
      let o = exits_differ mid x.output y.output x.deed y.deed x.acts y.acts (x.input ∙ sym y.input) in
      let deed : x.deed ≡ y.deed = same_Some x.deed y.deed (sym x.acts ∙ ap (exit mid) o ∙ y.acts) in
      sym x.vc ∙ ap (λ (e : Exit). e.vc) deed ∙ y.vc

  -- two departures by one output are one
  pub leaves_output_once : (i v j u : ℕ) (a b : free.OutVc) → (choice_of s part).leaves i v ≡ true → (choice_of s part).leaves j u ≡ true
      → bound_now (free_of s) (choice_of s part) i v ≡ Some a → bound_now (free_of s) (choice_of s part) j u ≡ Some b → a.output ≡ b.output
      → (i ≡ j) × (v ≡ u)
  leaves_output_once i v j u a b p q f g same =
      let x = leaves_exits i v p in
      let y = leaves_exits j u q in
      let at : record { output = x.output; vc = x.deed.by } ≡ a = same_Some _ a (sym (leaves_bound-law i v p) ∙ f) in
      let bt : record { output = y.output; vc = y.deed.by } ≡ b = same_Some _ b (sym (leaves_bound-law j u q) ∙ g) in
      let o : x.output ≡ y.output = ap (λ (z : free.OutVc). z.output) at ∙ same ∙ ap (λ (z : free.OutVc). z.output) (sym bt) in
      let deed : x.deed ≡ y.deed = same_Some x.deed y.deed (sym x.acts ∙ ap (exit mid) o ∙ y.acts) in
      (sym x.input ∙ ap (λ (e : Exit). e.input) deed ∙ y.input, sym x.vc ∙ ap (λ (e : Exit). e.vc) deed ∙ y.vc)
