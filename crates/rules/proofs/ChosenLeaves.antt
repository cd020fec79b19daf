-- Phases 6 and 7 in both views: whose front flit leaves.
-- Assumes nothing.
use Rattle.std.specs.Prelude.{Ok}
use mathlib.Core.Path.{◌≡◌, refl, sym, ap, ap₂, ◌∙◌}
use mathlib.Core.Logic.{◌⊎◌, inl, inr}
use mathlib.Core.Bool.{Bool, true, false, ◌&&◌, false≢true}
use mathlib.Core.List.{List}
use Rattle.std.specs.Prelude.{Option, Some, None}
use Prim.Native.Nat.{ℕ, ◌<◌}
use lib.Dec.{ltb}
use borrow.Author.Tests.{eqb-true, eq-eqb, ltb-true}
use Rattle.base.specs.declared.config.Config.{Config}
use Rattle.base.specs.declared.flit.Flit.{Flit}
use Rattle.base.proofs.Search.{both}
use Rattle.model.specs.Cycle.{Event}
use Rattle.model.specs.Router as free
use Rattle.state.specs.declared.OutVc.{OutVc}
use Rattle.state.specs.declared.Arbiters.{Arbiters}
use Rattle.state.specs.declared.Binding.{Binding}
use Rattle.state.specs.declared.Binding.TheVariants.{Unbound, Bound}
use Rattle.state.specs.declared.Router.{Router}
use Rattle.state.specs.Channels.{bound_to, is_there}
use Rattle.state.specs.Views.{channel_number, input_at}
use Rattle.trace.specs.Bytes.{AreBytes}
use Rattle.rules.specs.Allocation.{allocated, input_pick, output_pick, winning, vc_of, winner}
use Rattle.rules.specs.Chosen.{names, bound_now, input_winner, wins_at, leaves}
use Rattle.rules.specs.Free.{name_of, free_of, event_of}
use Rattle.rules.specs.Intake.{credits_reached, credits_returned, landed, offers_taken}
use Rattle.rules.specs.Step.{taken_in, step_of}
use Rattle.rules.proofs.Accepted.{readied}
use Rattle.rules.proofs.Acts.{Actor, Untouched, touched_or_not}
use Rattle.rules.proofs.Channels.{channel_apart}
use Rattle.rules.proofs.Choices.{leaves_from, leaves_from-law, none_leaves}
use Rattle.rules.proofs.ChosenViews.{is_there-law}
use Rattle.rules.proofs.ChosenWinners.{agree_now, bound_alike, input_alike, output_alike}
use Rattle.rules.proofs.Exits.{exit, exit_is, winner_exits}
use Rattle.rules.proofs.Left.{from_place}
use Rattle.rules.proofs.Winners.{winner_picked}

-- an option that names a number is that number
names_is : (n : ℕ) (o : Option ℕ) → names n o ≡ true → o ≡ Some n
names_is n None q = absurd (false≢true q)
names_is n (Some m) q = ap Some (eqb-true m n q)

module _ (s : Router) (part : List ℕ) (bytes : AreBytes part) (accepted : (step_of s part).verdict ≡ Ok tt) where
  abbrev c : Config
  c = s.config

  abbrev mid : Router
  mid = readied part s

  abbrev a : Arbiters
  a = s.arbiters

  abbrev f : free.Router Flit
  f = free_of s

  abbrev e : Event Flit
  e = event_of c part

  -- VC v of input i wins the output that it is bound to
  pub record Goes (i v : ℕ) : Type 0 where
    pub port : i < c.ports
    pub vc : v < c.vcs
    pub to : OutVc
    pub bound : (input_at c mid.inputs i v).binding ≡ Bound to
    pub won : winner mid to.output ≡ Some (record { input = i; vc = v })

  -- it leaves exactly then
  pub leaves_goes : (i v : ℕ) → leaves c a f e i v ≡ true → Goes i v
  unfolding leaves winner
  leaves_goes i v q =
      let p = both _ (wins_at c a f e i (bound_now c a f e i v)) q in
      let r = both (is_there c i v) (names v (input_winner c a f e i)) p.0 in
      let t = both (ltb i c.ports) (ltb v c.vcs) r.0 in
      let port = ltb-true i c.ports t.0 in
      let vc = ltb-true v c.vcs t.1 in
      let picks : input_pick mid i ≡ Some v = sym (input_alike s part bytes accepted i port) ∙ names_is v (input_winner c a f e i) r.1 in
      go port vc picks (input_at c mid.inputs i v).binding refl
      (sym (ap (wins_at c a f e i) (bound_alike s part bytes accepted i v port vc)) ∙ p.1)
    where
      go : i < c.ports → v < c.vcs → input_pick mid i ≡ Some v → (b : Binding) → (input_at c mid.inputs i v).binding ≡ b
          → wins_at c a f e i (name_of (bound_to b)) ≡ true → Goes i v
      go port vc picks Unbound b w = absurd (false≢true w)
      go port vc picks (Bound to) b w =
          let row : output_pick mid to.output ≡ Some i = sym (output_alike s part bytes accepted to.output) ∙ names_is i _ w in
          record { port = port; vc = vc; to = to; bound = b; won = ap (vc_of (input_pick mid)) row ∙ ap (winning i) picks }

  pub goes_leaves : (i v o w : ℕ) → i < c.ports → v < c.vcs → (input_at c mid.inputs i v).binding ≡ Bound (record { output = o; vc = w })
      → winner mid o ≡ Some (record { input = i; vc = v }) → leaves c a f e i v ≡ true
  unfolding leaves
  goes_leaves i v o w port vc bound won =
      let p = winner_picked mid o (record { input = i; vc = v }) won in
      ap₂ ◌&&◌
      (ap₂ ◌&&◌ (is_there-law c i v port vc)
      (ap (names v) (input_alike s part bytes accepted i port ∙ p.1) ∙ eq-eqb v v refl))
      (ap (wins_at c a f e i) (bound_alike s part bytes accepted i v port vc ∙ ap (λ (b : Binding). name_of (bound_to b)) bound)
      ∙ ap (names i) (output_alike s part bytes accepted o ∙ p.0)
      ∙ eq-eqb i i refl)

  -- whose front leaves
  pub leaves_alike : (i v : ℕ) → i < c.ports → v < c.vcs → leaves c a f e i v ≡ leaves_from mid (channel_number c i v)
  unfolding allocated taken_in offers_taken landed credits_returned credits_reached
  leaves_alike i v port vc = go (touched_or_not (exit mid) (from_place mid) c.ports (channel_number c i v))
    where
      stays : Untouched (exit mid) (from_place mid) c.ports (channel_number c i v) → (b : Bool) → leaves c a f e i v ≡ b → b ≡ false
      stays off false q = refl
      stays off true q =
          let g = leaves_goes i v q in
          let x = winner_exits mid g.to.output (record { input = i; vc = v }) g.won in
          let there = ((agree_now s part bytes accepted).bound i v port vc g.to g.bound).0 in
          absurd (off g.to.output x.0 there x.1 (ap₂ (channel_number c) x.2 x.3))

      go : Actor (exit mid) (from_place mid) c.ports (channel_number c i v) ⊎ Untouched (exit mid) (from_place mid) c.ports
          (channel_number c i v)
          → leaves c a f e i v ≡ leaves_from mid (channel_number c i v)
      go (inl d) =
          let x = exit_is mid d.port d.deed d.acts in
          let from = channel_apart c d.deed.input d.deed.vc i v x.wins.vc_below vc d.there in
          goes_leaves i v d.port d.deed.by port vc
          (ap₂ (λ (i v : ℕ). (input_at c mid.inputs i v).binding) (sym from.0) (sym from.1) ∙ x.bound)
          (x.won ∙ ap₂ (λ (i v : ℕ). Some (record { input = i; vc = v })) from.0 from.1)
          ∙ sym (leaves_from-law mid (channel_number c i v) d)
      go (inr off) = stays off (leaves c a f e i v) refl ∙ sym (none_leaves mid (channel_number c i v) off)

  -- what there is not does not leave
  pub leaves_beyond : (i v : ℕ) → is_there c i v ≡ false → leaves c a f e i v ≡ false
  unfolding leaves
  leaves_beyond i v out = ap (λ (b : Bool). b && names v (input_winner c a f e i) && wins_at c a f e i (bound_now c a f e i v)) out
