-- The arbiters after an accepted cycle, in both views: each of a port that there is has moved by its own pick.
-- Assumes nothing.
use Rattle.std.specs.Prelude.{Ok}
use Rattle.arbiter.specs.declared.Arbiter.{Arbiter}
use mathlib.Core.Path.{◌≡◌, sym, ap, ◌∙◌}
use mathlib.Core.Bool.{true}
use mathlib.Core.List.{List}
use Rattle.std.specs.Prelude.{Option}
use Prim.Native.Nat.{ℕ, ◌*◌, ◌≤◌, ◌<◌}
use native.Mathlib.Omega.{arith}
use lib.ListN.{get_or}
use Rattle.base.specs.declared.config.Config.{Config}
use Rattle.base.specs.declared.flit.Flit.{Flit}
use Rattle.base.proofs.Search.{both, every_at}
use Rattle.arbiter.specs.Arbiter.{after, sound}
use Rattle.model.specs.Cycle.{Event}
use Rattle.model.specs.Router as free
use Rattle.state.specs.declared.Arbiters.{Arbiters}
use Rattle.state.specs.declared.Router.{Router}
use Rattle.state.specs.Fresh.{past_arbiter}
use Rattle.state.specs.Sound.{arbiters_sound}
use Rattle.state.specs.Views.{vc_arbiter, input_arbiter, output_arbiter}
use Rattle.trace.specs.Bytes.{AreBytes}
use Rattle.rules.specs.declared.Stepped.{Stepped}
use Rattle.rules.specs.Allocation.{grant_of, requester_of, arbiters_moved, allocated, input_pick, output_pick, switched}
use Rattle.rules.specs.Chosen.{vc_arbiter_after, input_arbiter_after, output_arbiter_after}
use Rattle.rules.specs.Free.{free_of, event_of}
use Rattle.rules.specs.Intake.{credits_reached, credits_returned, landed, offers_taken}
use Rattle.rules.specs.Step.{taken_in, sent_out, router_after, step_of}
use Rattle.rules.proofs.Accepted.{readied, accepted_before, accepted_steps}
use Rattle.rules.proofs.Arbiters.{each_at, sound_there}
use Rattle.rules.proofs.ChosenBinds.{binds_alike}
use Rattle.rules.proofs.ChosenWinners.{input_alike, output_alike}

-- a sound arbiter of a port that there is, after its own pick
module _ (places : ℕ) (room : 1 ≤ places) (c : Config) (n : ℕ) (pick : ℕ → Option ℕ) (i : ℕ) (port : i < c.ports) where
  moved_at : (xs : List (Arbiter places)) → sound places c.arbiter n (get_or xs i past_arbiter) ≡ true
      → get_or (arbiters_moved places c n pick xs) i past_arbiter ≡ after places c.arbiter n (pick i) (get_or xs i past_arbiter)
  unfolding arbiters_moved
  moved_at xs ok =
      each_at past_arbiter (λ o a. after places c.arbiter n (pick o) a) c.ports xs i port (sound_there places c.arbiter n room xs i ok)

module _ (s : Router) (part : List ℕ) (bytes : AreBytes part) (accepted : (step_of s part).verdict ≡ Ok tt) where
  abbrev c : Config
  c = s.config

  abbrev came : Router
  came = taken_in part s

  abbrev mid : Router
  mid = readied part s

  abbrev a : Arbiters
  a = s.arbiters

  abbrev f : free.Router Flit
  f = free_of s

  abbrev e : Event Flit
  e = event_of c part

  -- the arbiters of port i are sound before the cycle
  sound_at : (i : ℕ) → i < c.ports
      → (sound 32 c.arbiter (c.ports * c.vcs) (vc_arbiter a i) ≡ true)
      × (sound 8 c.arbiter c.vcs (input_arbiter a i) ≡ true)
      × (sound 8 c.arbiter c.ports (output_arbiter a i) ≡ true)
  unfolding arbiters_sound
  sound_at i port =
      let p = both _ (sound 8 c.arbiter c.ports (output_arbiter a i))
      (every_at c.ports _ (accepted_before s part bytes accepted).arbitration.arbiters i port) in
      let q = both (sound 32 c.arbiter (c.ports * c.vcs) (vc_arbiter a i))
      (sound 8 c.arbiter c.vcs (input_arbiter a i))
      p.0 in
      (q.0, q.1, p.1)

  -- an output's arbiter over all input VCs
  pub vc_arbiter_steps : (o : ℕ) → o < c.ports → (vc_arbiter (step_of s part).router.arbiters o) ≡ vc_arbiter_after c a f e o
  unfolding vc_arbiter_after router_after sent_out switched allocated taken_in offers_taken landed credits_returned credits_reached
  vc_arbiter_steps o port =
      ap (λ (y : Stepped). (vc_arbiter y.router.arbiters o)) (accepted_steps s part bytes accepted)
      ∙ moved_at 32 (omega arith) c (c.ports * c.vcs) (λ (o : ℕ). requester_of (grant_of came o)) o port a.vcs (sound_at o port).0
      ∙ ap (λ (p : Option ℕ). after 32 c.arbiter (c.ports * c.vcs) p (vc_arbiter a o))
      (sym (binds_alike s part bytes accepted o port))

  -- an input's over its VCs
  pub input_arbiter_steps : (i : ℕ) → i < c.ports → (input_arbiter (step_of s part).router.arbiters i)
      ≡ input_arbiter_after c a f e i
  unfolding input_arbiter_after router_after sent_out switched allocated taken_in offers_taken landed credits_returned credits_reached
  input_arbiter_steps i port =
      ap (λ (y : Stepped). (input_arbiter y.router.arbiters i)) (accepted_steps s part bytes accepted)
      ∙ moved_at 8 (omega arith) c c.vcs (input_pick mid) i port a.inputs (sound_at i port).1
      ∙ ap (λ (p : Option ℕ). after 8 c.arbiter c.vcs p (input_arbiter a i))
      (sym (input_alike s part bytes accepted i port))

  -- an output's over the inputs
  pub output_arbiter_steps : (o : ℕ) → o < c.ports → (output_arbiter (step_of s part).router.arbiters o)
      ≡ output_arbiter_after c a f e o
  unfolding output_arbiter_after router_after sent_out switched allocated taken_in offers_taken landed credits_returned credits_reached
  output_arbiter_steps o port =
      ap (λ (y : Stepped). (output_arbiter y.router.arbiters o)) (accepted_steps s part bytes accepted)
      ∙ moved_at 8 (omega arith) c c.ports (output_pick mid) o port a.outputs (sound_at o port).2
      ∙ ap (λ (p : Option ℕ). after 8 c.arbiter c.ports p (output_arbiter a o)) (sym (output_alike s part bytes accepted o))
