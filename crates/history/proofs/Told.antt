-- What the reply of an accepted cycle reports at the outputs: it left by an output that there is and from an input VC that there is, one
-- flit at most at each output. Only that the cycle is accepted is asked.
-- Assumes nothing.
use Rattle.std.specs.Prelude.{Option, None, Ok}
use mathlib.Core.Path.{◌≡◌, refl, sym, ap, subst}
use mathlib.Core.Logic.{◌≢◌}
use mathlib.Core.Bool.{Bool, true, false, cond}
use mathlib.Core.List.{List, [], ◌∷◌}
use Rattle.std.specs.Prelude.{Some}
use Prim.Native.Nat.{ℕ, ◌≤◌, ◌<◌}
use native.Mathlib.Omega.{arith}
use lib.ListN.{length, get_or}
use Rattle.base.specs.declared.config.Config.{Config}
use Rattle.base.specs.declared.flit.Flit.{Flit}
use Rattle.base.specs.declared.reply.Departure as reply
use Rattle.base.specs.declared.reply.Reply.{Reply}
use Rattle.model.specs.History.{Departure}
use Rattle.model.specs.Lists.{keep, All}
use Rattle.model.proofs.Lists.{keep_one, all_each}
use Rattle.state.specs.declared.Router.{Router}
use Rattle.trace.specs.Bytes.{AreBytes}
use Rattle.rules.specs.Allocation.{allocated}
use Rattle.rules.specs.Intake.{credits_reached, credits_returned, landed, offers_taken}
use Rattle.rules.specs.Step.{taken_in, step_of}
use Rattle.rules.proofs.Accepted.{readied}
use Rattle.rules.proofs.Departed.{reported_exits}
use Rattle.rules.proofs.Exits.{exit_is}
use Rattle.history.specs.Run.{departure_in, departures_in}
use Rattle.history.proofs.Printable.{left_there}
use Rattle.history.proofs.Sorted.{Inside}

module _ (s : Router) (part : List ℕ) (bytes : AreBytes part) (accepted : (step_of s part).verdict ≡ Ok tt) where
  abbrev c : Config
  c = s.config

  abbrev told : Reply
  told = (step_of s part).reply

  abbrev left_at : ℕ → Option reply.Departure
  left_at o = (get_or told.outputs o None)

  -- what is reported left a VC that there is
  left_inside : (o : ℕ) → All (Inside c.ports c.vcs) (departure_in o (left_at o))
  unfolding allocated taken_in offers_taken landed credits_returned credits_reached
  left_inside o = go (left_at o) refl
    where
      go : (l : Option reply.Departure) → left_at o ≡ l → All (Inside c.ports c.vcs) (departure_in o l)
      go None q = tt
      go (Some d) q =
          let r = reported_exits s part bytes accepted o d q in
          let wins = (exit_is (readied part s) o r.0 r.1).wins in
          let input = ap (λ (x : reply.Departure). x.input) r.2 in
          let vc = ap (λ (x : reply.Departure). x.vc) r.2 in
          ((omega (arith, wins.input_below, input), omega (arith, wins.vc_below, vc)), tt)

  pub told_inside : All (Inside c.ports c.vcs) (departures_in c told)
  told_inside = all_each _ c.ports (λ o. departure_in o (left_at o)) (λ o l. left_inside o)

  module _ (p : Departure Flit → Bool) (o : ℕ) (fails : (d : Departure Flit) → d.output ≢ o → p d ≡ false) where
    -- a test that only what left by output o can pass, passes of all what it passes there
    pub told_at : keep p (departures_in c told) ≡ keep p (departure_in o (left_at o))
    told_at =
        keep_one p c.ports (λ q. departure_in q (left_at q)) o (λ q ne. other q ne (left_at q)) (beyond (left_at o) refl)
      where
        other : (q : ℕ) → q ≢ o → (l : Option reply.Departure) → keep p (departure_in q l) ≡ []
        other q ne None = refl
        other q ne (Some d) = ap (λ (b : Bool). cond b (departure_in q (Some d)) []) (fails _ ne)

        beyond : (l : Option reply.Departure) → left_at o ≡ l → ¬ (o < c.ports) → keep p (departure_in o l) ≡ []
        beyond None q out = refl
        beyond (Some d) q out = absurd (out (left_there s part bytes accepted o d q))

    -- and that is one at most
    pub told_once : length (keep p (departures_in c told)) ≤ 1
    told_once = subst (λ (l : List (Departure Flit)). length l ≤ 1) (sym told_at) (go (left_at o))
      where
        one : (b : Bool) (d : Departure Flit) → length (cond b (d ∷ []) []) ≤ 1
        one true d = omega arith
        one false d = omega arith

        go : (l : Option reply.Departure) → length (keep p (departure_in o l)) ≤ 1
        go None = omega arith
        go (Some d) = one (p _) _
