-- The run of the router that steps is a run of the free router, and the history that its parts and replies write is alike to that run's:
-- the free router lists the departures of a cycle input by input, a reply output by output.
-- Assumes nothing.
use Rattle.std.specs.Prelude.{Ok, Err}
use mathlib.Core.Path.{◌≡◌, refl, sym, ap, subst, subst₂, ◌∙◌}
use mathlib.Core.List.{List, [], ◌∷◌}
use Rattle.std.specs.Prelude.{None}
use Prim.Native.Nat.{ℕ, suc}
use lib.ListN.{length}
use Rattle.base.specs.declared.config.Config.{Config}
use Rattle.base.specs.declared.flit.Flit.{Flit}
use Rattle.base.specs.Sizes.{illegal_field}
use Rattle.base.proofs.Configurations.{legal_exact}
use Rattle.model.specs.Alike.{SameCycle, Alike}
use Rattle.model.specs.History.{Entry, History}
use Rattle.model.specs.Lists.{All}
use Rattle.model.specs.Router as free
use Rattle.model.specs.Run.{Run, start, accept}
use Rattle.model.specs.Sizes.{Delayed}
use Rattle.model.specs.Step.{entry}
use Rattle.state.specs.declared.Router.{Router}
use Rattle.state.specs.Fresh.{fresh_router}
use Rattle.state.specs.Sound.{Sound}
use Rattle.state.proofs.FreshIsSound.{fresh_is_sound}
use Rattle.trace.specs.Bytes.{AreBytes}
use Rattle.base.specs.Refusal.{Verdict}
use Rattle.rules.specs.Free.{look, sizes_of, free_of, event_of}
use Rattle.rules.specs.Step.{step_of}
use Rattle.rules.proofs.ChosenStep.{config_stays, cycle_steps, step_chosen}
use Rattle.rules.proofs.StepSound.{accepted_after}
use Rattle.history.specs.Run.{entry_of, Ran, recorded, cycled, run_from, run_of}
use Rattle.history.proofs.Choice.{choice_of}
use Rattle.history.proofs.Entry.{entry_is}
use Rattle.history.proofs.Fresh.{fresh_free}
use Rattle.history.proofs.LegalStep.{legal_step}

-- where a run of configuration c has come to: a sound router that a run of the free router leads to, whose history is alike
pub record Runs (c : Config) (r : Ran) : Type 0 where
  pub config : r.router.config ≡ c
  pub count : r.router.cycle ≡ length r.history
  pub sound : Sound r.router
  pub by_input : History Flit  -- the free router's, which lists a cycle's departures input by input
  pub run : Run look (sizes_of c) (free_of r.router) by_input
  pub alike : Alike by_input r.history

-- the free router's entry of a cycle
abbrev entry_by : Router → List ℕ → Entry Flit
entry_by s part = entry (sizes_of s.config) (free_of s) (event_of s.config part) (choice_of s part)

-- an accepted cycle is a cycle of the free router's run
run_accepts : (s : Router) (h : History Flit) (part : List ℕ) → AreBytes part → (step_of s part).verdict ≡ Ok tt
    → Run look (sizes_of s.config) (free_of s) h
    → Run look (sizes_of s.config) (free_of (step_of s part).router) (entry_by s part ∷ h)
run_accepts s h part bytes accepted run =
    subst (λ (r : free.Router Flit). Run look (sizes_of s.config) r (entry_by s part ∷ h)) (sym (step_chosen s part bytes accepted))
    (accept run (event_of s.config part) (choice_of s part) (legal_step s part bytes accepted))

module _ (c : Config) (r : Ran) (part : List ℕ) (bytes : AreBytes part) (runs : Runs c r) where
  -- an accepted cycle keeps it so
  pub accepted_runs : (step_of r.router part).verdict ≡ Ok tt → Runs c (recorded c part r (Ok tt) (step_of r.router part))
  accepted_runs e =
      record {
        config = config_stays r.router part bytes e ∙ runs.config;
        count = cycle_steps r.router part bytes e ∙ ap suc runs.count;
        sound = accepted_after r.router part bytes e;
        by_input = entry_by r.router part ∷ runs.by_input;
        run = subst (λ (d : Config).
            Run look (sizes_of d) (free_of (step_of r.router part).router) (entry_by r.router part ∷ runs.by_input)) runs.config
            (run_accepts r.router runs.by_input part bytes e
            (subst (λ (d : Config). Run look (sizes_of d) (free_of r.router) runs.by_input) (sym runs.config) runs.run));
        alike = (
          subst₂ (λ (d : Config) (n : ℕ). SameCycle (entry_by r.router part) (entry_of d n part (step_of r.router part).reply))
              runs.config
              runs.count (entry_is r.router part bytes e),
          runs.alike,
        );
      }

  -- and a refused one changes nothing
  cycle_runs : Runs c (cycled c r part)
  cycle_runs = go (step_of r.router part).verdict refl
    where
      go : (v : Verdict) → (step_of r.router part).verdict ≡ v → Runs c (recorded c part r v (step_of r.router part))
      go (Ok _) e = accepted_runs e
      go (Err n) e = runs

from_runs : (c : Config) (r : Ran) (parts : List (List ℕ)) → All AreBytes parts → Runs c r → Runs c (run_from c r parts)
unfolding run_from
from_runs c r [] bytes runs = runs
from_runs c r (part ∷ parts) bytes runs = from_runs c (cycled c r part) parts bytes.1 (cycle_runs c r part bytes.0 runs)

-- "Forward delay F 1..8, credit delay B 1..8": no delay is zero
pub legal_delayed : (c : Config) → illegal_field c ≡ None → Delayed (sizes_of c)
legal_delayed c legal = let l = (legal_exact c).0 legal in record { on_the_way = l.forward.0; on_the_way_home = l.back.0 }

module _ (c : Config) (legal : illegal_field c ≡ None) (parts : List (List ℕ)) (bytes : All AreBytes parts) where
  pub run_runs : Runs c (run_of c parts)
  unfolding run_of fresh_router
  run_runs =
      let l = (legal_exact c).0 legal in
      from_runs c (record { router = fresh_router c; history = [] }) parts bytes (record {
        config = refl;
        count = refl;
        sound = fresh_is_sound c l;
        by_input = [];
        run = subst (λ (r : free.Router Flit). Run look (sizes_of c) r []) (sym (fresh_free c l)) start;
        alike = tt;
      })

  -- any list of parts, each a list of bytes, is a run of the free router, with a history that is alike: what crates/model proves of every
  -- run holds of it
  pub run_is : (h : History Flit) × Run look (sizes_of c) (free_of (run_of c parts).router) h × Alike h (run_of c parts).history
  run_is = (run_runs.by_input, run_runs.run, run_runs.alike)
