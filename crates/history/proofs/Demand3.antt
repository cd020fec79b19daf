-- Demand 3 of the router that steps: any legal configuration, any list of cycle parts.
-- Assumes nothing.
use Rattle.std.specs.Prelude.{Ok}
use mathlib.Core.Path.{◌≡◌, refl, sym, ap, subst, ◌∙◌}
use mathlib.Core.List.{List, [], ◌∷◌, ◌++◌}
use Rattle.std.specs.Prelude.{None}
use Prim.Native.Nat.{ℕ, suc, ◌+◌, ◌-◌, ◌<◌}
use native.Mathlib.Omega.{arith}
use lib.ListN.{length}
use Rattle.base.specs.declared.config.Config.{Config}
use Rattle.base.specs.declared.flit.Flit.{Flit}
use Rattle.base.specs.Sizes.{illegal_field}
use Rattle.model.specs.Demand3 as model
use Rattle.model.specs.History.{History, up_to, accepted, left_from, flits}
use Rattle.model.specs.Lists as lists
use Rattle.model.proofs.Alike.{length_alike, demand_alike}
use Rattle.model.proofs.Demand3.{demand3_at}
use Rattle.state.specs.declared.Router.{Router}
use Rattle.state.specs.Channels.{ChannelView, channel_view}
use Rattle.state.specs.Sound.{Sound}
use Rattle.state.specs.Views.{input_at, wire_of, home_of, flat, total}
use Rattle.trace.specs.Bytes.{AreBytes}
use Rattle.rules.specs.Free.{look, sizes_of, channel_of, free_of}
use Rattle.rules.specs.Step.{step_of}
use Rattle.rules.proofs.ChosenViews.{view_there}
use Rattle.rules.proofs.Facts.{credits_sum}
use Rattle.history.specs.Run.{Ran, entry_of, recorded, run_of}
use Rattle.history.specs.Demand3.{InputDemand, Demand3, queue, on_wire}
use Rattle.history.proofs.Room.{queue_counted}
use Rattle.history.proofs.RunIs.{Runs, legal_delayed, accepted_runs, run_runs}

-- the lists and sums of both crates
flat_same : {A : Type 0} (xs : List (List A)) → flat xs ≡ lists.flat xs
unfolding flat
flat_same [] = refl
flat_same {A} (x ∷ xs) = ap (λ (l : List A). x ++ l) (flat_same xs)

total_same : (ns : List ℕ) → total ns ≡ lists.total ns
unfolding total
total_same [] = refl
total_same (n ∷ ns) = ap (λ (m : ℕ). n + m) (total_same ns)

-- what demand 3 says of the free router's view of a sound router, it says of the router
module _ (s : Router) (sound : Sound s) (h : History Flit) (t : ℕ) where
  abbrev c : Config
  c = s.config

  input_demand : (i v : ℕ) → i < c.ports → v < c.vcs → model.InputDemand look (sizes_of c) (channel_of (channel_view s i v)) h t i v
      → InputDemand c s h t i v
  input_demand i v port vc d =
      let credit = (input_at c s.inputs i v).credit in
      let sum = credits_sum c s.inputs s.wire s.home sound.flow.credits i v port vc in
      let stored : credit ≡ c.depth - (c.depth - credit) = omega arith in
      let wire : on_wire c s i v ≡ lists.flat (wire_of c s.wire i v) = flat_same (wire_of c s.wire i v) in
      let home = total_same (home_of c s.home i v) in
      let queued = queue_counted s sound i v port vc in
      record {
        wire = ap length wire ∙ d.wire;
        buffers = ap (λ (n : ℕ). n + length (left_from i v (up_to t 0 h))) (sym queued) ∙ d.buffered;
        home = home ∙ d.home;
        credits = ap (λ (n : ℕ). n + length (accepted i v (up_to t 0 h))) stored ∙ d.credits;
        depth = (λ x. stored x + length (wire x) + sym queued x + home x) ∙ d.depth;
        order = ap (λ (l : List Flit). flits (left_from i v h) ++ queue c s i v ++ l) wire ∙ d.order;
        queued = queued;
        ports = d.ports;
        destinations = d.destinations;
      }

  router_demand : model.Demand3 look (sizes_of c) (free_of s) h t → Demand3 c s h t
  unfolding free_of
  router_demand d =
      record {
        cycles = d.cycles;
        names = d.names;
        inputs = λ i v p q.
            input_demand i v p q (subst (λ (ch : ChannelView). model.InputDemand look (sizes_of c) (channel_of ch) h t i v)
            (view_there s i v p q) (d.inputs i v p q));
        outputs = d.outputs;
      }

-- so it holds wherever a run of a legal configuration has come to, after its last accepted cycle t
runs_demand : (c : Config) → illegal_field c ≡ None → (r : Ran) → Runs c r → (t : ℕ) → length r.history ≡ suc t
    → Demand3 c r.router r.history t
runs_demand c legal r runs t count =
    subst (λ (d : Config). Demand3 d r.router r.history t) runs.config
    (router_demand r.router runs.sound r.history t
    (subst (λ (d : Config). model.Demand3 look (sizes_of d) (free_of r.router) r.history t) (sym runs.config)
    (demand_alike look (sizes_of c) runs.by_input r.history runs.alike t (free_of r.router)
    (demand3_at look (sizes_of c) (legal_delayed c legal) runs.run t
    (length_alike runs.by_input r.history runs.alike ∙ count)))))

module _ (c : Config) (legal : illegal_field c ≡ None) (parts : List (List ℕ)) (bytes : lists.All AreBytes parts) where
  -- A run of any parts, refused ones skipped, of which t is the last accepted cycle.
  pub demand3 : (t : ℕ) → length (run_of c parts).history ≡ suc t → Demand3 c (run_of c parts).router (run_of c parts).history t
  demand3 t count = runs_demand c legal (run_of c parts) (run_runs c legal parts bytes) t count

  -- The same of one more cycle: "After each accepted cycle", whatever came before it.
  pub demand3_after : (part : List ℕ) → AreBytes part → (step_of (run_of c parts).router part).verdict ≡ Ok tt
      → Demand3 c (step_of (run_of c parts).router part).router
      (entry_of c (length (run_of c parts).history) part (step_of (run_of c parts).router part).reply ∷ (run_of c parts).history)
      (length (run_of c parts).history)
  demand3_after part next accepted =
      runs_demand c legal (recorded c part (run_of c parts) (Ok tt) (step_of (run_of c parts).router part))
      (accepted_runs c (run_of c parts) part next (run_runs c legal parts bytes) accepted) (length (run_of c parts).history) refl
