-- Demand 3 of every run.
-- Assumes nothing.
use mathlib.Core.Path.{◌≡◌, refl, ap, subst, ◌∙◌}
use mathlib.Core.List.{[], ◌∷◌}
use Prim.Native.Nat.{ℕ, suc}
use native.Mathlib.Omega.{arith}
use lib.ListN.{length, drop, take}
use Rattle.model.specs.Sizes.{Config, Delayed}
use Rattle.model.specs.Flit.{Look}
use Rattle.model.specs.Router.{Router}
use Rattle.model.specs.Channel.{on_wire}
use Rattle.model.specs.History.{Entry, History, Numbered, up_to, after, accepted, left_from}
use Rattle.model.specs.Run.{Run}
use Rattle.model.specs.Demand3.{Demand3, InputDemand, ByHeadsPort}
use Rattle.model.proofs.Numbers.{after_newest, up_to_older}
use Rattle.model.proofs.Flow.{wire_newest, home_newest, queue_older, taken_is, all_in_order}
use Rattle.model.proofs.Reading.{reading_packets}
use Rattle.model.proofs.Invariant.{Inv, inv_run}
use Rattle.model.proofs.Depth.{stored_and_taken}
use Rattle.model.proofs.Destinations.{left_by_destination}
use Rattle.model.proofs.Limits.{names_in_range}

module _ {Flit : Type 0} (look : Look Flit) (c : Config) (delayed : Delayed c) {s : Router Flit} {h : History Flit}
    (run : Run look c s h) (t : ℕ)
    (cycles : Numbered (suc t) h) where
  inv : Inv look c s h
  inv = inv_run look c delayed run

  input_demand : (i v : ℕ) → InputDemand look c (s.channel i v) h t i v
  input_demand i v =
      let ch = s.channel i v in
      let flow = inv.flow i v in
      let newest : (n : ℕ) → after t n h ≡ take n h = λ n. after_newest t n h cycles in
      let older : (n : ℕ) → up_to t n h ≡ drop n h = λ n. up_to_older t n h cycles in
      let sum = stored_and_taken look c run i v in
      let order = all_in_order c delayed ch h i v flow in
      let ports = reading_packets look (ByHeadsPort look) (inv.place i v).inside (left_from i v h) (inv.place i v).left in
      record {
        wire = rw (newest c.forward) (ap length (wire_newest c delayed ch h i v flow));
        buffered = rw (older c.forward, older 0) (queue_older c delayed ch h i v flow);
        home = rw (newest c.back) (home_newest c delayed ch h i v flow);
        credits = rw (older c.back, older 0) (omega (arith, flow.taken));
        slots = sum;
        depth = omega (arith, taken_is c delayed ch h i v flow);
        order = order;
        ports = ports;
        destinations = left_by_destination look (left_from i v h) ch.queue (on_wire ch) (accepted i v h) ports order;
      }

  demand : Demand3 look c s h t
  demand =
      record {
        cycles = cycles;
        names = names_in_range look c delayed run;
        inputs = λ i v p q. input_demand i v;
        outputs = λ o w p q. inv.outputs (record { output = o; vc = w });
      }

-- a numbered history has as many entries as its newest number says
numbered_length : {Flit : Type 0} (n : ℕ) (h : History Flit) → Numbered n h → n ≡ length h
numbered_length n [] e = e
numbered_length n (x ∷ h) e = e.0 ∙ ap suc (numbered_length x.cycle h e.1)

module _ {Flit : Type 0} (look : Look Flit) (c : Config) (delayed : Delayed c) {s : Router Flit} where
  -- After each accepted cycle of any run, whose entry is the newest of the history.
  pub demand3 : {h : History Flit} {now : Entry Flit} → Run look c s (now ∷ h) → Demand3 look c s (now ∷ h) now.cycle
  demand3 {now = now} run = demand look c delayed run now.cycle (refl, (inv_run look c delayed run).numbered.1)

  -- That cycle is t where t + 1 were accepted.
  pub demand3_at : {h : History Flit} → Run look c s h → (t : ℕ) → length h ≡ suc t → Demand3 look c s h t
  demand3_at {h = h} run t count =
      let numbered = (inv_run look c delayed run).numbered in
      demand look c delayed run t (subst (λ (n : ℕ). Numbered n h) (numbered_length s.cycle h numbered ∙ count) numbered)
