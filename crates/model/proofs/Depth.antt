-- The private depth: all that demand 3 draws from the send rule. Another rule for sharing out an input's slots swaps this file.
-- Assumes nothing.
use mathlib.Core.Path.{◌≡◌, sym, ap, ◌∙◌}
use Prim.Native.Nat.{ℕ, ◌+◌, ◌≤◌, ◌<◌}
use native.Mathlib.Omega.{arith}
use lib.ListN.{length, length-append, drop}
use Rattle.model.specs.Lists.{flat}
use Rattle.model.specs.Sizes.{Config, Delayed}
use Rattle.model.specs.Flit.{Look}
use Rattle.model.specs.Channel.{taken_now, queue_now, on_wire, stored}
use Rattle.model.specs.Router.{Router}
use Rattle.model.specs.Cycle.{Event, Choice}
use Rattle.model.specs.History.{History}
use Rattle.model.specs.Phases.{offered}
use Rattle.model.specs.Legal.{Legal}
use Rattle.model.specs.Run.{Run, start, accept}
use Rattle.model.proofs.Cases.{offered_cases}
use Rattle.model.proofs.Flow.{taken_is}
use Rattle.model.proofs.Invariant.{inv_run, still_held}

module _ {Flit : Type 0} (look : Look Flit) (c : Config) where
  -- A flit is taken only where a slot is left.
  taken_more : (s : Router Flit) (e : Event Flit) (k : Choice) → Legal look c s e k → (i v : ℕ) → (s.channel i v).taken ≤ c.depth →
      taken_now (s.channel i v) + length (offered e i v) ≤ c.depth
  taken_more s e k legal i v fits =
      offered_cases i v e (λ fs. taken_now (s.channel i v) + length fs ≤ c.depth) (omega arith)
      (λ b q w. let paid : taken_now (s.channel i v) < c.depth = rw w at (legal.paid i b q) in omega arith)

  -- No more slots are taken than there are.
  pub taken_fits : {s : Router Flit} {h : History Flit} → Run look c s h → (i v : ℕ) → (s.channel i v).taken ≤ c.depth
  taken_fits start i v = omega arith
  taken_fits (accept {s = s} run e k legal) i v = taken_more s e k legal i v (taken_fits run i v)

  -- "stored credits, D less [what is taken]", with nothing cut off.
  pub stored_and_taken : {s : Router Flit} {h : History Flit} → Run look c s h → (i v : ℕ)
      → stored c (s.channel i v) + (s.channel i v).taken ≡ c.depth
  stored_and_taken run i v = omega (arith, taken_fits run i v)

  -- "A queue can't overflow": not even after phase 3, before a flit leaves.
  pub queue_fits : Delayed c → {s : Router Flit} {h : History Flit} → Run look c s h → (i v : ℕ)
      → length (queue_now (s.channel i v)) ≤ c.depth
  queue_fits delayed {s = s} {h = h} run i v =
      let ch = s.channel i v in
      let all : length ch.queue + length (on_wire ch) ≡ length (queue_now ch) + length (flat (drop 1 ch.wire)) = sym
      (length-append ch.queue (on_wire ch)) ∙ ap length (still_held ch) ∙ length-append (queue_now ch) (flat (drop 1 ch.wire)) in
      omega (arith, taken_fits run i v, taken_is c delayed ch h i v ((inv_run look c delayed run).flow i v))
