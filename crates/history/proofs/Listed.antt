-- The history of a run and its list are one: as many flits left in the history as the list has F lines of the accepted cycles, and it has
-- as many entries as the router counts cycles, which are 10^9 at most. Of any configuration and any parts, each a list of bytes.
-- Assumes nothing.
use Rattle.std.specs.Prelude.{Ok, Err}
use mathlib.Core.Path.{◌≡◌, refl, sym, ap, subst, ◌∙◌}
use mathlib.Core.List.{List, [], ◌∷◌}
use Prim.Native.Nat.{ℕ, suc, ◌+◌, ◌≤◌, zero-le}
use native.Mathlib.Omega.{arith}
use lib.ListN.{length, length-append}
use Rattle.base.specs.declared.config.Config.{Config}
use Rattle.base.specs.declared.flit.Flit.{Flit}
use Rattle.base.specs.Sizes.{cycle_limit}
use Rattle.listing.specs.Lines.{cycle_lines, flit_lines}
use Rattle.listing.proofs.Counting.{flit_lines_append}
use Rattle.model.specs.History.{Entry, gather}
use Rattle.model.specs.Lists.{All}
use Rattle.state.specs.Fresh.{fresh_router}
use Rattle.state.proofs.Legal.{sound_cycle}
use Rattle.trace.specs.Bytes.{AreBytes}
use Rattle.base.specs.Refusal.{Verdict}
use Rattle.rules.specs.Step.{step_of}
use Rattle.rules.proofs.ChosenStep.{config_stays, cycle_steps}
use Rattle.rules.proofs.StepSound.{accepted_after}
use Rattle.history.specs.Listed.{departed, lines_then, lines_from}
use Rattle.history.specs.Run.{entry_of, Ran, recorded, cycled, run_from, run_of}
use Rattle.history.proofs.NoneLost.{departures_all}

-- where a run of configuration c has come to, sound or not: the router counts the entries, and they are not too many
record Counts (c : Config) (r : Ran) : Type 0 where
  config : r.router.config ≡ c
  count : r.router.cycle ≡ length r.history
  limit : length r.history ≤ cycle_limit

module _ (c : Config) (r : Ran) (part : List ℕ) (bytes : AreBytes part) (counts : Counts c r) where
  accepted_counts : (step_of r.router part).verdict ≡ Ok tt → Counts c (recorded c part r (Ok tt) (step_of r.router part))
  accepted_counts e =
      let count = cycle_steps r.router part bytes e ∙ ap suc counts.count in
      record {
        config = config_stays r.router part bytes e ∙ counts.config;
        count = count;
        limit = subst (λ (n : ℕ). n ≤ cycle_limit) count (sound_cycle (accepted_after r.router part bytes e));
      }

  -- the entry of an accepted cycle has one departure for each of its F lines
  accepted_departed : (step_of r.router part).verdict ≡ Ok tt
      → departed (recorded c part r (Ok tt) (step_of r.router part)).history
      ≡ departed r.history + flit_lines (cycle_lines r.router.cycle (step_of r.router part).reply)
  accepted_departed e =
      let now = entry_of c (length r.history) part (step_of r.router part).reply in
      let same : entry_of r.router.config r.router.cycle part (step_of r.router part).reply ≡ now =
      λ t. entry_of (counts.config t) (counts.count t) part (step_of r.router part).reply in
      let all = ap (λ (x : Entry Flit). length x.departures) (sym same) ∙ departures_all r.router part bytes e in
      omega (arith, length-append (gather (λ (x : Entry Flit). x.departures) r.history) now.departures, all)

-- from anywhere in a run on: what left, and what is counted
from_departed : (c : Config) (r : Ran) (parts : List (List ℕ)) → All AreBytes parts → Counts c r
    → departed (run_from c r parts).history ≡ departed r.history + flit_lines (lines_from r.router parts)
unfolding run_from lines_from flit_lines
from_departed c r [] bytes counts = omega arith
from_departed c r (part ∷ parts) bytes counts =
    go (step_of r.router part).verdict refl (λ q k. from_departed c q parts bytes.1 k)
  where
    go : (v : Verdict) → (step_of r.router part).verdict ≡ v
        → ((q : Ran) → Counts c q → departed (run_from c q parts).history ≡ departed q.history + flit_lines (lines_from q.router parts))
        → departed (run_from c (recorded c part r v (step_of r.router part)) parts).history
        ≡ departed r.history + flit_lines (lines_then v (step_of r.router part) r.router (λ t. lines_from t parts))
    go (Ok _) e more =
        let x = step_of r.router part in
        omega (
          arith,
          more (recorded c part r (Ok tt) x) (accepted_counts c r part bytes.0 counts e),
          accepted_departed c r part
              bytes.0 counts e,
          flit_lines_append (cycle_lines r.router.cycle x.reply) (lines_from x.router parts),
        )
    go (Err n) e more = more r counts

from_counts : (c : Config) (r : Ran) (parts : List (List ℕ)) → All AreBytes parts → Counts c r → Counts c (run_from c r parts)
unfolding run_from
from_counts c r [] bytes counts = counts
from_counts c r (part ∷ parts) bytes counts = from_counts c (cycled c r part) parts bytes.1 (go (step_of r.router part).verdict refl)
  where
    go : (v : Verdict) → (step_of r.router part).verdict ≡ v → Counts c (recorded c part r v (step_of r.router part))
    go (Ok _) e = accepted_counts c r part bytes.0 counts e
    go (Err n) e = counts

module _ (c : Config) (parts : List (List ℕ)) (bytes : All AreBytes parts) where
  abbrev fresh : Ran
  fresh = record { router = fresh_router c; history = [] }

  starts : Counts c fresh
  unfolding fresh_router
  starts = record { config = refl; count = refl; limit = zero-le }

  -- The flits that left in the history of a run are the F lines of its accepted cycles.
  pub run_departed : departed (run_of c parts).history ≡ flit_lines (lines_from (fresh_router c) parts)
  unfolding run_of
  run_departed = omega (arith, from_departed c fresh parts bytes starts)

  -- The history has one entry for each cycle that the router counts.
  pub run_counted : length (run_of c parts).history ≡ (run_of c parts).router.cycle
  unfolding run_of
  run_counted = sym (from_counts c fresh parts bytes starts).count

  -- "At most 1,000,000,000 accepted cycles in a run"
  pub run_limited : length (run_of c parts).history ≤ cycle_limit
  unfolding run_of
  run_limited = (from_counts c fresh parts bytes starts).limit
