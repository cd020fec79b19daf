-- `router::switching::pick_outputs` meets its contract.
-- Assumes nothing.
use Rattle.std.proofs.Common.{◌≡◌, ℕ, length, ◌<◌}
use Rattle.router.specs.Picks.{pick_in}
use Rattle.router.proofs.Columns.{output_choice}
use Rattle.router.proofs.switching.pick_outputs.Given as goal

abbrev pub invariant-loop-o : goal.invariant-loop-o
invariant-loop-o l =
    (length l.picks ≡ 8) × ((j : ℕ) → j < l.o → pick_in l.picks j ≡ output_choice l.config l.table l.arbiters j)
