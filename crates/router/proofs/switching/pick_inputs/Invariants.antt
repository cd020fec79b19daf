-- `router::switching::pick_inputs` meets its contract.
-- Assumes nothing.
use Rattle.std.proofs.Common.{◌≡◌, ℕ, length, ◌*◌, ◌/◌, ◌^◌, ◌<◌}
use Rattle.router.specs.Picks.{pick_in}
use Rattle.router.proofs.Choosing.{input_choice}
use Rattle.router.proofs.switching.pick_inputs.Given as goal

abbrev pub invariant-loop-i : goal.invariant-loop-i
invariant-loop-i l =
    (length l.picks ≡ 8) × (l.left ≡ l.ready / 2 ^ (l.i * l.config.vcs))
    × ((j : ℕ) → j < l.i → pick_in l.picks j ≡ input_choice l.config l.ready l.arbiters j)
