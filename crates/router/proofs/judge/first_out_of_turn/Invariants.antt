-- `router::judge::first_out_of_turn` meets its contract.
-- Assumes nothing.
use Rattle.std.proofs.Common.{◌≡◌, ℕ, ◌<◌, false}
use Rattle.rules.specs.Numbers.{out_of_turn}
use Rattle.router.proofs.judge.first_out_of_turn.Given as goal

abbrev pub invariant-loop-i : goal.invariant-loop-i
invariant-loop-i l = (j : ℕ) → j < l.i → out_of_turn l.config l.inputs l.part j ≡ false
