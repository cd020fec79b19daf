-- `router::judge::first_wrong_row` meets its contract.
-- Assumes nothing.
use Rattle.std.proofs.Common.{◌≡◌, ℕ, ◌<◌, false}
use Rattle.rules.specs.Numbers.{row_wrong}
use Rattle.router.proofs.judge.first_wrong_row.Given as goal

abbrev pub invariant-loop-i : goal.invariant-loop-i
invariant-loop-i l = (j : ℕ) → j < l.i → row_wrong l.config l.part j ≡ false
