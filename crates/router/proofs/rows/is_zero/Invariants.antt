-- `router::rows::is_zero` meets its contract.
-- Assumes nothing.
use Rattle.std.proofs.Common.{◌≡◌, ℕ, ◌<◌}
use Rattle.rules.specs.Rows.{row_byte}
use Rattle.router.proofs.rows.is_zero.Given as goal

abbrev pub invariant-loop-k : goal.invariant-loop-k
invariant-loop-k l = (j : ℕ) → j < l.k → row_byte l.part l.i j ≡ 0
