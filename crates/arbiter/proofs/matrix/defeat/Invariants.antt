-- `arbiter::matrix::defeat` meets its contract: the loop raises the rows one by one, and the last store clears the winner's.
-- Assumes nothing.
use Rattle.std.proofs.Common.{◌≡◌}
use Rattle.arbiter.specs.Matrix.{raised}
use Rattle.arbiter.proofs.matrix.defeat.Given as goal

abbrev pub invariant-loop-j : goal.invariant-loop-j
invariant-loop-j l = l.rows ≡ raised l.w l.j l.initial.rows
