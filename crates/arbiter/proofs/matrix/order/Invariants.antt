-- `arbiter::matrix::order` meets its contract: the rows passed are the list of the fresh ones.
-- Assumes nothing.
use Rattle.std.proofs.Common.{◌≡◌, take}
use Rattle.arbiter.specs.Matrix.{list_of, fresh_row}
use Rattle.arbiter.proofs.matrix.order.Given as goal

abbrev pub invariant-loop-i : goal.invariant-loop-i
invariant-loop-i l = take l.i l.rows ≡ list_of (fresh_row l.n) l.i
