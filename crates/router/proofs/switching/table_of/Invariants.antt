-- `router::switching::table_of` meets its contract.
-- Assumes nothing.
use Rattle.router.proofs.Columns.{RowsSoFar}
use Rattle.router.proofs.switching.table_of.Given as goal

abbrev pub invariant-loop-i : goal.invariant-loop-i
invariant-loop-i l = RowsSoFar l.config l.inputs l.picks l.table l.i
