-- `edges::cycles::run_full` meets its contract.
-- Assumes nothing.
use Rattle.edges.proofs.Limits.{full_refused}
use Rattle.edges.proofs.cycles.run_full.Goals as goal

pub refused-requires : goal.refused-requires
refused-requires c = full_refused c.turns-end.result c.turns-end.ensures _

pub refused-requires-2 : goal.refused-requires-2
refused-requires-2 c = full_refused c.turns-end.result c.turns-end.ensures _
