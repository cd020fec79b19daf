-- `edges::cycles::refused_offers` meets its contract.
-- Assumes nothing.
use Rattle.edges.proofs.Limits.{offers_refused}
use Rattle.edges.proofs.cycles.refused_offers.Goals as goal

pub refused-requires : goal.refused-requires
refused-requires c = (offers_refused c.busy.result c.busy.ensures).0

pub refused-requires-2 : goal.refused-requires-2
refused-requires-2 c = (offers_refused c.busy-2.result c.busy-2.ensures).1

pub refused-requires-3 : goal.refused-requires-3
refused-requires-3 c = (offers_refused c.busy-3.result c.busy-3.ensures).2

pub refused-requires-4 : goal.refused-requires-4
refused-requires-4 c = (offers_refused c.busy-4.result c.busy-4.ensures).3
