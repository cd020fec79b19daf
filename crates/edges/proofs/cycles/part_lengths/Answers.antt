-- `edges::cycles::part_lengths` meets its contract.
-- Assumes nothing.
use mathlib.Core.Path.{refl}
use Rattle.edges.proofs.Limits.{length_refused}
use Rattle.edges.proofs.cycles.part_lengths.Goals as goal

pub refused-requires : goal.refused-requires
refused-requires c = length_refused c.busy.result c.busy.ensures _ refl

pub refused-requires-2 : goal.refused-requires-2
refused-requires-2 c = length_refused c.busy-2.result c.busy-2.ensures _ refl

pub refused-requires-3 : goal.refused-requires-3
refused-requires-3 c = length_refused c.busy-3.result c.busy-3.ensures _ refl
