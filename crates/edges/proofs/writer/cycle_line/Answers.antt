-- `edges::writer::cycle_line` meets its contract.
-- Assumes nothing.
use Rattle.edges.proofs.writer.cycle_line.Goals as goal

pub answered-requires : goal.answered-requires
answered-requires c = rw (c.write_cycle-written.ensures, c.one_credit.ensures) c.requires
