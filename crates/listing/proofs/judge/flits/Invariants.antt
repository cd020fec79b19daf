-- The lines of the ports passed are printable.
-- Assumes nothing.
use Rattle.std.proofs.Common.{◌≡◌, true}
use Rattle.listing.specs.Lines.{printable, by_port, flit_line}
use Rattle.listing.proofs.judge.flits.Given as goal

abbrev pub invariant-loop-output : goal.invariant-loop-output
invariant-loop-output l = printable (by_port (flit_line l.cycle l.reply) l.output) ≡ true
