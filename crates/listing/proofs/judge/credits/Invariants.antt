-- The lines of the ports passed are printable.
-- Assumes nothing.
use Rattle.std.proofs.Common.{◌≡◌, true}
use Rattle.listing.specs.Lines.{printable, by_port, credit_line}
use Rattle.listing.proofs.judge.credits.Given as goal

abbrev pub invariant-loop-input : goal.invariant-loop-input
invariant-loop-input l = printable (by_port (credit_line l.cycle l.reply) l.input) ≡ true
