-- The lines of the ports passed are laid.
-- Assumes nothing.
use Rattle.std.proofs.Common.{◌*◌, ◌≤◌}
use Rattle.listing.specs.Inside.{Laid}
use Rattle.listing.specs.Lines.{text, by_port, credit_line}
use Rattle.listing.proofs.lines.credits.Given as goal

abbrev pub invariant-loop-input : goal.invariant-loop-input
invariant-loop-input l =
    record {
      laid : Laid l.initial.out 0 (text (by_port (credit_line l.cycle.number l.reply) l.input)) l.out l.at;
      short : l.at ≤ 16 * l.input;
    }
