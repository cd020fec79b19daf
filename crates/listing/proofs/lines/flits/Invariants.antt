-- The lines of the ports passed are laid.
-- Assumes nothing.
use Rattle.std.proofs.Common.{◌+◌, ◌*◌, ◌≤◌}
use Rattle.listing.specs.Inside.{Laid}
use Rattle.listing.specs.Lines.{text, by_port, flit_line}
use Rattle.listing.proofs.lines.flits.Given as goal

abbrev pub invariant-loop-output : goal.invariant-loop-output
invariant-loop-output l =
    record {
      laid : Laid l.initial.out l.from (text (by_port (flit_line l.cycle.number l.reply) l.output)) l.out l.at;
      short : l.at ≤ l.from + 31 * l.output;
    }
