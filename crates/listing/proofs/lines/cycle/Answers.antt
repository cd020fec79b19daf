-- The C lines, then the F lines after them.
-- Assumes nothing.
use Rattle.std.proofs.Common.{arith}
use Rattle.listing.proofs.Ports.{cycle_text, cycle_parts}
use Rattle.listing.proofs.Stores.{laid_as, laid_more}
use Rattle.listing.proofs.lines.cycle.Goals as goal

pub credits-at-requires : goal.credits-at-requires
credits-at-requires c = rw c.of-spelling.ensures ((cycle_parts _ _ c.requires.0).0, omega arith)

pub flits-requires : goal.flits-requires
flits-requires c = rw c.of-spelling.ensures ((cycle_parts _ _ c.requires.0).1, omega (arith, c.credits-at.auto.out))

pub returns : goal.returns
returns c =
    laid_as (laid_more (rw c.of-spelling.ensures at c.credits-at.ensures.0) (rw c.of-spelling.ensures at c.flits.ensures)) (cycle_text _ _)
