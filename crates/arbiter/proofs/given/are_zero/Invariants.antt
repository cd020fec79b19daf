-- `arbiter::given::are_zero` meets its contract: the `|` of the rows passed is 0 just when each of them is.
-- Assumes nothing.
use Rattle.std.specs.Prelude.{◌≡◌, eqb}
use Rattle.base.proofs.Zeros.{blank}
use Rattle.arbiter.proofs.given.are_zero.Given as goal

abbrev pub invariant-loop-row : goal.invariant-loop-row
invariant-loop-row l = eqb l.any 0 ≡ blank 0 l.row-index l.rows
