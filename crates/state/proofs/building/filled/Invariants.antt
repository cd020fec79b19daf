-- `state::building::filled` meets its contract: the places passed are filled.
-- Assumes nothing.
use Rattle.std.proofs.Common.{◌≡◌}
use Rattle.state.specs.Fresh.{filled}
use Rattle.state.proofs.building.filled.Given as goal

abbrev pub invariant-loop-k : goal.invariant-loop-k
invariant-loop-k g l = l.made ≡ filled l.k g.row.PLACES l.used l.fn.unused
