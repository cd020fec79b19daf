-- `router::arbitration::move_on` meets its contract.
-- Assumes nothing.
use Rattle.std.proofs.Common.{◌≡◌, length}
use Rattle.arbiter.specs.Requests.{width}
use Rattle.rules.specs.Ports.{over_ports}
use Rattle.router.proofs.Moving.{turn}
use Rattle.router.proofs.arbitration.move_on.Given as goal

abbrev pub invariant-loop-i : goal.invariant-loop-i
invariant-loop-i g l =
    (length l.arbiters ≡ 8) × (l.arbiters ≡ over_ports l.i (turn g.row.PLACES l.config (width g.row.PLACES l.n) l.picks) l.initial.arbiters)
