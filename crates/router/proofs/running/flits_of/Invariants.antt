-- `router::running::flits_of` meets its contract: of the outputs passed so many have a flit.
-- Assumes nothing.
use Rattle.std.proofs.Common.{◌≤◌}
use Rattle.router.proofs.FlitCount.{CountIs}
use Rattle.router.proofs.running.flits_of.Given as goal

abbrev pub invariant-loop-left : goal.invariant-loop-left
invariant-loop-left l = (l.count ≤ l.left-index) × CountIs l.fn.reply.outputs l.left-index l.count
