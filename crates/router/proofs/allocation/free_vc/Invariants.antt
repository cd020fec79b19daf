-- `router::allocation::free_vc` meets its contract.
-- Assumes nothing.
use Rattle.std.proofs.Common.{◌≡◌, ℕ, ◌<◌, false}
use Rattle.router.proofs.Granting.{free}
use Rattle.router.proofs.allocation.free_vc.Given as goal

abbrev pub invariant-loop-w : goal.invariant-loop-w
invariant-loop-w l = (k : ℕ) → k < l.w → free l.config l.outputs l.o k ≡ false
