-- `router::running::cycles` meets its contract: cycle after cycle, until one is refused.
-- Assumes nothing.
use mathlib.Core.Path.{◌≡◌}
use Prim.Native.Nat.{◌-◌}
use lib.ListN.{length}
use Rattle.router.specs.Running.{cycles_from}
use Rattle.router.specs.Inside.{GoesOn, writing_of}
use Rattle.router.proofs.running.cycles.Given as goal

abbrev pub invariant-loop-k : goal.invariant-loop-k
invariant-loop-k l =
    (cycles_from l.block l.k (l.held - l.k) (writing_of l.config l.run l.store l.wire l.home l.out)
    ≡ cycles_from l.block 0 l.held (writing_of l.config l.initial.run l.initial.store l.initial.wire l.initial.home l.initial.out))
    × GoesOn (writing_of l.config l.run l.store l.wire l.home l.out) × (length l.out ≡ length l.initial.out)
