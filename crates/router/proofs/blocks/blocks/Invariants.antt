-- `router::blocks::blocks` meets its contract: block after block, until the part is used up, the run is over or the room is too little.
-- Assumes nothing.
use mathlib.Core.Path.{◌≡◌}
use Prim.Native.Nat.{◌≤◌, ◌-◌}
use lib.ListN.{length}
use Rattle.router.specs.Running.{going_on}
use Rattle.router.specs.Inside.{Ongoing, writing_of}
use Rattle.router.proofs.blocks.blocks.Given as goal

abbrev pub invariant-each : goal.invariant-each
invariant-each l =
    (l.from ≤ length l.part)
    × (going_on l.part (l.count - l.counter) (record { used = l.from; asks = 0; writing = writing_of l.config l.run l.store l.wire l.home l.out })
    ≡ going_on l.part l.count (record {
      used = l.first;
      asks = 0;
      writing = writing_of l.config l.initial.run l.initial.store
          l.initial.wire l.initial.home l.initial.out;
    }))
    × Ongoing (writing_of l.config l.run l.store l.wire l.home l.out) × (length l.out ≡ length l.initial.out)
