-- `router::switching::column` meets its contract.
-- Assumes nothing.
use Rattle.std.proofs.Common.{◌≡◌, ℕ}
use Rattle.base.specs.Bits.{word_of}
use Rattle.router.specs.Picks.{asks_in}
use Rattle.router.proofs.switching.column.Given as goal

abbrev pub invariant-loop-i : goal.invariant-loop-i
invariant-loop-i l = l.set ≡ word_of (λ (i : ℕ). asks_in l.table i l.o) l.i
