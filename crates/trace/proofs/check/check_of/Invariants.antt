-- `trace::check::check_of` meets its contract: the loop has summed the bytes passed, each with its weight.
-- Assumes nothing.
use Rattle.std.specs.Prelude.{◌≡◌, ◌+◌}
use Rattle.trace.specs.Check.{sum, weighed}
use Rattle.trace.proofs.check.check_of.Given as goal

abbrev pub invariant-loop-x : goal.invariant-loop-x
invariant-loop-x l = (l.weight ≡ l.x-index + 1) × (l.sum ≡ sum l.x-index (weighed l.block))
