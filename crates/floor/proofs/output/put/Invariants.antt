-- `floor::output::put`: it stays inside its buffer, and the loop ends.
-- Assumes nothing.
use Rattle.std.proofs.Common.{◌+◌, ◌-◌, ◌*◌, ◌≤◌}
use Rattle.floor.proofs.output.put.Given as goal

abbrev pub invariant-loop-done : goal.invariant-loop-done
invariant-loop-done g l = (l.done ≤ l.bytes) × (l.tries ≤ 100)

-- a try that moves nothing costs one; a byte that went gives them back
abbrev pub decreases-loop-done : goal.decreases-loop-done
decreases-loop-done g l = (l.bytes - l.done) * 101 + l.tries
