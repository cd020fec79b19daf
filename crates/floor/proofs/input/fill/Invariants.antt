-- `floor::input::fill`: what is read stays inside the buffer, and the loop ends.
-- Assumes nothing.
use Rattle.std.proofs.Common.{◌≡◌, ◌+◌, ◌-◌, ◌*◌, ◌≤◌, length}
use Rattle.floor.proofs.input.fill.Given as goal

abbrev pub invariant-loop-bytes : goal.invariant-loop-bytes
invariant-loop-bytes g l = (l.bytes ≤ length l.buf) × (l.tries ≤ 100) × (length l.buf ≡ length l.initial.buf)

-- a try that moves nothing costs one; a byte that came gives them back
abbrev pub decreases-loop-bytes : goal.decreases-loop-bytes
decreases-loop-bytes g l = (length l.buf - l.bytes) * 101 + l.tries
