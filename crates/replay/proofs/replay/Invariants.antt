-- `replay::replay`: the buffer that a part is read into keeps its length.
-- Assumes nothing.
use Rattle.std.proofs.Common.{◌≡◌, length}
use Rattle.replay.proofs.replay.Given as goal

abbrev pub invariant-each : goal.invariant-each
invariant-each g l = length l.buf ≡ length l.initial.buf
