-- `trace::bytes::are_zero` meets its contract: the `|` of the bytes passed is 0 just when each of them is.
-- Assumes nothing.
use Rattle.std.specs.Prelude.{◌≡◌, ◌+◌, eqb}
use Rattle.trace.specs.Bytes.{zeros}
use Rattle.trace.proofs.bytes.are_zero.Given as goal

abbrev pub invariant-loop-x : goal.invariant-loop-x
invariant-loop-x l = eqb l.any 0 ≡ zeros l.block l.from (l.from + l.x-index)
