-- `runs::is_inside` meets its contract: the search goes up, and none was found so far.
-- Assumes nothing.
use Prim.Native.Nat.{◌-◌, ◌≤◌}
use Rattle.runs.proofs.Tests.{NoneBelow}
use Rattle.runs.proofs.is_inside.Given as goal

abbrev pub invariant-loop-inside : goal.invariant-loop-inside
invariant-loop-inside l = (l.inside ≤ 7) × NoneBelow l.before l.cycles l.inside

abbrev pub decreases-loop-inside : goal.decreases-loop-inside
decreases-loop-inside l = 7 - l.inside
