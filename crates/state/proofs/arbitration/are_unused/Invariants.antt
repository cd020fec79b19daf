-- `state::arbitration::are_unused` meets its contract: the ports passed so far have no arbiters.
-- Assumes nothing.
use mathlib.Core.Path.{◌≡◌}
use Prim.Native.Nat.{◌≤◌, ◌-◌}
use mathlib.Core.Bool.{true}
use Rattle.base.specs.Search.{every}
use Rattle.state.proofs.PortArbiters.{none_from}
use Rattle.state.proofs.arbitration.are_unused.Given as goal

abbrev pub invariant-loop-i : goal.invariant-loop-i
invariant-loop-i l = (l.initial.i ≤ l.i) × (l.i ≤ 8) × (every l.i (none_from l.initial.i l.vcs l.inputs l.outputs) ≡ true)

abbrev pub decreases-loop-i : goal.decreases-loop-i
decreases-loop-i l = 8 - l.i
