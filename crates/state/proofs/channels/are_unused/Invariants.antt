-- `state::channels::are_unused` meets its contract: the channels passed so far are not in use.
-- Assumes nothing.
use Rattle.std.proofs.Common.{◌≡◌, ℕ, ◌<◌, true}
use Rattle.state.proofs.Clauses.{unused_from}
use Rattle.state.proofs.channels.are_unused.Given as goal

abbrev pub invariant-loop-x : goal.invariant-loop-x
invariant-loop-x l = (y : ℕ) → y < l.x → unused_from l.initial.x l.inputs l.outputs y ≡ true
