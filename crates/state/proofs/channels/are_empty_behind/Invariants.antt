-- `state::channels::are_empty_behind` meets its contract: the slots passed so far pass.
-- Assumes nothing.
use Rattle.std.proofs.Common.{◌≡◌, ℕ, ◌<◌, true}
use Rattle.state.proofs.Clauses.{empty_behind}
use Rattle.state.proofs.channels.are_empty_behind.Given as goal

abbrev pub invariant-loop-k : goal.invariant-loop-k
invariant-loop-k l = (j : ℕ) → j < l.k → empty_behind l.base l.queued l.store j ≡ true
