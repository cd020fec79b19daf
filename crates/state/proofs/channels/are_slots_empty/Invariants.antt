-- `state::channels::are_slots_empty` meets its contract: the channels passed so far pass.
-- Assumes nothing.
use Rattle.std.proofs.Common.{◌≡◌, ℕ, ◌*◌, ◌<◌, true, get_or}
use Rattle.base.specs.Search.{every}
use Rattle.state.specs.Fresh.{fresh_input}
use Rattle.state.proofs.Clauses.{empty_behind}
use Rattle.state.proofs.channels.are_slots_empty.Given as goal

abbrev pub invariant-loop-x : goal.invariant-loop-x
invariant-loop-x l = (y : ℕ) → y < l.x → every 16 (empty_behind (16 * y) (get_or l.inputs y (fresh_input 0)).queued l.store) ≡ true
