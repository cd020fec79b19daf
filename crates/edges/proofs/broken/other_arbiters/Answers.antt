-- `edges::broken::other_arbiters` meets its contract.
-- Assumes nothing.
use Rattle.std.proofs.Common.{rules}
use Rattle.state.proofs.SoundStates.{with_input_arbiter, pointer_at, turns, config}
use Rattle.state.specs.Fresh.{fresh_router}
use Rattle.edges.proofs.broken.other_arbiters.Goals as goal

pub returns : goal.returns
unfolding with_input_arbiter pointer_at turns config fresh_router
returns c = search rules
