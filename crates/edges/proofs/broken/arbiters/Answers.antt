-- `edges::broken::arbiters` meets its contract.
-- Assumes nothing.
use Rattle.std.proofs.Common.{rules}
use Rattle.state.proofs.SoundStates.{with_vc_arbiter, pointer_at, turns, config}
use Rattle.state.specs.Fresh.{fresh_router}
use Rattle.arbiter.specs.Arbiter as arbiter
use Rattle.edges.proofs.broken.arbiters.Goals as goal

pub returns : goal.returns
unfolding with_vc_arbiter pointer_at turns config fresh_router arbiter.fresh arbiter.known
returns c = search rules
