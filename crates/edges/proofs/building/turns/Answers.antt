-- `edges::building::turns` meets its contract.
-- Assumes nothing.
use Rattle.std.proofs.Common.{rules}
use Rattle.state.proofs.SoundStates.{turns, config}
use Rattle.state.specs.Fresh.{built_of}
use Rattle.base.specs.Sizes.{illegal_field, first_illegal, in_range}
use Rattle.edges.proofs.building.turns.Goals as goal

pub returns : goal.returns
unfolding turns config built_of illegal_field first_illegal in_range
returns c = search rules
