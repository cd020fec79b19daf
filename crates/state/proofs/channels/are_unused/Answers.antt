-- `state::channels::are_unused` meets its contract: the channels passed so far are not in use.
-- Assumes nothing.
use Rattle.std.proofs.Common.{rules, arith}
use Rattle.state.specs.Sound.{channels_unused}
use Rattle.state.proofs.Tests.{every_fails}
use Rattle.state.proofs.channels.are_unused.Goals as goal

pub returns-then-not-is_input_unused : goal.returns-then-not-is_input_unused
unfolding channels_unused
returns-then-not-is_input_unused c = every_fails _ c.loop-x.x _ (search rules) (grind arith)
