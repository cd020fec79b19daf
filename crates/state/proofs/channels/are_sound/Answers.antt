-- `state::channels::are_sound` meets its contract: a port that does not pass fails.
-- Assumes nothing.
use Rattle.std.proofs.Common.{rules}
use Rattle.state.proofs.Tests.{every_fails}
use Rattle.state.proofs.channels.are_sound.Goals as goal

pub returns-then-not-is_port_sound : goal.returns-then-not-is_port_sound
returns-then-not-is_port_sound c = every_fails _ c.loop-i.i _ (search rules) (search rules)
