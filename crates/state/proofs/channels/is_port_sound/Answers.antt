-- `state::channels::is_port_sound` meets its contract: a VC that does not pass fails.
-- Assumes nothing.
use Rattle.std.proofs.Common.{rules}
use Rattle.state.proofs.Tests.{every_fails}
use Rattle.state.proofs.channels.is_port_sound.Goals as goal

pub returns-then-not-is_channel_sound : goal.returns-then-not-is_channel_sound
returns-then-not-is_channel_sound c = every_fails _ c.loop-v.v _ (search rules) (search rules)
