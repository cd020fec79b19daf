-- `state::lines::is_wire_sound` meets its contract.
-- Assumes nothing.
use Rattle.std.proofs.Common.{rules}
use Rattle.state.specs.Sound.{wire_place_legal, wire_legal}
use Rattle.state.proofs.WholeLine.{whole_line}
use Rattle.state.proofs.lines.is_wire_sound.Goals as goal

pub returns : goal.returns
unfolding wire_legal
returns c =
    let a = c.args in
    whole_line a.config.forward a.config.ports (wire_place_legal a.config) a.wire.now _ (search rules) c.requires.1 c.requires.0 (search rules)
