-- `state::lines::is_home_sound` meets its contract.
-- Assumes nothing.
use Rattle.std.proofs.Common.{rules, leb}
use Rattle.state.specs.Sound.{home_legal}
use Rattle.state.proofs.WholeLine.{whole_line}
use Rattle.state.proofs.lines.is_home_sound.Goals as goal

pub returns : goal.returns
unfolding home_legal
returns c =
    let a = c.args in
    whole_line a.config.back a.config.ports (λ place. leb place a.config.vcs) a.home.now _ (search rules) c.requires.1 c.requires.0 (search rules)
