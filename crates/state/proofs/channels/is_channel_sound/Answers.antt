-- `state::channels::is_channel_sound` meets its contract: what is looked up is what the names of the two VCs say.
-- Assumes nothing.
use Rattle.std.proofs.Common.{rules, ◌≡◌}
use Rattle.state.specs.Testing.{names_sound, channel_sound}
use Rattle.state.proofs.Clauses.{names_pass-law}
use Rattle.state.proofs.channels.is_channel_sound.Goals as goal
use Rattle.state.proofs.channels.is_channel_sound.Goals.{After-are_names_sound}

named : (c : After-are_names_sound) → c.are_names_sound.result
    ≡ names_sound c.args.router.now.config c.args.router.now.inputs c.args.router.now.outputs c.args.i c.args.v
named c =
    names_pass-law _ _ _ _ _ c.bound_place.result c.held_place.result _ c.requires.0 c.bound_place.ensures.0 c.held_place.ensures.0
    c.are_names_sound.ensures

pub returns-then-are_names_sound : goal.returns-then-are_names_sound
unfolding channel_sound
returns-then-are_names_sound c =
    let e = named (goal.at.returns-then-are_names_sound c).After-are_names_sound in search rules

pub returns-else-are_names_sound : goal.returns-else-are_names_sound
unfolding channel_sound
returns-else-are_names_sound c =
    let e = named (goal.at.returns-else-are_names_sound c).After-are_names_sound in search rules
