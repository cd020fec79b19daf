-- `state::channels::are_sound` meets its contract: the ports passed so far pass.
-- Assumes nothing.
use Rattle.std.proofs.Common.{◌≡◌, ℕ, ◌<◌, true}
use Rattle.base.specs.Search.{every}
use Rattle.state.specs.Testing.{channel_sound}
use Rattle.state.proofs.channels.are_sound.Given as goal

abbrev pub invariant-loop-i : goal.invariant-loop-i
invariant-loop-i l =
    let r = l.router in
    (j : ℕ) → j < l.i → every r.config.vcs (channel_sound r.config r.inputs r.outputs r.store r.wire r.home j) ≡ true
