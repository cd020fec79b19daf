-- `state::channels::is_port_sound` meets its contract: the VCs passed so far pass.
-- Assumes nothing.
use Rattle.std.proofs.Common.{◌≡◌, ℕ, ◌<◌, true}
use Rattle.state.specs.Testing.{channel_sound}
use Rattle.state.proofs.channels.is_port_sound.Given as goal

abbrev pub invariant-loop-v : goal.invariant-loop-v
invariant-loop-v l =
    let r = l.router in (w : ℕ) → w < l.v → channel_sound r.config r.inputs r.outputs r.store r.wire r.home l.i w ≡ true
