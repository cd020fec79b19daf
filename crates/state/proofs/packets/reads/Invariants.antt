-- `state::packets::reads` meets its contract: the reading that is left is the whole reading, over the queue and then over the wire.
-- Assumes nothing.
use Rattle.std.proofs.Common.{Option, Bool, ℕ, ◌++◌}
use Rattle.state.specs.declared.InputVc.{InputVc}
use Rattle.state.specs.declared.Router.{Router}
use Rattle.state.specs.Views.{queue_of}
use Rattle.state.specs.Sound.{reading, begins_inside}
use Rattle.state.proofs.Reading.{Judging, ReadingQueue, ReadingWire, wire_flits}
use Rattle.state.proofs.packets.reads.Given as goal

-- what reading queue and wire gives
abbrev whole : Router → ℕ → ℕ → InputVc → Option Bool
whole r i v x =
    let queue = queue_of r.config r.store i v x.queued in
    reading (begins_inside queue x.binding) (queue ++ wire_flits r.config.forward r.wire i v)

abbrev pub invariant-loop-k : goal.invariant-loop-k
invariant-loop-k l =
    ReadingQueue l.base l.queued l.router.store (wire_flits l.router.config.forward l.router.wire l.i l.v) (whole l.router l.i l.v l.input)
    l.inside l.k
    × Judging l.router.config l.base l.queued l.router.store l.k

abbrev pub invariant-loop-j : goal.invariant-loop-j
invariant-loop-j l = ReadingWire l.router.config.forward l.router.wire l.i l.v (whole l.router l.i l.v l.input) l.inside l.j
