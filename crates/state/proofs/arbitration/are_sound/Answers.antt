-- `state::arbitration::are_sound` meets its contract: the ports passed so far pass.
-- Assumes nothing.
use Rattle.std.proofs.Common.{sym}
use Rattle.state.specs.Sound.{arbiters_sound}
use Rattle.state.specs.Testing.{port_arbiters}
use Rattle.state.proofs.Tests.{every_none, every_more, every_passed, every_fails}
use Rattle.state.proofs.arbitration.are_sound.Goals as goal

pub loop-i-init : goal.loop-i-init
loop-i-init c = every_none _

pub are_sound_of-requires : goal.are_sound_of-requires
are_sound_of-requires c = c.requires

pub returns-then-not-are_sound_of : goal.returns-then-not-are_sound_of
unfolding arbiters_sound port_arbiters
returns-then-not-are_sound_of c =
    every_fails c.args.config.ports c.loop-i.i _ c.loop-i-test.true (sym c.if-not-are_sound_of.ensures)

pub loop-i-preserved : goal.loop-i-preserved
loop-i-preserved c = every_more c.loop-i.i _ c.loop-i.invariant (sym c.if-not-are_sound_of.ensures)

pub returns : goal.returns
unfolding arbiters_sound port_arbiters
returns c = sym (every_passed c.args.config.ports c.loop-i.i _ c.loop-i.auto.i-end c.loop-i-test.false c.loop-i.invariant)
