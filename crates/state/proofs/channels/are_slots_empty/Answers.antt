-- `state::channels::are_slots_empty` meets its contract: the channels passed so far pass.
-- Assumes nothing.
use Rattle.std.proofs.Common.{rules, arith}
use Rattle.state.specs.Sound.{slots_empty}
use Rattle.state.proofs.Tests.{every_fails}
use Rattle.state.proofs.Passed.{passed}
use Rattle.state.proofs.channels.are_slots_empty.Goals as goal

pub returns-then-not-are_empty_behind : goal.returns-then-not-are_empty_behind
unfolding slots_empty
returns-then-not-are_empty_behind c = every_fails _ c.loop-x.x _ (search rules) (search rules)

pub returns : goal.returns
unfolding slots_empty
returns c = passed _ _ (λ y h. c.loop-x.invariant y (omega arith))
