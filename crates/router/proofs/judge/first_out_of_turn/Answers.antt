-- `router::judge::first_out_of_turn` meets its contract.
-- Assumes nothing.
use Rattle.std.proofs.Common.{arith}
use Rattle.std.proofs.lemmas.Grind.{common_steps}
use Rattle.rules.specs.Numbers.{out_of_turn}
use Rattle.router.proofs.FirstPort.{port_found}
use Rattle.router.proofs.judge.first_out_of_turn.Goals as goal

pub returns-then-x-ge-CHANNEL_PLACES : goal.returns-then-x-ge-CHANNEL_PLACES
unfolding out_of_turn
returns-then-x-ge-CHANNEL_PLACES c = port_found _ _ _ c.loop-i-test.true c.loop-i.invariant (grind (arith, common_steps))

pub returns-then-first-inputs : goal.returns-then-first-inputs
unfolding out_of_turn
returns-then-first-inputs c = port_found _ _ _ c.loop-i-test.true c.loop-i.invariant (grind (arith, common_steps))
