-- `router::judge::first_without_credit` meets its contract.
-- Assumes nothing.
use Rattle.std.proofs.Common.{arith}
use Rattle.std.proofs.lemmas.Grind.{common_steps}
use Rattle.rules.specs.Numbers.{no_sender_credit}
use Rattle.router.proofs.FirstPort.{port_found}
use Rattle.router.proofs.judge.first_without_credit.Goals as goal

pub returns-then-x-ge-CHANNEL_PLACES : goal.returns-then-x-ge-CHANNEL_PLACES
unfolding no_sender_credit
returns-then-x-ge-CHANNEL_PLACES c = port_found _ _ _ c.loop-i-test.true c.loop-i.invariant (grind (arith, common_steps))

pub returns-then-paid-x-eq0 : goal.returns-then-paid-x-eq0
unfolding no_sender_credit
returns-then-paid-x-eq0 c = port_found _ _ _ c.loop-i-test.true c.loop-i.invariant (grind (arith, common_steps))
