-- `router::judge::first_past_room` meets its contract.
-- Assumes nothing.
use Rattle.std.proofs.Common.{arith}
use Rattle.std.proofs.lemmas.Grind.{common_steps}
use Rattle.rules.specs.Numbers.{credit_past_room}
use Rattle.router.proofs.FirstPort.{port_found}
use Rattle.router.proofs.judge.first_past_room.Goals as goal

pub returns-then-config-eq0 : goal.returns-then-config-eq0
unfolding credit_past_room
returns-then-config-eq0 c = port_found _ _ _ c.loop-o-test.true c.loop-o.invariant (grind (arith, common_steps))

pub returns-then-outputs-y : goal.returns-then-outputs-y
unfolding credit_past_room
returns-then-outputs-y c = port_found _ _ _ c.loop-o-test.true c.loop-o.invariant (grind (arith, common_steps))
