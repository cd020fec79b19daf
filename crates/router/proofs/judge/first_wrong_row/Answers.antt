-- `router::judge::first_wrong_row` meets its contract.
-- Assumes nothing.
use Rattle.std.proofs.Common.{rules}
use Rattle.router.proofs.FirstPort.{port_found}
use Rattle.router.proofs.judge.first_wrong_row.Goals as goal

pub returns-then-breaks : goal.returns-then-breaks
returns-then-breaks c = port_found _ _ _ c.loop-i-test.true c.loop-i.invariant (search rules)
