-- `arbiter::order::is_total` meets its contract: the ranks passed have their links, so what it answers is what the definition asks.
-- Assumes nothing.
use Rattle.arbiter.proofs.OrderTest.{Passed, entry}
use Rattle.arbiter.proofs.order.is_total.Given as goal

abbrev pub invariant-loop-rank : goal.invariant-loop-rank
invariant-loop-rank l = Passed l.n l.rows (entry l.at) l.lower l.rank
