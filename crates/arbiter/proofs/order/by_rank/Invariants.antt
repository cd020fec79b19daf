-- `arbiter::order::by_rank` meets its contract: each store keeps what the table says of the rows passed.
-- Assumes nothing.
use Rattle.arbiter.proofs.Ranks.{Ranked}
use Rattle.arbiter.proofs.order.by_rank.Given as goal

abbrev pub invariant-loop-i : goal.invariant-loop-i
invariant-loop-i l = Ranked l.n l.rows l.at l.i
