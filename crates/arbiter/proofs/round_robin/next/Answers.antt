-- `arbiter::round_robin::next` meets its contract: the remainder by n is a wrap.
-- Assumes nothing.
use Rattle.arbiter.proofs.RoundRobin.{next_wraps, next_moves}
use Rattle.arbiter.proofs.round_robin.next.Goals as goal

pub returns-then-w-n : goal.returns-then-w-n
returns-then-w-n c = next_wraps c.args.n c.args.w c.if-w-n.true

pub returns-else-w-n : goal.returns-else-w-n
returns-else-w-n c = next_moves c.args.n c.args.w c.requires c.if-w-n.false
