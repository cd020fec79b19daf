-- `arbiter::matrix::choose` meets its contract: the search over the bits that are left is the whole search.
-- Assumes nothing.
use Rattle.arbiter.proofs.Champion.{Trying}
use Rattle.arbiter.proofs.matrix.choose.Given as goal

abbrev pub invariant-loop-left : goal.invariant-loop-left
invariant-loop-left l = Trying l.n l.asking l.rows l.left

abbrev pub decreases-loop-left : goal.decreases-loop-left
decreases-loop-left l = l.left
