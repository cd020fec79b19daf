-- `arbiter::asking::below` meets its contract: masking by all numbers below n is the remainder by 2 ^ n.
-- Assumes nothing.
use lib.Bits.{and_mask}
use Rattle.arbiter.proofs.asking.below.Goals as goal

pub returns : goal.returns
returns c = rw c.all.ensures (and_mask c.args.set c.args.n)
