-- `arbiter::asking::only` meets its contract: shifting 1 by less than 32 loses nothing.
-- Assumes nothing.
use Rattle.base.proofs.Bits.{shl_one}
use Rattle.arbiter.proofs.asking.only.Goals as goal

pub returns : goal.returns
returns c = shl_one 32 c.args.i c.requires
