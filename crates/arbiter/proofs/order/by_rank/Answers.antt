-- `arbiter::order::by_rank` meets its contract: each store keeps what the table says of the rows passed.
-- Assumes nothing.
use Rattle.std.proofs.Common.{arith, get_or}
use lib.Count.{ones-le}
use Rattle.arbiter.proofs.Ranks.{ranked_none, ranked_more}
use Rattle.arbiter.proofs.order.by_rank.Goals as goal

pub loop-i-init : goal.loop-i-init
loop-i-init c = ranked_none c.args.n c.args.rows.now c.requires.0

-- a word of 32 bits has at most 32 of them set
pub loop-i-preserved : goal.loop-i-preserved
loop-i-preserved c =
    let few = ones-le 32 (get_or c.args.rows.now c.loop-i.i 0) (c.type_inv.rows c.loop-i.i).fits in
    ranked_more c.args.n c.args.rows.now c.loop-i.at c.loop-i.i c.requires.1 c.loop-i-test.true (omega arith) c.loop-i.invariant

pub returns : goal.returns
returns c =
    record {
      inside = c.loop-i.invariant.inside;
      ranked = λ i h. c.loop-i.invariant.same i (let t = c.loop-i-test.false in omega arith);
    }
