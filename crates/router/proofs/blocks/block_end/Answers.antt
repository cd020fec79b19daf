-- `router::blocks::block_end` meets its contract.
-- Assumes nothing.
use native.Mathlib.Omega.{arith}
use Rattle.router.proofs.Rooms.{end_short, end_whole}
use Rattle.router.proofs.blocks.block_end.Goals as goal

pub returns-then-part-from-lt512 : goal.returns-then-part-from-lt512
returns-then-part-from-lt512 c =
    record {
      after = end_short c.args.part.now c.args.from c.requires c.if-part-from-lt512.true;
      inside = omega arith;
      short = omega arith;
    }

pub returns : goal.returns
returns c =
    record {
      after = end_whole c.args.part.now c.args.from c.if-part-from-lt512.false;
      inside = omega arith;
      short = omega arith;
    }
