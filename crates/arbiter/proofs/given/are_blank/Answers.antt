-- `arbiter::given::are_blank` meets its contract.
-- Assumes nothing.
use Rattle.std.proofs.Common.{◌∙◌}
use Rattle.base.proofs.Zeros.{all_in_rest}
use Rattle.arbiter.specs.Matrix.{blank_from}
use Rattle.arbiter.proofs.given.are_blank.Goals as goal

pub returns : goal.returns
unfolding blank_from
returns c = c.are_zero.ensures ∙ all_in_rest c.args.from c.args.rows.now
