-- `arbiter::given::are_zero` meets its contract.
-- Assumes nothing.
use Rattle.std.proofs.Common.{◌∙◌, sym, ap, arith, ◌≡◌, length}
use Rattle.base.proofs.Zeros.{blank, blank_none, blank_more, all_after}
use Rattle.arbiter.proofs.given.are_zero.Goals as goal

pub loop-row-init : goal.loop-row-init
loop-row-init c = blank_none 0 c.args.rows.now

pub loop-row-preserved : goal.loop-row-preserved
loop-row-preserved c = blank_more 0 c.loop-row.row-index c.loop-row.any c.args.rows.now (omega arith) c.loop-row.invariant

pub returns : goal.returns
returns c =
    let all : c.loop-row.row-index ≡ length c.args.rows.now = omega arith in
    c.loop-row.invariant ∙ ap (λ k. blank 0 k c.args.rows.now) all ∙ sym (all_after 0 c.args.rows.now)
