-- `trace::check::check_of` meets its contract: the loop has summed the bytes passed, each with its weight.
-- Assumes nothing.
use Rattle.std.proofs.Common.{refl, arith}
use Rattle.std.proofs.lemmas.List.{length-take}
use Rattle.trace.proofs.Weights.{sum_start, weights_step, weights_end}
use Rattle.trace.proofs.check.check_of.Goals as goal

pub loop-x-init : goal.loop-x-init
loop-x-init c = (refl, sum_start c.args.block.now)

pub overflow_mul-sum : goal.overflow_mul-sum
overflow_mul-sum c =
    let step = weights_step c.args.block.now (λ i. (c.type_inv.block i).fits) c.loop-x.x-index c.loop-x.sum c.loop-x.weight c.from.result
    c.loop-x-test.true c.loop-x.invariant.0 c.from.ensures c.loop-x.invariant.1 in
    omega arith

pub overflow_add-sum : goal.overflow_add-sum
overflow_add-sum c =
    let step = weights_step c.args.block.now (λ i. (c.type_inv.block i).fits) c.loop-x.x-index c.loop-x.sum c.loop-x.weight c.from.result
    c.loop-x-test.true c.loop-x.invariant.0 c.from.ensures c.loop-x.invariant.1 in
    omega arith

pub overflow_add-weight : goal.overflow_add-weight
overflow_add-weight c = omega (arith, length-take 510 c.args.block.now)

pub loop-x-preserved : goal.loop-x-preserved
loop-x-preserved c =
    let step = weights_step c.args.block.now (λ i. (c.type_inv.block i).fits) c.loop-x.x-index c.loop-x.sum c.loop-x.weight c.from.result
    c.loop-x-test.true c.loop-x.invariant.0 c.from.ensures c.loop-x.invariant.1 in
    (omega arith, step.1)

pub returns : goal.returns
returns c = weights_end c.args.block.now c.loop-x.x-index c.loop-x.sum c.loop-x.invariant.1 (omega (arith, length-take 510 c.args.block.now))
