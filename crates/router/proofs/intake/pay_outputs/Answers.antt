-- `router::intake::pay_outputs` meets its contract.
-- Assumes nothing.
use Rattle.std.proofs.Common.{arith}
use Rattle.std.proofs.lemmas.Grind.{common_steps}
use Rattle.router.proofs.Paying.{output_some, output_credits_fit}
use Rattle.router.proofs.intake.pay_outputs.Goals as goal

pub loop-o-preserved : goal.loop-o-preserved
loop-o-preserved c = record {
  paid = grind (arith, output_some);
  long = grind (arith, common_steps);
  fits = output_credits_fit c.loop-o.outputs c.loop-o.o _ _ c.loop-o.invariant.fits c.with_one_more_back.ensures;
}
