-- `router::intake::pay_senders` meets its contract.
-- Assumes nothing.
use Rattle.std.proofs.Common.{arith}
use Rattle.std.proofs.lemmas.Grind.{common_steps}
use Rattle.router.proofs.Paying.{sender_some, credits_fit}
use Rattle.router.proofs.intake.pay_senders.Goals as goal

pub loop-i-preserved : goal.loop-i-preserved
loop-i-preserved c = record {
  paid = grind (arith, sender_some);
  long = grind (arith, common_steps);
  fits = credits_fit c.loop-i.inputs c.loop-i.i _ _ c.loop-i.invariant.fits c.with_one_credit_more.ensures;
}
