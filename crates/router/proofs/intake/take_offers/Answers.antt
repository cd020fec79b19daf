-- `router::intake::take_offers` meets its contract.
-- Assumes nothing.
use Rattle.std.proofs.Common.{sym, arith}
use Rattle.std.proofs.lemmas.Grind.{common_steps}
use Rattle.router.proofs.Offering.{brought_small, take_none, take_some, take_out}
use Rattle.router.proofs.intake.take_offers.Goals as goal

-- no flit comes
pub loop-i-preserved-in_default : goal.loop-i-preserved-in_default
loop-i-preserved-in_default c = record {
  taken = take_none c.args.config _ _ _ _ _ c.loop-i.invariant.taken c.in_default.ensures;
  long = c.loop-i.invariant.long;
}

pub overflow_add-wire : goal.overflow_add-wire
overflow_add-wire c =
    let small = brought_small c.args.part.now c.loop-i.i (λ k. (c.type_inv.part k).fits) c.in-Brings.offer (sym c.in-Brings.ensures) in
    let word = small.1 in
    record { fits = omega arith }

-- a flit on a VC that there is not
pub loop-i-preserved-then-x-ge-CHANNEL_PLACES : goal.loop-i-preserved-then-x-ge-CHANNEL_PLACES
loop-i-preserved-then-x-ge-CHANNEL_PLACES c = record {
  taken = take_out c.args.config _ _ _ _ _ c.loop-i.invariant.taken c.in-Brings.offer c.in-Brings.ensures _ c.wide-vc.ensures.value
      _ c.number-x.ensures (let l = c.loop-i.invariant.long in omega arith);
  long = c.loop-i.invariant.long;
}

-- a flit on one that there is
pub loop-i-preserved : goal.loop-i-preserved
loop-i-preserved c = record {
  taken = take_some c.args.config _ _ _ _ _ c.loop-i.invariant.taken c.in-Brings.offer c.in-Brings.ensures _ c.wide-vc.ensures.value
      _ c.number-x.ensures _ c.kind_of.ensures _ c.after_offer.ensures;
  long = grind (arith, common_steps);
}
