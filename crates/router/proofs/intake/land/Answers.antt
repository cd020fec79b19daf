-- `router::intake::land` meets its contract.
-- Assumes nothing.
use Rattle.std.proofs.Common.{arith}
use Rattle.std.proofs.lemmas.Grind.{common_steps}
use Rattle.router.proofs.Landing.{land_none, land_some, land_out, queues_fit}
use Rattle.router.proofs.intake.land.Goals as goal

-- nothing lands
pub loop-i-preserved-then-place-eq0 : goal.loop-i-preserved-then-place-eq0
loop-i-preserved-then-place-eq0 c = record {
  landed = land_none c.args.config _ _ _ _ _ c.loop-i.invariant.landed c.if-place-eq0.true;
  long = c.loop-i.invariant.long;
  fits = λ x. let l = c.loop-i.invariant.fits x in omega arith;
}

-- a flit on a VC that there is not
pub loop-i-preserved-then-x-ge-CHANNEL_PLACES : goal.loop-i-preserved-then-x-ge-CHANNEL_PLACES
loop-i-preserved-then-x-ge-CHANNEL_PLACES c = record {
  landed = land_out c.args.config _ _ _ _ _ c.loop-i.invariant.landed c.if-place-eq0.false _ _ c.vc_on_wire.ensures.value c.number-x.ensures
      c.loop-i.invariant.long c.if-x-ge-CHANNEL_PLACES.true;
  long = c.loop-i.invariant.long;
  fits = λ x. let l = c.loop-i.invariant.fits x in omega arith;
}

-- a flit on one that there is
pub loop-i-preserved : goal.loop-i-preserved
loop-i-preserved c = record {
  landed = land_some c.args.config _ _ _ _ _ c.loop-i.invariant.landed c.if-place-eq0.false _ _ c.vc_on_wire.ensures.value
      c.number-x.ensures _ c.with_one_more_queued.ensures _ c.push.ensures;
  long = grind (arith, common_steps);
  fits = queues_fit c.loop-i.inputs c.loop-i.i _ _ c.loop-i.invariant.fits c.with_one_more_queued.ensures;
}
